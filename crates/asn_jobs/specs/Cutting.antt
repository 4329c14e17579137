-- The texts of messages, which stand in an input one after the other.
use Rattle.std.specs.Prelude.{◌≡◌, ◌==◌, ◌+◌, ◌-◌, ◌^◌, ◌||◌, ℕ, Bool, not, List, [], ◌∷◌, ◌++◌, if◌then◌else◌, min, Option, Some, None, Result, IfOk, OnOk, IfSome, MatchBool, MatchOption}
use Rattle.std.specs.Io.BufRead.{strip_last}
use Rattle.std.specs.List.{before_first, list_all}
use Rattle.asn_jobs.specs.Lines.{begun}
use Rattle.asn_jobs.specs.Texts.{is_blank, is_end, is_comment}
use Rattle.asn_jobs.specs.declared.job.RunFault.{RunFault}
use Rattle.asn_jobs.specs.declared.texts.OctetForm.{OctetForm}
use Rattle.asn_jobs.specs.declared.texts.OctetForm.TheVariants as form

-- ---- lines and their numbers

-- the lines, each with its LF; the last may lack it
abbrev pub ended_lines : List ℕ → List (List ℕ)
ended_lines [] = []
ended_lines (x ∷ xs) = if x == 10 then (x ∷ []) ∷ ended_lines xs else begun x (ended_lines xs)

-- a line's number, counted from 1, and the line with its LF
abbrev pub Line : Type 0
Line = ℕ × List ℕ

-- the number after n; 2^64 - 1 stands for all that are greater
abbrev pub number_after : ℕ → ℕ
number_after n = min (n + 1) (2 ^ 64 - 1)

-- the lines, of which the first has the number after n
abbrev pub numbered : ℕ → List (List ℕ) → List Line
numbered n [] = []
numbered n (line ∷ lines) = (number_after n, line) ∷ numbered (number_after n) lines

-- the lines of what is left of an input, after n lines of it
abbrev pub lines_after : ℕ → List ℕ → List Line
lines_after n left = numbered n (ended_lines left)

-- ---- lines of hexadecimal

-- SPACE, CHARACTER TABULATION, CARRIAGE RETURN or LINE FEED
abbrev pub is_gap : ℕ → Bool
is_gap x = is_blank x || is_end x

abbrev pub is_blank_line : List ℕ → Bool
is_blank_line line = list_all is_gap line

-- a line that has more than blanks and a comment
abbrev pub has_word : List ℕ → Bool
has_word line = not (is_blank_line (before_first is_comment line))

-- the lines from the first that has a word
abbrev pub from_word : List Line → List Line
from_word [] = []
from_word (line ∷ lines) = if has_word line.1 then line ∷ lines else from_word lines

-- the octets of the lines up to a blank one, which is with them
abbrev pub block : List Line → List ℕ
block [] = []
block (line ∷ lines) = if is_blank_line line.1 then line.1 else line.1 ++ block lines

-- the lines after it
abbrev pub after_block : List Line → List Line
after_block [] = []
after_block (line ∷ lines) = if is_blank_line line.1 then lines else after_block lines

-- ---- texts

-- the number of the line at which a text begins, its octets, and the lines after it
abbrev pub Cut : Type 0
Cut = ℕ × List ℕ × List Line

-- the first line, of which this is the text
abbrev pub first_line : (List ℕ → List ℕ) → List Line → Option Cut
first_line text_of [] = None
first_line text_of (line ∷ lines) = Some (line.0, text_of line.1, lines)

-- the first line, and those after it up to a blank one
abbrev pub first_block : List Line → Option Cut
first_block [] = None
first_block (line ∷ lines) = Some (line.0, line.1 ++ block lines, after_block lines)

-- without the LF at its end
abbrev pub unended : List ℕ → List ℕ
unended line = strip_last 10 line

-- without the LF at its end, and then without a CARRIAGE RETURN there
abbrev pub unreturned : List ℕ → List ℕ
unreturned line = strip_last 13 (strip_last 10 line)

-- the first text of this form, or of none, in what is left of an input after n lines of it
abbrev pub first_text : Option OctetForm → ℕ → List ℕ → Option Cut
first_text None n left = first_line unreturned (lines_after n left)
first_text (Some form.Base64) n left = first_line unreturned (lines_after n left)
first_text (Some form.Hex) n left = first_line unended (from_word (lines_after n left))
first_text (Some form.HexBlock) n left = first_block (from_word (lines_after n left))
first_text (Some form.Dump) n left = first_block (from_word (lines_after n left))
first_text (Some form.Binary) n left = if n == 0 then Some (1, left, []) else None

-- ---- what a call did, where the octets are known that its reader is to give

-- the lines begin with this one, after which these octets are left
abbrev pub Leaves : List Line → ℕ → List ℕ → Option (List ℕ) → Type 0
Leaves lines at line left =
    (octets : List ℕ) × (left ≡ Some octets) × (lines ≡ (at, line) ∷ lines_after at octets)

-- it tells whether there is a first of the lines that are made of the octets, and has written that
abbrev pub FindsLine :
    Result Bool RunFault → (List ℕ → List Line) → Option (List ℕ) → ℕ → Option (List ℕ) → List ℕ → Type 0
FindsLine r lines_of given n left text = IfOk r (λ is_there. IfSome given (λ octets.
    MatchBool is_there (Leaves (lines_of octets) n text left) (lines_of octets ≡ [])))

-- it has added the next line; or there is none
abbrev pub AddsLine :
    Result Bool RunFault → ℕ → Option (List ℕ) → ℕ → Option (List ℕ) → List ℕ → List ℕ → Type 0
AddsLine r before given n left old new = IfOk r (λ is_there. IfSome given (λ octets. MatchBool is_there
    ((line : List ℕ) × (new ≡ old ++ line) × Leaves (lines_after before octets) n line left)
    ((new ≡ old) × (octets ≡ []) × (left ≡ Some []))))

-- it has added the lines up to a blank one
abbrev pub AddsBlock :
    Result Unit RunFault → ℕ → Option (List ℕ) → ℕ → Option (List ℕ) → List ℕ → List ℕ → Type 0
AddsBlock r before given n left old new = OnOk r (IfSome given (λ given.
    (octets : List ℕ) × (left ≡ Some octets) × (new ≡ old ++ block (lines_after before given))
    × (lines_after n octets ≡ after_block (lines_after before given))))

-- it answers the number of the line at which the first text begins, and has written that, and these octets are left;
-- None where there is no text
abbrev pub CutsFirst :
    Result (Option ℕ) RunFault → Option OctetForm → ℕ → Option (List ℕ) → ℕ → Option (List ℕ) → List ℕ → Type 0
CutsFirst r form before given n left text = IfOk r (λ o. IfSome given (λ given. MatchOption o
    (first_text form before given ≡ None)
    (λ at. (octets : List ℕ) × (left ≡ Some octets)
    × (first_text form before given ≡ Some (at, text, lines_after n octets)))))
