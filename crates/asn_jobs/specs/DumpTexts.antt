-- Hexadecimal dumps: the lines of one message, in one of four forms, or an array of C.
use Rattle.std.specs.Prelude.{◌==◌, ◌||◌, ◌&&◌, ◌++◌, ℕ, Bool, true, false, not, List, [], ◌∷◌, length, drop, map, nat_lt, if◌then◌else◌, Option, Some, None, option_and_then, option_map}
use Rattle.std.specs.Option.{is_some}
use Rattle.std.specs.Io.BufRead.{strip_last}
use Rattle.std.specs.List.{before_first, list_all, list_any, position_or_len}
use Rattle.hex.specs.Hex.{is_hex_digit}
use Rattle.asn_jobs.specs.Lines.{lines_of}
use Rattle.asn_jobs.specs.Texts.{is_blank, is_comment, unprefixed}
use Rattle.asn_jobs.specs.DumpWords.{after_word, are_blanks, first_word, offset_of}
use Rattle.asn_jobs.specs.DumpLines.{line_octets, marked_offset, words}
use Rattle.asn_jobs.specs.declared.dump_lines.DumpForm.{DumpForm}
use Rattle.asn_jobs.specs.declared.dump_lines.DumpForm.TheVariants as dump

-- ---- the first line

-- no digit, x, COLON or COMMA: an octet of other lines than those of offsets and octets
abbrev pub is_foreign_octet : ℕ → Bool
is_foreign_octet x =
    not (is_hex_digit x) && (not (x == 120) && (not (x == 88) && (not (x == 58) && not (x == 44))))

abbrev pub is_foreign : List ℕ → Bool
is_foreign line = list_any is_foreign_octet (first_word line)

-- no more than blanks and a comment
abbrev pub is_passed : List ℕ → Bool
is_passed line = are_blanks (before_first is_comment line)

abbrev pub has_offsets : DumpForm → Bool
has_offsets dump.Marked = true
has_offsets dump.Bare = true
has_offsets dump.Words = false
has_offsets dump.Packed = false

-- one word of more than two digits, with 0x in front of them or without
abbrev pub is_packed : List ℕ → Bool
is_packed line = are_blanks (after_word line)
    && (nat_lt 2 (length (unprefixed (first_word line))) && list_all is_hex_digit (unprefixed (first_word line)))

-- the form of a line that begins with what could be this offset. 0 alone is in doubt, and so are another number and words
abbrev pub form_at : Option ℕ → List ℕ → Option DumpForm
form_at None line = Some (if is_packed line then dump.Packed else dump.Words)
form_at (Some offset) line =
    if offset == 0
    then if are_blanks (after_word line) then None else Some dump.Bare
    else if are_blanks (after_word line) then Some dump.Packed else None

-- the form of the first line of a message, and so of all; None if it is in doubt
abbrev pub form_of : List ℕ → Option DumpForm
form_of line =
    if is_some (marked_offset (first_word line)) then Some dump.Marked
    else form_at (offset_of (first_word line)) line

-- ---- arrays of C

abbrev pub is_octet : ℕ → ℕ → Bool
is_octet wanted x = x == wanted

-- what follows the first of these octets
abbrev pub after_first : ℕ → List ℕ → List ℕ
after_first wanted text = drop 1 (drop (position_or_len (is_octet wanted) text) text)

-- the last octet that is no blank is a SEMICOLON; of a text of blanks this is said
abbrev pub ends_well : Bool → List ℕ → Bool
ends_well said [] = said
ends_well said (x ∷ xs) = ends_well (if is_blank x then said else x == 59) xs

-- what may follow the RIGHT CURLY BRACKET of an array on its line, and lines after it: no other array begins there
abbrev pub ends_array : List ℕ → Bool
ends_array text = ends_well true text && not (list_any (is_octet 123) text)

-- the octets of an array, behind these: words of two digits up to the RIGHT CURLY BRACKET
abbrev pub array_octets : List ℕ → List (List ℕ) → Option (List ℕ)
array_octets octets [] = None
array_octets octets (line ∷ lines) =
    if list_any (is_octet 125) line
    then if ends_array (after_first 125 line) && list_all ends_array lines
    then option_map (λ more. octets ++ more) (words 2 (before_first (is_octet 125) line)) else None
    else option_and_then (λ more. array_octets (octets ++ more) lines) (words 2 line)

-- ---- the lines of a message

-- the octets of lines of this form, behind these
abbrev pub lines_octets : DumpForm → List ℕ → List (List ℕ) → Option (List ℕ)
lines_octets form octets [] = Some octets
lines_octets form octets (line ∷ lines) =
    if is_passed line then lines_octets form octets lines
    else option_and_then (λ more. lines_octets form (octets ++ more) lines) (line_octets form (length octets) line)

-- the octets of lines, of which the first is of this form. After a heading they have offsets
abbrev pub begun_octets : Bool → Option DumpForm → List (List ℕ) → Option (List ℕ)
begun_octets is_headed None lines = None
begun_octets is_headed (Some form) lines =
    if not is_headed || has_offsets form then lines_octets form [] lines else None

-- the octets of lines. Foreign lines in front are a heading, up to the LEFT CURLY BRACKET of an array
abbrev pub octets_from : Bool → List (List ℕ) → Option (List ℕ)
octets_from is_headed [] = None
octets_from is_headed (line ∷ lines) =
    if is_passed line then octets_from is_headed lines
    else if not (is_foreign line) then begun_octets is_headed (form_of (before_first is_comment line)) (line ∷ lines)
    else if list_any (is_octet 123) line then array_octets [] (after_first 123 line ∷ lines)
    else octets_from true lines

-- the lines, without LF, and without a CARRIAGE RETURN before it
abbrev pub dump_lines : List ℕ → List (List ℕ)
dump_lines text = map (λ line. strip_last 13 line) (lines_of text)

-- the octets of the message that a dump shows
abbrev pub dump_octets : List ℕ → Option (List ℕ)
dump_octets text = octets_from false (dump_lines text)
