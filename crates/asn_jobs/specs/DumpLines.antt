-- Lines of hexadecimal dumps: an offset, octets, and the text column.
use Rattle.std.specs.Prelude.{◌==◌, ◌||◌, ◌&&◌, ◌++◌, ℕ, Bool, List, [], ◌∷◌, length, suc, take, drop, if◌then◌else◌, Option, Some, None, option_and_then}
use Rattle.std.specs.Result.{result_ok}
use Rattle.std.specs.List.{before_first, flat_map, list_all, slice_split}
use Rattle.hex.specs.Hex.{decode_of}
use Rattle.asn_jobs.specs.Cutting.{is_gap}
use Rattle.asn_jobs.specs.Texts.{is_blank, is_comment, unprefixed}
use Rattle.asn_jobs.specs.DumpWords.{after_word, are_blanks, begins_with_blank, first_word, is_column, offset_of, unblanked, without_end}
use Rattle.asn_jobs.specs.declared.dump_lines.DumpForm.{DumpForm}
use Rattle.asn_jobs.specs.declared.dump_lines.DumpForm.TheVariants as dump

-- ---- words of octets

-- a blank, an LF, a COMMA or a COLON
abbrev pub is_separator : ℕ → Bool
is_separator x = is_gap x || ((x == 44) || (x == 58))

-- two digits or this many, with 0x in front of them or without; or nothing
abbrev pub is_word : ℕ → List ℕ → Bool
is_word most word =
    (length word == 0) || ((length (unprefixed word) == 2) || (length (unprefixed word) == most))

-- the octets of words of two digits, or this many
abbrev pub words : ℕ → List ℕ → Option (List ℕ)
words most text =
    if list_all (is_word most) (slice_split is_separator text)
    then result_ok (decode_of (flat_map unprefixed (slice_split is_separator text)))
    else None

-- ---- after an offset

-- how many octets are before the first two blanks in a row
abbrev pub gap_at : List ℕ → ℕ
gap_at [] = 0
gap_at (x ∷ xs) = if is_blank x && begins_with_blank xs then 0 else suc (gap_at xs)

abbrev pub before_gap : List ℕ → List ℕ
before_gap text = take (gap_at text) text

abbrev pub from_gap : List ℕ → List ℕ
from_gap text = drop (gap_at text) text

-- what may follow the octets of a line
abbrev pub is_tail : List ℕ → List ℕ → Bool
is_tail octets rest = are_blanks rest || is_column octets rest

abbrev pub if_tail : List ℕ → List ℕ → Option (List ℕ)
if_tail octets rest = if is_tail octets rest then Some octets else None

-- eight octets, a gap, and others
abbrev pub behind_eight : List ℕ → List ℕ → List ℕ → Option (List ℕ)
behind_eight first [] rest = None
behind_eight first (x ∷ xs) rest = if length first == 8 then if_tail (first ++ x ∷ xs) rest else None

abbrev pub more_octets : ℕ → List ℕ → List ℕ → Option (List ℕ)
more_octets most first text =
    option_and_then (λ more. behind_eight first more (from_gap text)) (words most (before_gap text))

-- where both are octets, the line is in doubt
abbrev pub either : Option (List ℕ) → Option (List ℕ) → Option (List ℕ)
either None other = other
either (Some octets) None = Some octets
either (Some octets) (Some others) = None

-- octets and their tail, or eight octets, a gap, others, and their tail
abbrev pub body : ℕ → List ℕ → Option (List ℕ)
body most text = option_and_then (λ octets.
    either (if_tail octets (from_gap text)) (more_octets most octets (unblanked (from_gap text))))
    (words most (before_gap text))

-- the offset of a word with a COLON at its end; 0x may be in front
abbrev pub marked_offset : List ℕ → Option ℕ
marked_offset word = option_and_then (λ digits. offset_of (unprefixed digits)) (without_end 58 word)

-- the octets of what follows this offset, which has to be the number of octets before the line
abbrev pub offset_line : ℕ → Option ℕ → ℕ → List ℕ → Option (List ℕ)
offset_line most offset before text = option_and_then (λ offset.
    if offset == before then body most (unblanked text) else None) offset

-- ---- a line of one form

abbrev pub packed_line : List ℕ → Option (List ℕ)
packed_line line =
    if are_blanks (after_word line) then result_ok (decode_of (unprefixed (first_word line))) else None

-- the octets of a line, before which there are so many octets
abbrev pub line_octets : DumpForm → ℕ → List ℕ → Option (List ℕ)
line_octets dump.Marked before line = offset_line 4 (marked_offset (first_word line)) before (after_word line)
line_octets dump.Bare before line = offset_line 2 (offset_of (first_word line)) before (after_word line)
line_octets dump.Words before line = words 2 (before_first is_comment line)
line_octets dump.Packed before line = packed_line (before_first is_comment line)
