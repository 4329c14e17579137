-- What the texts of a report say.
use Rattle.std.specs.Prelude.{◌==◌, ◌++◌, ◌/◌, ◌%◌, ℕ, Bool, true, false, List, [], ◌∷◌, codes, chars, count_by, encode_utf8, flat_map, get_or, if◌then◌else◌, map, nat_lt, string_bytes, suc}
use Rattle.std.specs.Borrow.{Bor}
use Rattle.std.specs.Char.{digit_char}
use Rattle.std.specs.Fmt.{decimal}
use Rattle.asn_published_types.specs.declared.report.Note.{Note}
use Rattle.asn_published_types.specs.declared.report.Remark.{Remark}
use Rattle.asn_published_types.specs.declared.report.Remark.TheVariants as remark
use Rattle.asn_published_types.specs.declared.report.Status.{Status}
use Rattle.asn_published_types.specs.declared.report.Status.TheVariants as status
use Rattle.asn_published_types.specs.declared.report.TypeReport.{TypeReport}
use Rattle.asn_published_types.specs.Statuses.{distance, status_of, word_of}
use Rattle.asn_published_types.specs.Words.{words_of}

-- the line `STATUS: COUNT`
abbrev pub summary_line : List TypeReport → Status → List ℕ
summary_line types s =
    word_of s ++ (codes ": " ++ (decimal (count_by (λ one. distance one.status == distance s) types) ++ codes "\n"))

-- there is a type, and it is not the same
abbrev pub is_other : Status → Bool
is_other status.Same = false
is_other status.Refused = false
is_other _ = true

-- the line `not the same: COUNT`
unfoldable pub others_words : ℕ → List ℕ
others_words n = codes "not the same: " ++ (decimal n ++ codes "\n")

abbrev pub others_line : List TypeReport → List ℕ
others_line types = others_words (count_by (λ one. is_other one.status) types)

-- a line for each status, and for those that are not the same
abbrev pub summary : List TypeReport → List ℕ
summary types = summary_line types status.Same ++ (others_line types ++ (summary_line types status.Narrower
    ++ (summary_line types status.Wider ++ (summary_line types status.Owed
    ++ (summary_line types status.PerOnly ++ summary_line types status.Refused)))))

-- the name of the file of a text, empty where it has none
abbrev pub file_named : List (Bor (List ℕ)) → ℕ → List ℕ
file_named files text = get_or (map (λ f. f.now) files) text []

-- what stands between a type's name and a component
abbrev pub dot_before : List ℕ → List ℕ
dot_before [] = []
dot_before (x ∷ xs) = codes "."

-- the line `FILE:LINE: NAME.COMPONENT: STATUS: REMARK`
abbrev pub note_line : List ℕ → TypeReport → Note → List ℕ
note_line file one note = file ++ (codes ":" ++ (decimal note.line ++ (codes ": " ++ (string_bytes one.name
    ++ (dot_before (string_bytes note.component) ++ (string_bytes note.component ++ (codes ": "
    ++ (word_of (status_of note.remark) ++ (codes ": " ++ (words_of note.remark ++ codes "\n"))))))))))

-- the lines of the notes of a type
abbrev pub type_lines : List (Bor (List ℕ)) → TypeReport → List ℕ
type_lines files one = flat_map (note_line (file_named files one.text) one) one.notes.items

-- the lines of the notes of all types
abbrev pub report_lines : List (Bor (List ℕ)) → List TypeReport → List ℕ
report_lines files types = flat_map (type_lines files) types

-- the remark is on the type itself, and does not only say that the type holds another
abbrev pub is_own : Remark → Bool
is_own (remark.Holds s) = false
is_own _ = true

abbrev pub own_line : List ℕ → TypeReport → Note → List ℕ
own_line file one note = if is_own note.remark then note_line file one note else []

abbrev pub own_lines : List (Bor (List ℕ)) → TypeReport → List ℕ
own_lines files one = flat_map (own_line (file_named files one.text) one) one.notes.items

-- these lines, where the type is marked
abbrev pub lines_if : List (Bor (List ℕ)) → Bool → TypeReport → List ℕ
lines_if files mark one = if mark then own_lines files one else []

-- those of the types that are marked, of which the first is at the index i
abbrev pub marked_lines : List (Bor (List ℕ)) → List Bool → ℕ → List TypeReport → List ℕ
marked_lines files marks i [] = []
marked_lines files marks i (t ∷ ts) = lines_if files (get_or marks i false) t ++ marked_lines files marks (suc i) ts

-- the remark says why a type is refused
abbrev pub is_refusal : Remark → Bool
is_refusal (remark.Refused why) = true
is_refusal _ = false

-- the line of a note that says so; no other has one
abbrev pub refusal_line : List ℕ → TypeReport → Note → List ℕ
refusal_line file one note = if is_refusal note.remark then note_line file one note else []

abbrev pub refused_lines_of : List (Bor (List ℕ)) → TypeReport → List ℕ
refused_lines_of files one = flat_map (refusal_line (file_named files one.text) one) one.notes.items

-- the lines that say why types are refused
abbrev pub refused_lines : List (Bor (List ℕ)) → List TypeReport → List ℕ
refused_lines files types = flat_map (refused_lines_of files) types

-- what stands in a string of JSON for a character
abbrev pub escaped : ℕ → List ℕ
escaped c = if c == 34 then codes "\\\"" else (if c == 92 then codes "\\\\" else (if nat_lt c 32
    then codes "\\u00" ++ (digit_char (c / 16) ∷ digit_char (c % 16) ∷ []) else encode_utf8 c))

-- a text as a string of JSON
abbrev pub quoted : List ℕ → List ℕ
quoted text = codes "\"" ++ (flat_map escaped (chars text) ++ codes "\"")

-- what is told of a note as an object of JSON, after what stands before it
unfoldable pub note_object : List ℕ → ℕ → List ℕ → List ℕ → List ℕ → List ℕ
note_object before line component s said = before ++ (codes "{\"line\":" ++ (decimal line ++ (codes ",\"component\":"
    ++ (component ++ (codes ",\"status\":\"" ++ (s ++ (codes "\",\"remark\":" ++ (said ++ codes "}"))))))))

-- a note as such an object
abbrev pub note_json : List ℕ → Note → List ℕ
note_json before note = note_object before note.line (quoted (string_bytes note.component))
    (word_of (status_of note.remark)) (quoted (words_of note.remark))

-- notes with commas between them
abbrev pub notes_json : List Note → List ℕ
notes_json [] = []
notes_json (n ∷ ns) = note_json [] n ++ flat_map (note_json (codes ",")) ns

-- what is told of a type as an object of JSON on a line
unfoldable pub type_object : List ℕ → List ℕ → ℕ → List ℕ → List ℕ → List ℕ
type_object name file line s notes = codes "{\"type\":" ++ (name ++ (codes ",\"file\":" ++ (file ++ (codes ",\"line\":"
    ++ (decimal line ++ (codes ",\"status\":\"" ++ (s ++ (codes "\",\"notes\":[" ++ (notes ++ codes "]}\n")))))))))

-- a type as such an object
abbrev pub type_json : List (Bor (List ℕ)) → TypeReport → List ℕ
type_json files one = type_object (quoted (string_bytes one.name)) (quoted (file_named files one.text)) one.line
    (word_of one.status) (notes_json one.notes.items)

-- all types as JSON
abbrev pub report_json : List (Bor (List ℕ)) → List TypeReport → List ℕ
report_json files types = flat_map (type_json files) types
