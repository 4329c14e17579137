-- What is printed of a text on a terminal.
use Rattle.std.specs.Prelude.{◌==◌, ℕ, List, chars, encode_utf8, flat_map, if◌then◌else◌}
use Rattle.std.specs.Char.{is_control}

-- the character that is printed for one: U+FFFD for a control character, but for LF and tab
abbrev pub printed : ℕ → ℕ
printed c = if c == 10 then c else (if c == 9 then c else (if is_control c then 65533 else c))

abbrev pub printable : List ℕ → List ℕ
printable text = flat_map (λ c. encode_utf8 (printed c)) (chars text)
