-- Hexadecimal digits as people write them: in words on lines, with comments.
use Rattle.std.specs.Prelude.{◌==◌, ◌||◌, ◌&&◌, ℕ, Bool, List, [], ◌∷◌, if◌then◌else◌}
use Rattle.std.specs.List.{before_first, flat_map, slice_split}

-- LINE FEED, which ends a line
abbrev pub is_end : ℕ → Bool
is_end x = x == 10

-- NUMBER SIGN, with which a comment begins that goes to the end of its line
abbrev pub is_comment : ℕ → Bool
is_comment x = x == 35

-- SPACE, CHARACTER TABULATION or CARRIAGE RETURN, which stand between words
abbrev pub is_blank : ℕ → Bool
is_blank x = (x == 32) || ((x == 9) || (x == 13))

-- a word without the 0x or 0X in front of it
abbrev pub unprefixed : List ℕ → List ℕ
unprefixed [] = []
unprefixed (x ∷ []) = x ∷ []
unprefixed (x ∷ y ∷ rest) = if (x == 48) && ((y == 120) || (y == 88)) then rest else x ∷ y ∷ rest

-- the digits of a line: those of its words up to the comment
abbrev pub line_digits : List ℕ → List ℕ
line_digits line = flat_map unprefixed (slice_split is_blank (before_first is_comment line))

-- the digits of a text: those of its lines
abbrev pub digits_of : List ℕ → List ℕ
digits_of text = flat_map line_digits (slice_split is_end text)
