-- Canonical UTCTime and GeneralizedTime, by the positions of their characters (X.690, "restrictions on UTCTime",
-- "restrictions on GeneralizedTime").
use Rattle.std.specs.Prelude.{◌==◌, ◌&&◌, ◌||◌, ◌+◌, ◌-◌, ◌*◌, ℕ, Bool, not, List, length, take, drop, get_or, slice_range, nat_le}
use Rattle.std.specs.List.{list_all}

pub data TimeKind : Type 0 where
  utc generalized : TimeKind

-- the code at a position: 48 is the digit 0, 46 the full stop, 90 the letter Z
abbrev pub code_at : List ℕ → ℕ → ℕ
code_at cs i = get_or cs i 48

abbrev pub is_digit : ℕ → Bool
is_digit c = nat_le 48 c && nat_le c 57

abbrev pub are_digits : List ℕ → Bool
are_digits cs = list_all is_digit cs

-- the number that the two digits at a position write
abbrev pub two_digits : List ℕ → ℕ → ℕ
two_digits cs i = 10 * (code_at cs i - 48) + (code_at cs (i + 1) - 48)

abbrev pub is_between : ℕ → ℕ → ℕ → Bool
is_between low high n = nat_le low n && nat_le n high

-- MMDDhhmmss at a position: month, day, hour, minute and second
abbrev pub is_moment : List ℕ → ℕ → Bool
is_moment cs i =
    is_between 1 12 (two_digits cs i) && is_between 1 31 (two_digits cs (i + 2)) && is_between 0 23 (two_digits cs (i + 4)) && is_between 0 59 (two_digits cs (i + 6)) && is_between 0 59 (two_digits cs (i + 8))

-- YYMMDDhhmmss and Z
abbrev pub is_utc : List ℕ → Bool
is_utc cs = (length cs == 13) && are_digits (take 12 cs) && is_moment cs 2 && (code_at cs 12 == 90)

-- nothing, or a full stop and digits, of which there is one at least and the last is not 0
abbrev pub is_fraction : List ℕ → Bool
is_fraction cs =
    (length cs == 0) || ((code_at cs 0 == 46) && nat_le 2 (length cs) && are_digits (drop 1 cs) && not (code_at cs (length cs - 1) == 48))

-- a fraction of a second and Z after the first 14 codes
abbrev pub has_ending : List ℕ → Bool
has_ending cs = is_fraction (slice_range cs 14 (length cs - 1)) && (code_at cs (length cs - 1) == 90)

-- YYYYMMDDhhmmss and such an ending
abbrev pub is_generalized : List ℕ → Bool
is_generalized cs = nat_le 15 (length cs) && are_digits (take 14 cs) && is_moment cs 4 && has_ending cs

abbrev pub is_time : TimeKind → List ℕ → Bool
is_time utc cs = is_utc cs
is_time generalized cs = is_generalized cs
