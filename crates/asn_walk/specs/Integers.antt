-- Integers with two bounds and no extension mark.
use Rattle.std.specs.Prelude.{ℤ, false, Some, ◌≤ℤ◌}
use Rattle.asn_values.specs.Fits.{lowest_integer, highest_integer}
use Rattle.asn_values.specs.Shape.{Shape, integer}

-- INTEGER (low..high)
abbrev pub between : ℤ → ℤ → Shape
between low high = integer (record { low = Some low; high = Some high; extensible = false })

-- one of the integers of the profile
abbrev pub IsOfProfile : ℤ → Type 0
IsOfProfile z = (lowest_integer ≤ℤ z) × (z ≤ℤ highest_integer)
