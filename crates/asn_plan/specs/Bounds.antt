-- Ranges of INTEGER with two bounds.
use Rattle.std.specs.Prelude.{ℤ, Bool, false, Some}
use Rattle.asn_values.specs.Shape.{Range}

-- the range without its extension mark
abbrev pub root_of : Range → Range
root_of b = record { low = b.low; high = b.high; extensible = false }

-- between two bounds, after an extension mark or without
abbrev pub between : ℤ → ℤ → Bool → Range
between low high m = record { low = Some low; high = Some high; extensible = m }
