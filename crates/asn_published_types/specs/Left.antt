-- Which numbers are left, where sets of them may be all.
use Rattle.std.specs.Prelude.{ℤ, Option, Some, None, ⊤, ◌≤ℤ◌}
use Rattle.asn_published_types.specs.declared.ranges.Ranges.{Ranges}
use Rattle.asn_published_types.specs.declared.bounds.Numbers.{Numbers}
use Rattle.asn_published_types.specs.declared.bounds.Numbers.TheVariants as numbers
use Rattle.asn_published_types.specs.Numbers.{InSet, IsAbove, IsBelow}

-- the number is one of the set; where there is no set, each is
abbrev pub IsLeft : Option Ranges → ℤ → Type 0
IsLeft None z = ⊤
IsLeft (Some s) z = InSet s.ranges.items z

-- no number between two of those that are left is missing
abbrev pub IsWhole : Option Ranges → Type 0
IsWhole s = (a b z : ℤ) → IsLeft s a → IsLeft s b → a ≤ℤ z → z ≤ℤ b → IsLeft s z

-- the number is one of those that the profile's type has
abbrev pub IsBetween : Numbers → ℤ → Type 0
IsBetween numbers.All z = ⊤
IsBetween (numbers.Between low high) z = IsAbove low z × IsBelow high z
