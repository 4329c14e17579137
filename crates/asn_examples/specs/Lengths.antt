-- Sizes that some length has.
use Rattle.std.specs.Prelude.{◌≡◌, false, Some}
use Rattle.asn_values.specs.Shape.{SizeRange}
use Rattle.asn_values.specs.Profile.{size_above, large_size}

-- the bounds are in order, and are not above those of the profile
pub record IsSizeWithLengths (s : SizeRange) : Type 0 where
  pub ordered : size_above s ≡ false
  pub small : large_size (Some s) ≡ false
