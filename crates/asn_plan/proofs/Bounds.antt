-- The bounds of an INTEGER between two of them, and the integers that lie between.
use Rattle.std.proofs.Common.{◌≡◌, ◌≤◌, ◌<◌, ◌^◌, ◌||◌, suc, ℤ, ◌≤ℤ◌, Bool, true, false, Some, refl, arith}
use Rattle.std.proofs.lemmas.Bool.{and_from}
use Rattle.std.proofs.lemmas.Int.{ints}
use Rattle.std.specs.Int.RustNames.{int_le}
use mir.Syntax.{w128}
use mir.Val.{to_z, of_z}
use Rattle.asn_values.specs.Shape.{Range, integer}
use Rattle.asn_values.specs.Fits.{lowest_integer, highest_integer, in_range, FitsNumber}
use Rattle.asn_values.specs.Profile.{InProfile, EmptyRange, SizeTooLarge, DuplicateName, BadEnumeration, UselessMark, BadDefault, ZeroWidthElement, AdditionNotOptional, TooMany, TooDeep}
use Rattle.asn_bits.specs.Numbers.{above, width}
use Rattle.asn_bits.proofs.Above.{test_of_le, pos-above, above_within, kept}
use Rattle.asn_bits.proofs.Widths.{width_fits}
use Rattle.asn_plan.specs.Bounds.{root_of, between}
use Rattle.asn_plan.specs.Ranged.{IsRanged}
use Rattle.asn_plan.specs.declared.ranged.Ranged.{Ranged}
use Rattle.asn_plan.proofs.IntegerRanges.{ranging, low_above_lowest, low_below_high, high_below_highest}

-- what is said of a range of the profile is said of its root
pub root_of_profile : (b : Range) → InProfile (integer b) → InProfile (integer (root_of b))
root_of_profile b good EmptyRange = good EmptyRange
root_of_profile b good SizeTooLarge = refl
root_of_profile b good DuplicateName = refl
root_of_profile b good BadEnumeration = refl
root_of_profile b good UselessMark = refl
root_of_profile b good BadDefault = refl
root_of_profile b good ZeroWidthElement = refl
root_of_profile b good AdditionNotOptional = refl
root_of_profile b good TooMany = refl
root_of_profile b good TooDeep = refl

module _ (low high : ℤ) (m : Bool) (good : InProfile (integer (between low high m))) where
  plain : InProfile (integer (ranging low (Some high)))
  plain = root_of_profile (between low high m) good

  -- the bounds are integers of the profile, in their order
  pub bounds_within : (lowest_integer ≤ℤ low) × (low ≤ℤ high) × (high ≤ℤ highest_integer)
  bounds_within = (low_above_lowest low (Some high) plain, low_below_high low high plain, high_below_highest low high plain)

-- an integer that lies no further above the low bound than the high one lies below it or at it
pub below_by_offset : (low high z : ℤ) → low ≤ℤ high → low ≤ℤ z → above low z ≤ above low high → z ≤ℤ high
below_by_offset low high z p q h = omega (arith, ints, pos-above low high p, pos-above low z q, h)

module _ (low high z : ℤ) (m : Bool) (good : InProfile (integer (between low high m))) (least : low ≤ℤ z) (most : z ≤ℤ high) where
  pub low_within : lowest_integer ≤ℤ low
  low_within = (bounds_within low high m good).0

  pub high_within : high ≤ℤ highest_integer
  high_within = (bounds_within low high m good).2

  pub number_within : (lowest_integer ≤ℤ z) × (z ≤ℤ highest_integer)
  number_within = (omega (arith, ints, low_within, least), omega (arith, ints, most, high_within))

  pub low_stays : to_z w128 (of_z w128 low) ≡ low
  low_stays = kept low low_within (omega (arith, ints, least, number_within))

  pub high_stays : to_z w128 (of_z w128 high) ≡ high
  high_stays = kept high (omega (arith, ints, most, number_within)) high_within

  pub number_stays : to_z w128 (of_z w128 z) ≡ z
  number_stays = kept z number_within.0 number_within.1

  -- it is one of the range
  pub inside : in_range (between low high m) z ≡ true
  inside = and_from (int_le low z) (int_le z high) (test_of_le low z least) (test_of_le z high most)

  below : above low z < suc (above low high)
  below = omega (arith, above_within low high z least most)

  -- how far it lies above the low bound has this many bits
  pub offset_fits : above low z < 2 ^ width (suc (above low high))
  offset_fits = width_fits (suc (above low high)) (above low z) below

  -- it is a value of the type
  pub between_fits : FitsNumber (between low high m) z
  between_fits = (number_within.0, number_within.1, either m (in_range (between low high m) z) inside)
    where
      either : (a b : Bool) → b ≡ true → (a || b) ≡ true
      either true b e = refl
      either false b e = e

-- ---- the same of what was worked out of them

module _ (r : Ranged) (good : IsRanged r) where
  -- the bounds are integers of the profile, in their order
  pub within : (lowest_integer ≤ℤ r.low) × (r.low ≤ℤ r.high) × (r.high ≤ℤ highest_integer)
  within = bounds_within r.low r.high r.marked good.of_profile

  pub low_below_highest : r.low ≤ℤ highest_integer
  low_below_highest = let w = within in omega (arith, ints, w.1, w.2)

  pub high_above_lowest : lowest_integer ≤ℤ r.high
  high_above_lowest = let w = within in omega (arith, ints, w.0, w.1)

  -- which keep their values in 128 bits
  pub low_kept : to_z w128 (of_z w128 r.low) ≡ r.low
  low_kept = kept r.low within.0 low_below_highest

  pub high_kept : to_z w128 (of_z w128 r.high) ≡ r.high
  high_kept = kept r.high high_above_lowest within.2
