-- The bounds of an INTEGER of the profile that has a low bound and no extension mark.
use Rattle.std.proofs.Common.{◌≡◌, ◌<◌, ◌^◌, suc, ℤ, ◌≤ℤ◌, Bool, true, false, ◌&&◌, ◌||◌, Option, Some, refl, arith}
use Rattle.std.proofs.lemmas.Bool.{not-false}
use Rattle.std.specs.Int.RustNames.{int_le, int_lt}
use Rattle.std.proofs.lemmas.Int.{ints}
use mir.Syntax.{w128}
use mir.Val.{to_z, of_z}
use Rattle.asn_values.specs.Shape.{Range, integer}
use Rattle.asn_values.specs.Fits.{lowest_integer, highest_integer, at_most, FitsNumber}
use Rattle.asn_values.specs.Profile.{InProfile, EmptyRange, is_outside, low_above_high}
use Rattle.asn_values.proofs.Parts.{left_false, right_false}
use Rattle.asn_bits.specs.Numbers.{above, width}
use Rattle.asn_bits.proofs.Above.{le_of_test, above_within, kept}
use Rattle.asn_bits.proofs.Widths.{width_fits}

not_below : (a b : ℤ) → int_lt a b ≡ false → b ≤ℤ a
not_below a b e = grind (arith, ints)

-- a range with a low bound, as the program has it
abbrev pub ranging : ℤ → Option ℤ → Range
ranging low high = record { low = Some low; high = high; extensible = false }

pub inside : (z : ℤ) → is_outside (Some z) ≡ false → (lowest_integer ≤ℤ z) × (z ≤ℤ highest_integer)
inside z e = (not_below z lowest_integer (left_false _ _ e), not_below highest_integer z (right_false (int_lt z lowest_integer) _ e))

module _ (low : ℤ) (high : Option ℤ) (good : InProfile (integer (ranging low high))) where
  ends : (is_outside (Some low) || is_outside high) ≡ false
  ends = right_false (low_above_high (Some low) high) _ (good EmptyRange)

  pub low_above_lowest : lowest_integer ≤ℤ low
  low_above_lowest = (inside low (left_false _ _ ends)).0

  pub low_below_highest : low ≤ℤ highest_integer
  low_below_highest = (inside low (left_false _ _ ends)).1

module _ (low high : ℤ) (good : InProfile (integer (ranging low (Some high)))) where
  pub high_below_highest : high ≤ℤ highest_integer
  high_below_highest = (inside high (right_false (is_outside (Some low)) _ (ends low (Some high) good))).1

  pub low_below_high : low ≤ℤ high
  low_below_high = le_of_test low high (not-false (at_most (Some high) low) (left_false _ _ (good EmptyRange)))

-- ---- the integers of a range

pub number_above_low : (low : ℤ) (high : Option ℤ) (z : ℤ) → FitsNumber (ranging low high) z → low ≤ℤ z
number_above_low low high z f = le_of_test low z (and_left (int_le low z) _ f.2)
  where
    and_left : (a b : Bool) → (a && b) ≡ true → a ≡ true
    and_left true b e = refl
    and_left false b e = e

pub number_below_high : (low high z : ℤ) → FitsNumber (ranging low (Some high)) z → z ≤ℤ high
number_below_high low high z f = le_of_test z high (and_right (int_le low z) _ f.2)
  where
    and_right : (a b : Bool) → (a && b) ≡ true → b ≡ true
    and_right true b e = e
    and_right false b e = absurd (cc)

-- the offset from the low bound has that many bits
pub above_fits : (low high z : ℤ) → FitsNumber (ranging low (Some high)) z → above low z < 2 ^ width (suc (above low high))
above_fits low high z f =
    let within = above_within low high z (number_above_low low (Some high) z f) (number_below_high low high z f) in
    width_fits (suc (above low high)) (above low z) (omega (arith, within))

-- ---- an integer of the profile keeps its value in 128 bits

pub low_kept : (low : ℤ) (high : Option ℤ) → InProfile (integer (ranging low high)) → to_z w128 (of_z w128 low) ≡ low
low_kept low high good = kept low (low_above_lowest low high good) (low_below_highest low high good)

pub high_kept : (low high : ℤ) → InProfile (integer (ranging low (Some high))) → to_z w128 (of_z w128 high) ≡ high
high_kept low high good = kept high (omega (arith, ints, low_above_lowest low (Some high) good, low_below_high low high good)) (high_below_highest low high good)

pub number_kept : (low : ℤ) (high : Option ℤ) (z : ℤ) → FitsNumber (ranging low high) z → to_z w128 (of_z w128 z) ≡ z
number_kept low high z f = kept z f.0 f.1
