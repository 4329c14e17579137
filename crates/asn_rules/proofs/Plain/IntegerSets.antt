-- The integers of a range, but for one that is left out, as sets of numbers and of offsets.
use Rattle.std.proofs.Common.{◌≡◌, ◌≤◌, ◌<◌, ◌+◌, ◌⊎◌, inl, inr, ⊎_elim, ℕ, ℤ, pos, negsuc, ◌≤ℤ◌, Bool, true, false, ◌||◌, Option, Some, None, refl, sym, ap, ◌∙◌, subst, lit≤, arith}
use Rattle.std.proofs.lemmas.Bool.{true≢false, not-false, and_parts, cases_lt, leb-true, le-leb}
use Rattle.std.proofs.lemmas.Int.{ints}
use Rattle.std.specs.Int.RustNames.{int_le, int_lt}
use Rattle.std.specs.Option.{option_map, unwrap_or}
use Rattle.std.specs.Prelude.{IsSomeAnd}
use lib.IntN.{nat_abs}
use mir.Syntax.{w128}
use mir.Val.{to_z, of_z}
use Rattle.asn_values.specs.Datum.{number}
use Rattle.asn_values.specs.Fits.{FitsNumber, lowest_integer, highest_integer, highest_number, at_least, at_most}
use Rattle.asn_values.specs.Profile.{InProfile, EmptyRange, is_outside, low_above_high, lowest_of, highest_of}
use Rattle.asn_values.specs.Shape.{Range, integer}
use Rattle.asn_values.proofs.Parts.{left_false, right_false}
use Rattle.asn_bits.specs.Numbers.{above}
use Rattle.asn_bits.specs.Sets.{Between}
use Rattle.asn_bits.proofs.Above.{kept, le_of_test, test_of_le, pos-above, above_same}
use Rattle.asn_rules.specs.Components.{is_default}
use Rattle.asn_rules.specs.IntegerSets.{magnitude_of, unmarked, IsWithin, IsOneBut, AreNumbersBut, AreOffsetsBut}
use Rattle.asn_rules.specs.Listed.{IsOther}
use Rattle.asn_rules.specs.NumberSets.{IsNot}
use Rattle.asn_rules.specs.OffsetSets.{HasInteger, IsOpen}
use Rattle.asn_rules.specs.declared.signed_reader.OffsetSet.{OffsetSet}
use Rattle.asn_rules.proofs.Law.Entries.{default_is}

-- ---- bounds

not_below : (a b : ℤ) → int_lt a b ≡ false → b ≤ℤ a
not_below a b e = grind (arith, ints)

inside : (z : ℤ) → is_outside (Some z) ≡ false → (lowest_integer ≤ℤ z) × (z ≤ℤ highest_integer)
inside z e = (not_below z lowest_integer (left_false _ _ e), not_below highest_integer z (right_false (int_lt z lowest_integer) _ e))

-- the low bound is of the profile
pub low_bound : (b : Range) (low : ℤ) → InProfile (integer b) → b.low ≡ Some low → (lowest_integer ≤ℤ low) × (low ≤ℤ highest_integer)
low_bound b low good p =
    let w : (is_outside b.low || is_outside b.high) ≡ false = right_false (low_above_high b.low b.high) _ (good EmptyRange) in
    inside low (ap is_outside (sym p) ∙ left_false _ _ w)

-- and so is the high one
pub high_bound : (b : Range) (high : ℤ) → InProfile (integer b) → b.high ≡ Some high → (lowest_integer ≤ℤ high) × (high ≤ℤ highest_integer)
high_bound b high good q =
    let w : (is_outside b.low || is_outside b.high) ≡ false = right_false (low_above_high b.low b.high) _ (good EmptyRange) in
    inside high (ap is_outside (sym q) ∙ right_false (is_outside b.low) _ w)

-- the bounds, where one is missing the profile's
pub low_is : (low : Option ℤ) → unwrap_or low lowest_integer ≡ lowest_of low
low_is None = refl
low_is (Some low) = refl

pub high_is : (high : Option ℤ) → unwrap_or high highest_integer ≡ highest_of high
high_is None = refl
high_is (Some high) = refl

pub low_inside : (low high : Option ℤ) → InProfile (integer (unmarked low high)) → (lowest_integer ≤ℤ lowest_of low) × (lowest_of low ≤ℤ highest_integer)
low_inside None high good = (omega (arith, ints), omega (arith, ints))
low_inside (Some low) high good = low_bound (unmarked (Some low) high) low good refl

pub high_inside : (low high : Option ℤ) → InProfile (integer (unmarked low high)) → (lowest_integer ≤ℤ highest_of high) × (highest_of high ≤ℤ highest_integer)
high_inside low None good = (omega (arith, ints), omega (arith, ints))
high_inside low (Some high) good = high_bound (unmarked low (Some high)) high good refl

-- ---- numbers from 0 on

-- the integers of the range are the numbers from low to high
pub record AreNumbers (b : Range) (low high : ℕ) : Type 0 where
  pub fit : (n : ℕ) → Between low high n → FitsNumber b (pos n)
  pub are : (z : ℤ) → FitsNumber b z → (n : ℕ) × Between low high n × (z ≡ pos n)

-- the low bound is not above the high one
pub ordered : (low high : ℤ) → InProfile (integer (unmarked (Some low) (Some high))) → int_le low high ≡ true
ordered low high good = not-false (int_le low high) (left_false _ _ (good EmptyRange))

-- the integers from one number to another
pub numbers_between : (low high : ℕ) → InProfile (integer (unmarked (Some (pos low)) (Some (pos high)))) → AreNumbers (unmarked (Some (pos low)) (Some (pos high))) low high
numbers_between low high good = record { fit = fit; are = are }
  where
    fit : (n : ℕ) → Between low high n → FitsNumber (unmarked (Some (pos low)) (Some (pos high))) (pos n)
    fit n s =
        let a = le-leb low n s.0 in
        let b = le-leb n high s.1 in
        (omega (arith, ints), omega (arith, ints, s.1, (high_inside (Some (pos low)) (Some (pos high)) good).1), rw (a, b) refl)

    are : (z : ℤ) → FitsNumber (unmarked (Some (pos low)) (Some (pos high))) z → (n : ℕ) × Between low high n × (z ≡ pos n)
    are (pos n) f =
        let w = and_parts _ _ f.2 in
        (n, (leb-true low n w.0, leb-true n high w.1), refl)
    are (negsuc n) f = absurd (true≢false (sym f.2))

-- the integers from a number on
pub numbers_from : (low : ℕ) → AreNumbers (unmarked (Some (pos low)) None) low highest_number
numbers_from low = record { fit = fit; are = are }
  where
    fit : (n : ℕ) → Between low highest_number n → FitsNumber (unmarked (Some (pos low)) None) (pos n)
    fit n s =
        let a = le-leb low n s.0 in
        (omega (arith, ints), omega (arith, ints, s.1), rw a refl)

    are : (z : ℤ) → FitsNumber (unmarked (Some (pos low)) None) z → (n : ℕ) × Between low highest_number n × (z ≡ pos n)
    are (pos n) f =
        let w = and_parts _ _ f.2 in
        (n, (leb-true low n w.0, omega (arith, ints, f.1)), refl)
    are (negsuc n) f = absurd (true≢false (sym f.2))

not_default : (d z : ℤ) → (d ≡ z → ⊥) → is_default (number d) (number z) ≡ false
not_default d z n = go (is_default (number d) (number z)) refl
  where
    go : (t : Bool) → is_default (number d) (number z) ≡ t → t ≡ false
    go true e = (let same = default_is (number d) (number z) e in absurd (n (cc same)))
    go false e = refl

default_not : (d z : ℤ) → is_default (number d) (number z) ≡ false → d ≡ z → ⊥
default_not d z n same =
    let self : int_le d d ≡ true = test_of_le d d (omega (arith, ints)) in
    let none : is_default (number d) (number d) ≡ false = subst (λ (x : ℤ). is_default (number d) (number x) ≡ false) (sym same) n in
    true≢false (sym (rw self refl) ∙ none)

pub size_is : (z : ℤ) → int_le (pos 0) z ≡ true → nat_abs z ≡ magnitude_of z
size_is (pos n) p = refl
size_is (negsuc n) p = absurd (true≢false (sym p))

-- from 0 on
abbrev pub magnitudes : Option ℤ → Option ℕ
magnitudes e = option_map magnitude_of e

other_there : (e : Option ℤ) (b : Range) (n : ℕ) → IsWithin b e → ((z : ℤ) → FitsNumber b z → pos 0 ≤ℤ z) → IsNot (magnitudes e) n → IsOther (option_map number e) (number (pos n))
other_there None b n w from h = tt
other_there (Some (pos d)) b n w from h = not_default (pos d) (pos n) (λ same. h (sym (cc same)))
other_there (Some (negsuc d)) b n w from h = absurd (let l = from (negsuc d) w.0 in omega (arith, ints, l))

other_back : (e : Option ℤ) (b : Range) (n : ℕ) → IsWithin b e → ((z : ℤ) → FitsNumber b z → pos 0 ≤ℤ z) → IsOther (option_map number e) (number (pos n)) → IsNot (magnitudes e) n
other_back None b n w from h = tt
other_back (Some (pos d)) b n w from h = λ same. default_not (pos d) (pos n) h (ap pos (sym same))
other_back (Some (negsuc d)) b n w from h = absurd (let l = from (negsuc d) w.0 in omega (arith, ints, l))

numbers_but : (e : Option ℤ) (b : Range) (low high : ℕ) → AreNumbers b low high → IsWithin b e → AreNumbersBut e b (record { low = low; high = high; excluded = magnitudes e })
numbers_but e b low high are w = record {
  there = λ n a. (are.fit n (a.0, a.1), other_there e b n w from a.2);
  back = λ z h.
      let n = are.are z h.0 in
      (n.0, (n.1.0, n.1.1, other_back e b n.0 w from (subst (λ (x : ℤ). IsOther (option_map number e) (number x)) n.2 h.1)), n.2);
}
  where
    from : (z : ℤ) → FitsNumber b z → pos 0 ≤ℤ z
    from z f = (let n = are.are z f in omega (arith, ints, n.2))

pub numbers_are : (e : Option ℤ) (low : ℤ) (high : Option ℤ) → InProfile (integer (unmarked (Some low) high)) → pos 0 ≤ℤ low → IsWithin (unmarked (Some low) high) e
    → AreNumbersBut e (unmarked (Some low) high) (record { low = magnitude_of low; high = magnitude_of (highest_of high); excluded = magnitudes e })
numbers_are e (pos low) (Some (pos high)) good from w = numbers_but e (unmarked (Some (pos low)) (Some (pos high))) low high (numbers_between low high good) w
numbers_are e (pos low) (Some (negsuc high)) good from w = absurd (true≢false (sym (ordered (pos low) (negsuc high) good)))
numbers_are e (pos low) None good from w = numbers_but e (unmarked (Some (pos low)) None) low highest_number (numbers_from low) w
numbers_are e (negsuc low) high good from w = absurd (omega (arith, ints, from))

pub high_from_zero : (low : ℤ) (high : Option ℤ) → InProfile (integer (unmarked (Some low) high)) → pos 0 ≤ℤ low → pos 0 ≤ℤ highest_of high
high_from_zero low None good from = omega (arith, ints)
high_from_zero low (Some high) good from = omega (arith, ints, from, le_of_test low high (ordered low high good))

pub within_from_zero : (low : ℤ) (high : Option ℤ) → InProfile (integer (unmarked (Some low) high)) → pos 0 ≤ℤ low → (z : ℤ) → FitsNumber (unmarked (Some low) high) z → pos 0 ≤ℤ z
within_from_zero low high good from z f = omega (arith, ints, from, le_of_test low z (and_parts (int_le low z) (at_most high z) f.2).0)

-- as the program casts them
pub magnitude_kept : (z : ℤ) → pos 0 ≤ℤ z → z ≤ℤ highest_integer → nat_abs (to_z w128 (of_z w128 z)) ≡ magnitude_of z
magnitude_kept z from most = ap nat_abs (kept z (omega (arith, ints, from)) most) ∙ size_is z (test_of_le (pos 0) z from)

-- ---- offsets

-- where the one that is left out lies, and those after it begin
abbrev pub hole : Option ℤ → Option ℤ → ℕ
hole low None = above lowest_integer (lowest_of low)
hole low (Some d) = above lowest_integer d

abbrev pub after_hole : Option ℤ → Option ℤ → ℕ
after_hole low None = above lowest_integer (lowest_of low)
after_hole low (Some d) = above lowest_integer d + 1

abbrev pub offset_set : Option ℤ → Option ℤ → Option ℤ → OffsetSet
offset_set low high e = record { start = above lowest_integer (lowest_of low); below = hole low e; from = after_hole low e; end = above lowest_integer (highest_of high) + 1 }

le_above : (y z : ℤ) → lowest_integer ≤ℤ y → y ≤ℤ z → above lowest_integer y ≤ above lowest_integer z
le_above y z p h = omega (arith, ints, h, pos-above lowest_integer y p, pos-above lowest_integer z (omega (arith, ints, p, h)))

above_le : (y z : ℤ) → lowest_integer ≤ℤ y → lowest_integer ≤ℤ z → above lowest_integer y ≤ above lowest_integer z → y ≤ℤ z
above_le y z p q h = omega (arith, ints, h, pos-above lowest_integer y p, pos-above lowest_integer z q)

from_low : (low : Option ℤ) (z : ℤ) → lowest_integer ≤ℤ z → at_least low z ≡ true → lowest_of low ≤ℤ z
from_low None z p h = p
from_low (Some low) z p h = le_of_test low z h

low_test : (low : Option ℤ) (z : ℤ) → lowest_of low ≤ℤ z → at_least low z ≡ true
low_test None z h = refl
low_test (Some low) z h = test_of_le low z h

to_high : (high : Option ℤ) (z : ℤ) → z ≤ℤ highest_integer → at_most high z ≡ true → z ≤ℤ highest_of high
to_high None z p h = p
to_high (Some high) z p h = le_of_test z high h

high_test : (high : Option ℤ) (z : ℤ) → z ≤ℤ highest_of high → at_most high z ≡ true
high_test None z h = refl
high_test (Some high) z h = test_of_le z high h

module _ (low high : Option ℤ) (good : InProfile (integer (unmarked low high))) where
  from_start : (z : ℤ) → FitsNumber (unmarked low high) z → lowest_of low ≤ℤ z
  from_start z f = from_low low z f.0 (and_parts (at_least low z) (at_most high z) f.2).0

  to_end : (z : ℤ) → FitsNumber (unmarked low high) z → z ≤ℤ highest_of high
  to_end z f = to_high high z f.1 (and_parts (at_least low z) (at_most high z) f.2).1

  fits : (z : ℤ) → lowest_integer ≤ℤ z → z ≤ℤ highest_integer → above lowest_integer (lowest_of low) ≤ above lowest_integer z → above lowest_integer z < above lowest_integer (highest_of high) + 1 → FitsNumber (unmarked low high) z
  fits z p q l m =
      let a = low_test low z (above_le (lowest_of low) z (low_inside low high good).0 p l) in
      let b = high_test high z (above_le z (highest_of high) p (high_inside low high good).0 (omega (arith, m))) in
      (p, q, rw (a, b) refl)

  start_of : (z : ℤ) → FitsNumber (unmarked low high) z → above lowest_integer (lowest_of low) ≤ above lowest_integer z
  start_of z f = le_above (lowest_of low) z (low_inside low high good).0 (from_start z f)

  end_of : (z : ℤ) → FitsNumber (unmarked low high) z → above lowest_integer z < above lowest_integer (highest_of high) + 1
  end_of z f = omega (arith, le_above z (highest_of high) f.0 (to_end z f))

  pub offsets_are : (e : Option ℤ) → IsWithin (unmarked low high) e → AreOffsetsBut e (unmarked low high) (offset_set low high e)
  offsets_are None w = record {
    there = λ z h. (fits z h.0 h.1 (⊎_elim (λ k. k.0) (λ k. k) h.2.1) h.2.0, tt);
    back = λ z h. (h.0.0, h.0.1, (end_of z h.0, inr (start_of z h.0)));
  }
  offsets_are (Some d) w = record { there = there; back = back }
    where
      there : (z : ℤ) → HasInteger (offset_set low high (Some d)) z → IsOneBut (Some d) (unmarked low high) z
      there z h = (
        fits z h.0 h.1 (⊎_elim (λ k. k.0) (λ k. omega (arith, k, start_of d w.0)) h.2.1) h.2.0,
        not_default d z (λ same. (let is = ap (above lowest_integer) same in absurd (⊎_elim (λ k. omega (arith, k.1, is)) (λ k. omega (arith, k, is)) h.2.1))),
      )

      back : (z : ℤ) → IsOneBut (Some d) (unmarked low high) z → HasInteger (offset_set low high (Some d)) z
      back z h = (
        h.0.0,
        h.0.1,
        (
          end_of z h.0,
          ⊎_elim
              (λ l. inl (start_of z h.0, l))
              (λ g. ⊎_elim (λ l. inr (omega (arith, l))) (λ k. absurd (default_not d z h.1 (above_same lowest_integer d z w.0.0 h.0.0 (omega (arith, g, k))))) (cases_lt (above lowest_integer d) (above lowest_integer z)))
              (cases_lt (above lowest_integer z) (above lowest_integer d)),
        ),
      )

  -- no more than one is left out
  one_hole : (e : Option ℤ) → after_hole low e ≤ hole low e + 1
  one_hole None = omega arith
  one_hole (Some d) = omega arith

  -- where one bound is missing
  pub offsets_open : (e : Option ℤ) → (low ≡ None) ⊎ (high ≡ None) → IsOpen (offset_set low high e)
  offsets_open e o = (
    omega (arith, ints, pos-above lowest_integer (highest_of high) (high_inside low high good).0, (high_inside low high good).1),
    inr (one_hole e, ⊎_elim (λ n. inl (rw n refl)) (λ n. inr (rw n (lit≤ tt))) o),
  )

  -- and where the high one is not below those of 64 bits in two's complement
  pub offsets_far : (e : Option ℤ) → IsSomeAnd high (λ h. pos 9223372036854775808 ≤ℤ h) → IsOpen (offset_set low high e)
  offsets_far e far = (
    omega (arith, ints, pos-above lowest_integer (highest_of high) (high_inside low high good).0, (high_inside low high good).1),
    inr (one_hole e, inr (omega (arith, ints, pos-above lowest_integer (highest_of high) (high_inside low high good).0, (last high far)))),
  )
    where
      last : (o : Option ℤ) → IsSomeAnd o (λ h. pos 9223372036854775808 ≤ℤ h) → pos 9223372036854775808 ≤ℤ highest_of o
      last None f = absurd f
      last (Some h) f = f
