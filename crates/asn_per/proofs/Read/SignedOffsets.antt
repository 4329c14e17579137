-- Integers without a low bound, and those outside a root, by how far they lie above the lowest one.
use Rattle.std.proofs.Common.{◌≡◌, ◌≤◌, ◌<◌, ◌+◌, ◌-◌, ◌⊎◌, ⊎_elim, inl, inr, ℕ, ℤ, ◌≤ℤ◌, Bool, true, false, ◌&&◌, Option, Some, None, refl, sym, ◌∙◌, arith}
use Rattle.std.proofs.lemmas.Bool.{and_cases, cases_lt, true≢false}
use Rattle.std.proofs.lemmas.Int.{ints}
use Rattle.asn_values.specs.Shape.{Range, integer}
use Rattle.asn_values.specs.Fits.{lowest_integer, highest_integer, integer_count, at_least, at_most, in_range}
use Rattle.asn_values.specs.Profile.{InProfile, EmptyRange, UselessMark, is_outside, low_above_high, lowest_of, highest_of}
use Rattle.asn_values.proofs.Parts.{left_false, right_false}
use Rattle.asn_bits.specs.Numbers.{above}
use Rattle.asn_bits.proofs.Above.{pos-above, le_of_test, test_of_le}
use Rattle.asn_per.specs.Kinds.{IsOutside}
use Rattle.asn_rules.specs.OffsetSets.{HasOffset}
use Rattle.asn_rules.specs.IntegerSets.{AreOffsets}
use Rattle.asn_per.specs.Reading.{low_offset, high_offset}
use Rattle.asn_plan.proofs.IntegerRanges.{inside}

-- the bounds of a range of the profile
pub bounds_inside : (b : Range) → InProfile (integer b) → (is_outside b.low ≡ false) × (is_outside b.high ≡ false)
bounds_inside b good =
    let ends = right_false (low_above_high b.low b.high) _ (good EmptyRange) in
    (left_false _ _ ends, right_false (is_outside b.low) _ ends)

-- ---- offsets and bounds

-- a bound that is missing is the end of the profile's integers
pub low_offset_is : (low : Option ℤ) → low_offset low ≡ above lowest_integer (lowest_of low)
low_offset_is None = refl
low_offset_is (Some low) = refl

pub high_offset_is : (high : Option ℤ) → high_offset high ≡ above lowest_integer (highest_of high) + 1
high_offset_is None = refl
high_offset_is (Some high) = refl

offset_below : (z : ℤ) → lowest_integer ≤ℤ z → z ≤ℤ highest_integer → above lowest_integer z < integer_count
offset_below z p q = omega (arith, ints, pos-above lowest_integer z p)

most_offset : (high : Option ℤ) (z : ℤ) → is_outside high ≡ false → lowest_integer ≤ℤ z → z ≤ℤ highest_integer → at_most high z ≡ true → above lowest_integer z < high_offset high
most_offset None z o p q h = offset_below z p q
most_offset (Some high) z o p q h = omega (arith, ints, le_of_test z high h, pos-above lowest_integer z p, pos-above lowest_integer high (inside high o).0)

offset_most : (high : Option ℤ) (z : ℤ) → is_outside high ≡ false → lowest_integer ≤ℤ z → above lowest_integer z < high_offset high → at_most high z ≡ true
offset_most None z o p h = refl
offset_most (Some high) z o p h = test_of_le z high (omega (arith, ints, h, pos-above lowest_integer z p, pos-above lowest_integer high (inside high o).0))

least_offset : (low : Option ℤ) (z : ℤ) → is_outside low ≡ false → lowest_integer ≤ℤ z → at_least low z ≡ true → low_offset low ≤ above lowest_integer z
least_offset None z o p h = omega arith
least_offset (Some low) z o p h = omega (arith, ints, le_of_test low z h, pos-above lowest_integer z p, pos-above lowest_integer low (inside low o).0)

offset_least : (low : Option ℤ) (z : ℤ) → is_outside low ≡ false → lowest_integer ≤ℤ z → low_offset low ≤ above lowest_integer z → at_least low z ≡ true
offset_least None z o p h = refl
offset_least (Some low) z o p h = test_of_le low z (omega (arith, ints, h, pos-above lowest_integer z p, pos-above lowest_integer low (inside low o).0))

pub high_offset_within : (high : Option ℤ) → is_outside high ≡ false → high_offset high ≤ integer_count
high_offset_within None o = omega arith
high_offset_within (Some high) o = (let w = inside high o in omega (arith, offset_below high w.0 w.1))

-- ---- outside a root

pub outside_offsets : (b : Range) → InProfile (integer b) → AreOffsets (record { start = 0; below = low_offset b.low; from = high_offset b.high; end = integer_count }) (λ z. IsOutside b z)
outside_offsets b good = record { there = λ z h. record { least = h.0; most = h.1; outside = out z h.0 h.1 h.2.1 }; back = λ z h. (h.least, h.most, (offset_below z h.least h.most, back z h.least h.most h.outside)) }
  where
    ends : (is_outside b.low ≡ false) × (is_outside b.high ≡ false)
    ends = bounds_inside b good

    out : (z : ℤ) → lowest_integer ≤ℤ z → z ≤ℤ highest_integer → ((0 ≤ above lowest_integer z) × (above lowest_integer z < low_offset b.low)) ⊎ (high_offset b.high ≤ above lowest_integer z) → in_range b z ≡ false
    out z p q h = go (at_least b.low z) (at_most b.high z) refl refl
      where
        go : (x y : Bool) → at_least b.low z ≡ x → at_most b.high z ≡ y → (x && y) ≡ false
        go false y e f = refl
        go true false e f = refl
        go true true e f = (let l = least_offset b.low z ends.0 p e in let m = most_offset b.high z ends.1 p q f in absurd (⊎_elim (λ k. omega (arith, k.1, l)) (λ k. omega (arith, k, m)) h))

    back : (z : ℤ) → lowest_integer ≤ℤ z → z ≤ℤ highest_integer → in_range b z ≡ false → ((0 ≤ above lowest_integer z) × (above lowest_integer z < low_offset b.low)) ⊎ (high_offset b.high ≤ above lowest_integer z)
    back z p q h = ⊎_elim
        (λ e. inl (omega arith, ⊎_elim (λ l. l) (λ g. absurd (true≢false (sym (offset_least b.low z ends.0 p g) ∙ e))) (cases_lt (above lowest_integer z) (low_offset b.low))))
        (λ e. inr (⊎_elim (λ l. absurd (true≢false (sym (offset_most b.high z ends.1 p l) ∙ e))) (λ g. g) (cases_lt (above lowest_integer z) (high_offset b.high))))
        (and_cases (at_least b.low z) (at_most b.high z) h)

-- where the mark is of use one is there
pub some_outside : (b : Range) → InProfile (integer b) → b.extensible ≡ true → (w : ℕ) × HasOffset (record { start = 0; below = low_offset b.low; from = high_offset b.high; end = integer_count }) w
some_outside b good m = ⊎_elim
    (λ e. absurd (true≢false (sym m ∙ e)))
    (λ e. ⊎_elim
    (λ f. (0, (omega arith, inl (omega arith, ⊎_elim (λ l. l) (λ g. absurd (true≢false (sym (offset_least b.low lowest_integer ends.0 (omega (arith, ints)) g) ∙ f))) (cases_lt 0 (low_offset b.low))))))
    (λ f. (integer_count - 1, (omega arith, inr (⊎_elim (λ l. absurd (true≢false (sym (offset_most b.high highest_integer ends.1 (omega (arith, ints)) l) ∙ f))) (λ g. g) (cases_lt (integer_count - 1) (high_offset b.high))))))
    (and_cases (at_least b.low lowest_integer) (at_most b.high highest_integer) e))
    (and_cases b.extensible (at_least b.low lowest_integer && at_most b.high highest_integer) (good UselessMark))
  where
    ends : (is_outside b.low ≡ false) × (is_outside b.high ≡ false)
    ends = bounds_inside b good
