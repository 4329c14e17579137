-- The integers of a range, but for one that may be left out, as numbers in bits and under the count of their octets.
use Rattle.std.proofs.Common.{◌≡◌, ◌≤◌, ◌<◌, ◌+◌, ◌^◌, ℕ, suc, ℤ, pos, ◌+ℤ◌, ◌≤ℤ◌, Bool, true, false, ◌&&◌, List, Option, Some, None, IfSome, refl, sym, ap, subst, ◌∙◌, arith}
use Rattle.std.specs.Int.RustNames.{int_le}
use Rattle.std.specs.Option.{option_map}
use Rattle.std.proofs.lemmas.Int.{ints}
use Rattle.asn_values.specs.Datum.{Datum, number}
use Rattle.asn_values.specs.Shape.{integer}
use Rattle.asn_values.specs.Fits.{Fits, FitsNumber, lowest_integer, highest_integer}
use Rattle.asn_values.specs.Profile.{InProfile}
use Rattle.asn_bits.specs.Numbers.{bits, width, above, least, octet_count}
use Rattle.asn_bits.specs.Lengths.{general_octets}
use Rattle.asn_bits.proofs.Above.{pos-above, above-add, at_above, above_within, add_within, above_same, test_of_le, le_of_test}
use Rattle.asn_bits.proofs.Octets.{octet_count_below}
use Rattle.asn_bits.proofs.Widths.{width_fits}
use Rattle.asn_rules.specs.Chunks.{ones}
use Rattle.asn_rules.specs.Components.{is_default}
use Rattle.asn_rules.specs.Languages.{Map, Plain, Inhabited}
use Rattle.asn_bits.specs.Sets.{InSet, Meets}
use Rattle.asn_rules.specs.Forks.{Same}
use Rattle.asn_rules.specs.Counted.{Counted, number_of, Least}
use Rattle.asn_rules.specs.Listed.{IsOther, Spelt}
use Rattle.asn_rules.proofs.Numbers.CountedCodes.{counted_bits}
use Rattle.asn_rules.proofs.Languages.Leads.{Leads, leads_on, leads_map, leads_same}
use Rattle.asn_bits.proofs.Unions.{set_meets}
use Rattle.asn_rules.proofs.Languages.Spellings.{same_after, same_map, set_spelled, map_spelled}
use Rattle.asn_per.specs.Per.{per, per_fields}
use Rattle.asn_rules.specs.NumberSets.{IsNot, Admits, up_to}
use Rattle.asn_rules.specs.IntegerSets.{IsWithin}
use Rattle.asn_plan.proofs.IntegerRanges.{ranging, low_above_lowest, low_below_highest, high_below_highest, low_below_high, number_above_low, number_below_high}

-- ---- the integer that is left out

-- how far it lies above the low bound
abbrev pub offset_of : ℤ → Option ℤ → Option ℕ
offset_of low e = option_map (above low) e

pub default_test : (d z : ℤ) → is_default (number d) (number z) ≡ true → d ≡ z
default_test d z h =
    let p = and_both (int_le d z) (int_le z d) h in
    omega (arith, ints, le_of_test d z p.0, le_of_test z d p.1)
  where
    and_both : (a b : Bool) → (a && b) ≡ true → (a ≡ true) × (b ≡ true)
    and_both true b e = (refl, e)
    and_both false b e = absurd (cc)

pub default_self : (z : ℤ) → is_default (number z) (number z) ≡ true
default_self z =
    let h : int_le z z ≡ true = test_of_le z z (omega (arith, ints)) in
    both (int_le z z) h
  where
    both : (a : Bool) → a ≡ true → (a && a) ≡ true
    both true b = refl
    both false b = absurd (cc)

-- a number that is not its offset is another integer
other_number : (low : ℤ) (high e : Option ℤ) (n : ℕ) → IsWithin (ranging low high) e → IsNot (offset_of low e) n → IsOther (option_map number e) (number (low +ℤ pos n))
other_number low high None n w h = tt
other_number low high (Some d) n w h = go (is_default (number d) (number (low +ℤ pos n))) refl
  where
    go : (b : Bool) → is_default (number d) (number (low +ℤ pos n)) ≡ b → b ≡ false
    go true t = absurd (h (sym (ap (above low) (default_test d (low +ℤ pos n) t) ∙ above-add low n)))
    go false t = refl

-- and the offset of another integer is another number
other_offset : (low : ℤ) (high e : Option ℤ) (z : ℤ) → IsWithin (ranging low high) e → low ≤ℤ z → IsOther (option_map number e) (number z) → IsNot (offset_of low e) (above low z)
other_offset low high None z w p h = tt
other_offset low high (Some d) z w p h = λ same.
    let is : z ≡ d = above_same low z d p (number_above_low low high d w.0) same in
    let t : is_default (number d) (number z) ≡ true = ap (λ x. is_default (number d) (number x)) is ∙ default_self d in
    cc

-- it lies between the bounds
pub left_out_within : (low high : ℤ) (e : Option ℤ) → IsWithin (ranging low (Some high)) e → IfSome (offset_of low e) (λ x. x ≤ above low high)
left_out_within low high None w = tt
left_out_within low high (Some d) w = above_within low high d (number_above_low low (Some high) d w.0) (number_below_high low high d w.0)

-- or between the low bound and the end of the profile
pub left_out_open : (low : ℤ) (e : Option ℤ) → IsWithin (ranging low None) e → IfSome (offset_of low e) (λ x. x ≤ above low highest_integer)
left_out_open low None w = tt
left_out_open low (Some d) w = above_within low highest_integer d (number_above_low low None d w.0) w.0.1

-- ---- the integer that lies so far above

-- no integer of the profile lies 2 ^ 65 above another
pub offsets_below : (low : ℤ) → lowest_integer ≤ℤ low → low ≤ℤ highest_integer → above low highest_integer < 2 ^ 65
offsets_below low p q = omega (arith, ints, pos-above low highest_integer q)

abbrev pub number_from : ℤ → ℕ → Datum
number_from low n = number (low +ℤ pos n)

-- a range with two bounds
module _ (low high : ℤ) (e : Option ℤ) (good : InProfile (integer (ranging low (Some high)))) (within : IsWithin (ranging low (Some high)) e) where
  -- the numbers that stand for its integers
  abbrev pub Offsets : ℕ → Type 0
  Offsets n = (0 ≤ n) × (n ≤ above low high) × IsNot (offset_of low e) n

  in_range : (n : ℕ) → n ≤ above low high → FitsNumber (ranging low (Some high)) (low +ℤ pos n)
  in_range n h =
      let top = add_within low high n (low_below_high low high good) h in
      let a : int_le low (low +ℤ pos n) ≡ true = test_of_le low (low +ℤ pos n) (omega (arith, ints)) in
      let b : int_le (low +ℤ pos n) high ≡ true = test_of_le (low +ℤ pos n) high top in (
        omega (arith, ints, low_above_lowest low (Some high) good),
        omega (arith, ints, top, high_below_highest low high good),
        rw (a, b) refl,
      )

  pub there : (n : ℕ) → Offsets n → (Fits (integer (ranging low (Some high))) (number_from low n) × IsOther (option_map number e) (number_from low n))
      × (ones (bits (width (suc (above low high))) n) ≡ per (integer (ranging low (Some high))) (number_from low n))
  there n h = ((in_range n h.1, other_number low (Some high) e n within h.2), ap (λ k. ones (bits (width (suc (above low high))) k)) (sym (above-add low n)))

  pub back : (v : Datum) → Fits (integer (ranging low (Some high))) v × IsOther (option_map number e) v → (n : ℕ) × Offsets n × (v ≡ number_from low n)
  back (number z) h =
      let p = number_above_low low (Some high) z h.0 in (
        above low z,
        (omega arith, above_within low high z p (number_below_high low high z h.0), other_offset low (Some high) e z within p h.1),
        ap number (sym (at_above low z p)),
      )
  back _ h = absurd h.0

  pub constrained_language : Same (Map (number_from low) (Plain (InSet (width (suc (above low high))) Offsets))) (Spelt per (option_map number e) (integer (ranging low (Some high))))
  constrained_language =
      same_after (same_map (set_spelled (width (suc (above low high))) Offsets (λ n h. width_fits (suc (above low high)) n (omega (arith, h.1))))) (map_spelled there back)

-- a range with a low bound alone
module _ (low : ℤ) (e : Option ℤ) (good : InProfile (integer (ranging low None))) (within : IsWithin (ranging low None) e) where
  abbrev pub OpenOffsets : ℕ → Type 0
  OpenOffsets n = (0 ≤ n) × (n ≤ above low highest_integer) × IsNot (offset_of low e) n

  open_in_range : (n : ℕ) → n ≤ above low highest_integer → FitsNumber (ranging low None) (low +ℤ pos n)
  open_in_range n h =
      let top = add_within low highest_integer n (low_below_highest low None good) h in
      let a : int_le low (low +ℤ pos n) ≡ true = test_of_le low (low +ℤ pos n) (omega (arith, ints)) in (
        omega (arith, ints, low_above_lowest low None good),
        top,
        rw a refl,
      )

  pub open_there : (n : ℕ) → OpenOffsets n → (Fits (integer (ranging low None)) (number_from low n) × IsOther (option_map number e) (number_from low n))
      × (ones (general_octets (λ u. u) (least n)) ≡ per (integer (ranging low None)) (number_from low n))
  open_there n h = ((open_in_range n h.1, other_number low None e n within h.2), ap (λ k. ones (general_octets (λ u. u) (least k))) (sym (above-add low n)))

  pub open_back : (v : Datum) → Fits (integer (ranging low None)) v × IsOther (option_map number e) v → (n : ℕ) × OpenOffsets n × (v ≡ number_from low n)
  open_back (number z) h =
      let p = number_above_low low None z h.0 in (
        above low z,
        (omega arith, above_within low highest_integer z p h.0.1, other_offset low None e z within p h.1),
        ap number (sym (at_above low z p)),
      )
  open_back _ h = absurd h.0

  pub few_octets : (n : ℕ) → OpenOffsets n → octet_count n < 128
  few_octets n h =
      let top : above low highest_integer < 2 ^ 65 = offsets_below low (low_above_lowest low None good) (low_below_highest low None good) in
      let few : octet_count n ≤ 9 = octet_count_below n 9 (omega arith) (omega (arith, h.1, top)) in
      omega (arith, few)

  pub semi_constrained_language : Same (Map (number_from low) (Map number_of (Counted 2 8 (Least OpenOffsets)))) (Spelt per (option_map number e) (integer (ranging low None)))
  semi_constrained_language = same_after (same_map (counted_bits OpenOffsets few_octets)) (map_spelled open_there open_back)

-- ---- the answers of their readers

plus_one : (n : ℕ) → n + 1 ≡ suc n
plus_one n = omega arith

module _ (low high : ℤ) (e : Option ℤ) (good : InProfile (integer (ranging low (Some high)))) (within : IsWithin (ranging low (Some high)) e) where
  -- the reader of a constrained whole number answers for the integer
  pub constrained_leads : (us : List ℕ) → Leads per_fields (Plain (InSet (width (above low high + 1)) (λ n. Admits (up_to (above low high) (offset_of low e)) n))) us (number_from low) (Spelt per (option_map number e) (integer (ranging low (Some high)))) us
  constrained_leads us =
      subst (λ (w : ℕ). Leads per_fields (Plain (InSet (width w) (λ n. Admits (up_to (above low high) (offset_of low e)) n))) us (number_from low) (Spelt per (option_map number e) (integer (ranging low (Some high)))) us)
      (sym (plus_one (above low high)))
      (leads_on (leads_map per_fields (number_from low) (Plain (InSet (width (suc (above low high))) (Offsets low high e good within))) us) (leads_same per_fields us (constrained_language low high e good within)))

  pub constrained_some : Inhabited (Spelt per (option_map number e) (integer (ranging low (Some high)))) → Meets (λ n. Admits (up_to (above low high) (offset_of low e)) n) 0 (width (above low high + 1))
  constrained_some i =
      let n = back low high e good within i.value i.spelt.fits in
      set_meets 2 (width (above low high + 1)) n.0 n.1 (width_fits (above low high + 1) n.0 (omega (arith, n.1.1)))

module _ (low : ℤ) (e : Option ℤ) (good : InProfile (integer (ranging low None))) (within : IsWithin (ranging low None) e) where
  -- the reader of a semi-constrained whole number does
  pub counted_leads : (us : List ℕ) → Leads per_fields (Map number_of (Counted 2 8 (Least (λ n. Admits (up_to (above low highest_integer) (offset_of low e)) n)))) us (number_from low) (Spelt per (option_map number e) (integer (ranging low None))) us
  counted_leads us =
      leads_on (leads_map per_fields (number_from low) (Map number_of (Counted 2 8 (Least (OpenOffsets low e good within)))) us) (leads_same per_fields us (semi_constrained_language low e good within))

  pub counted_some : Inhabited (Spelt per (option_map number e) (integer (ranging low None))) → Meets (λ n. Admits (up_to (above low highest_integer) (offset_of low e)) n) 0 72
  counted_some i =
      let n = open_back low e good within i.value i.spelt.fits in
      let top = offsets_below low (low_above_lowest low None good) (low_below_highest low None good) in
      set_meets 2 72 n.0 n.1 (omega (arith, n.1.1, top))
