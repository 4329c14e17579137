-- INTEGER in OER: which octets the integers of a range have, of a fixed number or after their count, from 0 on or in
-- two's complement.
use Rattle.std.proofs.Common.{◌≡◌, ◌≤◌, ◌<◌, ◌-◌, ◌*◌, ◌^◌, ◌⊎◌, ℕ, ℤ, pos, negsuc, ◌≤ℤ◌, Bool, true, false, List, ◌++◌, Option, Some, None, inl, inr, refl, sym, ap, ◌∙◌, subst, nat_lt, arith}
use Rattle.std.proofs.lemmas.Bool.{true≢false, ltb-true, lt-ltb, leb-true, le-leb, and_parts}
use Rattle.std.proofs.lemmas.Int.{ints}
use Rattle.std.proofs.lemmas.Nat.{pow_pos}
use Rattle.std.specs.Int.RustNames.{int_le, int_lt}
use Rattle.asn_values.specs.Datum.{Datum, number}
use Rattle.asn_values.specs.Shape.{Range, integer}
use Rattle.asn_values.specs.Fits.{Fits, FitsNumber, lowest_integer, highest_integer, highest_number}
use Rattle.asn_values.specs.Profile.{InProfile, EmptyRange, is_outside, low_above_high}
use Rattle.asn_values.proofs.Parts.{left_false, right_false}
use Rattle.asn_bits.specs.Numbers.{digits, octets, octet_count, least, magnitude, signed_octet_count, signed_octets, least_signed}
use Rattle.asn_bits.specs.Lengths.{octet_length}
use Rattle.asn_bits.proofs.Above.{le_of_test}
use Rattle.asn_bits.proofs.Octets.{length-digits, octet_count_below, half, residue, signed_is, length-least_signed, signed_count_below}
use Rattle.asn_rules.specs.Chunks.{Chunk, ones}
use Rattle.asn_bits.specs.Sets.{Between, Among}
use Rattle.asn_rules.specs.Forks.{Same}
use Rattle.asn_rules.specs.Counted.{signed_number}
use Rattle.asn_rules.specs.Spellings.{SpelledBy}
use Rattle.asn_rules.proofs.Numbers.CountedCodes.{counted_octets, counted_signed_octets, residue_of, number_again}
use Rattle.asn_rules.proofs.Languages.Spellings.{same_after, same_map, same_spelled, digits_spelled, map_spelled}
use Rattle.asn_rules.proofs.Plain.IntegerSets.{AreNumbers, ordered, numbers_between, numbers_from}
use Rattle.asn_oer.specs.Oer.{counted, counted_signed, unsigned_octets, unsigned_in, both_in, signed_size, signed_in, whole_number, oer}
use Rattle.asn_oer.specs.SimpleTypes.{FixedUnsigned, CountedUnsigned, residues, FixedSigned, CountedSigned, UnsignedIn, SignedIn, BoundedIntegers, Integers}
use Rattle.asn_oer.proofs.Law.Integers.{unsigned_cases, signed_cases, in_bound}
use Rattle.asn_oer.proofs.Encodings.SpeltLeaves.{in_64_bits}

-- the integers of a range, as they are spelt
abbrev Spelling : Range → ℤ → List Chunk → Type 0
Spelling b = SpelledBy (FitsNumber b) (λ z. ones (whole_number b z))

-- ---- from 0 on

-- in k octets, where that is how they are spelt
fixed_unsigned : (b : Range) (k low high : ℕ) → AreNumbers b low high → high < 256 ^ k → ((n : ℕ) → whole_number b (pos n) ≡ octets k n) → Same (FixedUnsigned k low high) (Spelling b)
fixed_unsigned b k low high h room code = same_after (same_map (digits_spelled 256 k (Between low high) (λ n s. omega (arith, s.1, room)))) (map_spelled (λ n s. (h.fit n s, ap ones (sym (code n)))) h.are)

-- after their count
counted_unsigned : (b : Range) (low high : ℕ) → AreNumbers b low high → high < 18446744073709551616 → ((n : ℕ) → whole_number b (pos n) ≡ counted (pos n)) → Same (CountedUnsigned low high) (Spelling b)
counted_unsigned b low high h room code = same_after (same_map (counted_octets (Between low high) few)) (map_spelled (λ n s. (h.fit n s, same n)) h.are)
  where
    few : (n : ℕ) → Between low high n → octet_count n < 128
    few n s =
        let l : octet_count n ≤ 8 = octet_count_below n 8 (omega arith) (omega (arith, s.1, room)) in
        omega arith

    same : (n : ℕ) → ones (octet_length (octet_count n) ++ least n) ≡ ones (whole_number b (pos n))
    same n = ap (λ (k : ℕ). ones (octet_length k ++ least n)) (sym (length-digits 256 (octet_count n) n)) ∙ ap ones (sym (code n))

-- ---- in two's complement

-- after their count
counted_signed_language : (b : Range) → ((z : ℤ) → whole_number b z ≡ counted_signed z) → Same (CountedSigned (FitsNumber b)) (Spelling b)
counted_signed_language b code = same_after (counted_signed_octets (FitsNumber b) few) (same_spelled (λ z h. h) (λ z h. h) (λ z h. same z))
  where
    few : (z : ℤ) → FitsNumber b z → signed_octet_count z < 128
    few z h =
        let l : signed_octet_count z ≤ 9 = signed_count_below z 9 (omega arith) (omega (arith, in_64_bits z h.0 h.1)) in
        omega arith

    same : (z : ℤ) → ones (octet_length (signed_octet_count z) ++ least_signed z) ≡ ones (whole_number b z)
    same z = ap (λ (k : ℕ). ones (octet_length k ++ least_signed z)) (sym (length-least_signed z)) ∙ ap ones (sym (code z))

-- the integers of the range are those from low to high, and k octets hold them
record AreSigned (b : Range) (k : ℕ) (low high : ℤ) : Type 0 where
  some : 1 ≤ k
  fit : (z : ℤ) → int_le low z ≡ true → int_le z high ≡ true → FitsNumber b z
  above_low : (z : ℤ) → FitsNumber b z → int_le low z ≡ true
  below_high : (z : ℤ) → FitsNumber b z → int_le z high ≡ true
  room : (z : ℤ) → FitsNumber b z → magnitude z < 2 ^ (8 * k - 1)

-- a small number stands for itself
small_residue : (k n : ℕ) → n < 2 ^ (8 * k - 1) → signed_number (k, n) ≡ pos n
small_residue k n h = let e = lt-ltb n (2 ^ (8 * k - 1)) h in rw (e, signed_number) refl

-- a large one for a negative integer
large_residue : (k n : ℕ) → 2 ^ (8 * k - 1) ≤ n → signed_number (k, n) ≡ negsuc (256 ^ k - 1 - n)
large_residue k n h = go (nat_lt n (2 ^ (8 * k - 1))) refl
  where
    go : (t : Bool) → nat_lt n (2 ^ (8 * k - 1)) ≡ t → signed_number (k, n) ≡ negsuc (256 ^ k - 1 - n)
    go true e = absurd (omega (arith, h, ltb-true n (2 ^ (8 * k - 1)) e))
    go false e = rw (e, signed_number) refl

module _ (b : Range) (k low : ℕ) where
  -- what k octets hold, and the integer that it stands for
  abbrev Stands : ℤ → ℕ → Type 0
  Stands high n = (n < 256 ^ k) × (int_le (negsuc low) (signed_number (k, n)) ≡ true) × (int_le (signed_number (k, n)) high ≡ true)

  -- its number has these bounds
  stands_as : (high z : ℤ) (n : ℕ) → signed_number (k, n) ≡ z → n < 256 ^ k → int_le (negsuc low) z ≡ true → int_le z high ≡ true → Stands high n
  stands_as high z n e room p q = (room, ap (λ (y : ℤ). int_le (negsuc low) y) e ∙ p, ap (λ (y : ℤ). int_le y high) e ∙ q)

  -- a number of the residues stands for an integer between the bounds
  stands : (high : ℤ) → 1 ≤ k → low < 2 ^ (8 * k - 1) → int_lt high (pos (2 ^ (8 * k - 1))) ≡ true → (n : ℕ) → Among (residues k (negsuc low) high) n → Stands high n
  stands (pos high) some room top n (inl s) =
      let l : high < 2 ^ (8 * k - 1) = ltb-true high (2 ^ (8 * k - 1)) top in
      let h = half k some in
      stands_as (pos high) (pos n) n (small_residue k n (omega (arith, s.1))) (omega (arith, s.1)) refl (le-leb n high s.1)
  stands (pos high) some room top n (inr (inl s)) =
      let h = half k some in
      let few : n < 256 ^ k = omega (arith, s.1) in
      let j : 256 ^ k - 1 - n ≤ low = omega (arith, s.0) in
      stands_as (pos high) (negsuc (256 ^ k - 1 - n)) n (large_residue k n (omega (arith, s.0))) few (le-leb (256 ^ k - 1 - n) low j) refl
  stands (pos high) some room top n (inr (inr s)) = absurd s
  stands (negsuc high) some room top n (inl s) =
      let h = half k some in
      let few : n < 256 ^ k = omega (arith, s.1) in
      let j : 256 ^ k - 1 - n ≤ low = omega (arith, s.0) in
      let i : high ≤ 256 ^ k - 1 - n = omega (arith, s.0, s.1) in
      stands_as (negsuc high) (negsuc (256 ^ k - 1 - n)) n (large_residue k n (omega (arith, s.0))) few (le-leb (256 ^ k - 1 - n) low j) (le-leb high (256 ^ k - 1 - n) i)
  stands (negsuc high) some room top n (inr s) = absurd s

  -- the integers from low to high have such numbers
  stand_back : (high z : ℤ) → int_le (negsuc low) z ≡ true → int_le z high ≡ true → Among (residues k (negsuc low) high) (residue k z)
  stand_back (pos high) (pos n) p q = inl (omega arith, leb-true n high q)
  stand_back (negsuc high) (pos n) p q = absurd (true≢false (sym q))
  stand_back (pos high) (negsuc n) p q = let l = leb-true n low p in inr (inl (omega arith, omega arith))
  stand_back (negsuc high) (negsuc n) p q =
      let l = leb-true n low p in
      let m = leb-true high n q in
      inl (omega arith, omega arith)

  -- in k octets
  fixed_signed : (high : ℤ) → AreSigned b k (negsuc low) high → both_in k (negsuc low) high ≡ true → ((z : ℤ) → whole_number b z ≡ signed_octets k z) → Same (FixedSigned k (negsuc low) high) (Spelling b)
  fixed_signed high h held code = same_after (same_map (digits_spelled 256 k (Among (residues k (negsuc low) high)) (λ n s. (number n s).0))) (map_spelled there back)
    where
      number : (n : ℕ) → Among (residues k (negsuc low) high) n → Stands high n
      number n s =
          let w = and_parts (int_le (negsuc (2 ^ (8 * k - 1) - 1)) (negsuc low)) (int_lt high (pos (2 ^ (8 * k - 1)))) held in
          let some : 0 < 2 ^ (8 * k - 1) = pow_pos (8 * k - 1) in
          stands high h.some (omega (arith, leb-true low (2 ^ (8 * k - 1) - 1) w.0)) w.1 n s

      there : (n : ℕ) → Among (residues k (negsuc low) high) n → FitsNumber b (signed_number (k, n)) × (ones (digits 256 k n) ≡ ones (whole_number b (signed_number (k, n))))
      there n s =
          let w = number n s in
          let z = signed_number (k, n) in
          (h.fit z w.1 w.2, ap ones (ap (λ (i : ℕ). octets k i) (sym (residue_of k n h.some w.0)) ∙ sym (signed_is k z) ∙ sym (code z)))

      back : (z : ℤ) → FitsNumber b z → (n : ℕ) × Among (residues k (negsuc low) high) n × (z ≡ signed_number (k, n))
      back z f = (residue k z, stand_back high z (h.above_low z f) (h.below_high z f), sym (number_again k z h.some (h.room z f)))

-- ---- the bounds of a range of the profile

-- a range without a mark
abbrev plain : Option ℤ → Option ℤ → Range
plain low high = record { low = low; high = high; extensible = false }

-- what is not false is true

-- the test of the order says which is not below
not_below : (a b : ℤ) → int_lt a b ≡ false → b ≤ℤ a
not_below a b e = grind (arith, ints)

-- a bound that the profile allows is an integer of it
inside : (z : ℤ) → is_outside (Some z) ≡ false → (lowest_integer ≤ℤ z) × (z ≤ℤ highest_integer)
inside z e = (not_below z lowest_integer (left_false _ _ e), not_below highest_integer z (right_false (int_lt z lowest_integer) _ e))

-- a low bound is an integer of the profile
low_inside : (low : ℤ) (high : Option ℤ) → InProfile (integer (plain (Some low) high)) → lowest_integer ≤ℤ low
low_inside low high good = (inside low (left_false _ _ (right_false (low_above_high (Some low) high) _ (good EmptyRange)))).0

-- and so is a high one
high_inside : (low : Option ℤ) (high : ℤ) → InProfile (integer (plain low (Some high))) → high ≤ℤ highest_integer
high_inside low high good = (inside high (right_false (is_outside low) _ (right_false (low_above_high low (Some high)) _ (good EmptyRange)))).1

-- the integers between bounds that k octets hold
signed_between : (low high : ℤ) (k : ℕ) → InProfile (integer (plain (Some low) (Some high))) → 1 ≤ k → both_in k low high ≡ true → AreSigned (plain (Some low) (Some high)) k low high
signed_between low high k good some held = record { some = some; fit = fit; above_low = above; below_high = below; room = room }
  where
    fit : (z : ℤ) → int_le low z ≡ true → int_le z high ≡ true → FitsNumber (plain (Some low) (Some high)) z
    fit z p q = (
      omega (arith, ints, le_of_test low z p, low_inside low (Some high) good),
      omega (arith, ints, le_of_test z high q, high_inside (Some low) high good),
      rw (p, q) refl,
    )

    above : (z : ℤ) → FitsNumber (plain (Some low) (Some high)) z → int_le low z ≡ true
    above z f = (and_parts (int_le low z) (int_le z high) f.2).0

    below : (z : ℤ) → FitsNumber (plain (Some low) (Some high)) z → int_le z high ≡ true
    below z f = (and_parts (int_le low z) (int_le z high) f.2).1

    room : (z : ℤ) → FitsNumber (plain (Some low) (Some high)) z → magnitude z < 2 ^ (8 * k - 1)
    room z f =
        let n = 2 ^ (8 * k - 1) in
        let w = and_parts (int_le (negsuc (n - 1)) low) (int_lt high (pos n)) held in
        in_bound low high z n (pow_pos (8 * k - 1)) w.0 w.1 (above z f) (below z f)

-- ---- all ranges

-- the integers between two bounds, the low one not negative
unsigned_language : (low high : ℕ) → InProfile (integer (plain (Some (pos low)) (Some (pos high)))) → Same (UnsignedIn (unsigned_octets (pos high)) low high) (Spelling (plain (Some (pos low)) (Some (pos high))))
unsigned_language low high good = go (unsigned_cases (pos high))
  where
    b : Range
    b = plain (Some (pos low)) (Some (pos high))

    go : ((k : ℕ) × (unsigned_octets (pos high) ≡ Some k) × (int_lt (pos high) (pos (256 ^ k)) ≡ true) × (k ≤ 8)) ⊎ (unsigned_octets (pos high) ≡ None) → Same (UnsignedIn (unsigned_octets (pos high)) low high) (Spelling (plain (Some (pos low)) (Some (pos high))))
    go (inl k) =
        subst (λ o. Same (UnsignedIn o low high) (Spelling b)) (sym k.1)
        (fixed_unsigned b k.0 low high (numbers_between low high good) (ltb-true high (256 ^ k.0) k.2) (λ n. ap (λ o. unsigned_in o (pos n)) k.1))
    go (inr e) =
        subst (λ o. Same (UnsignedIn o low high) (Spelling b)) (sym e)
        (counted_unsigned b low high (numbers_between low high good) (omega (arith, ints, high_inside (Some (pos low)) (pos high) good)) (λ n. ap (λ o. unsigned_in o (pos n)) e))

-- the integers between two bounds, the low one negative
signed_language : (low : ℕ) (high : ℤ) → InProfile (integer (plain (Some (negsuc low)) (Some high))) → Same (SignedIn (plain (Some (negsuc low)) (Some high)) (signed_size (negsuc low) high) (negsuc low) high) (Spelling (plain (Some (negsuc low)) (Some high)))
signed_language low high good = go (signed_cases (negsuc low) high)
  where
    b : Range
    b = plain (Some (negsuc low)) (Some high)

    go : ((k : ℕ) × (1 ≤ k) × (signed_size (negsuc low) high ≡ Some k) × (both_in k (negsuc low) high ≡ true) × (k ≤ 8)) ⊎ (signed_size (negsuc low) high ≡ None)
        → Same (SignedIn (plain (Some (negsuc low)) (Some high)) (signed_size (negsuc low) high) (negsuc low) high) (Spelling (plain (Some (negsuc low)) (Some high)))
    go (inl k) =
        subst (λ o. Same (SignedIn b o (negsuc low) high) (Spelling b)) (sym k.2)
        (fixed_signed b k.0 low high (signed_between (negsuc low) high k.0 good k.1 k.3) k.3 (λ z. ap (λ o. signed_in o z) k.2))
    go (inr e) =
        subst (λ o. Same (SignedIn b o (negsuc low) high) (Spelling b)) (sym e)
        (counted_signed_language b (λ z. ap (λ o. signed_in o z) e))

-- by its bounds
bounded_language : (low high : Option ℤ) → InProfile (integer (plain low high)) → Same (BoundedIntegers (plain low high) low high) (Spelling (plain low high))
bounded_language (Some (pos low)) (Some (pos high)) good = unsigned_language low high good
bounded_language (Some (pos low)) (Some (negsuc high)) good = absurd (true≢false (sym (ordered (pos low) (negsuc high) good)))
bounded_language (Some (pos low)) None good = counted_unsigned (plain (Some (pos low)) None) low highest_number (numbers_from low) (omega arith) (λ n. refl)
bounded_language (Some (negsuc low)) (Some high) good = signed_language low high good
bounded_language (Some (negsuc low)) None good = counted_signed_language (plain (Some (negsuc low)) None) (λ z. refl)
bounded_language None high good = counted_signed_language (plain None high) (λ z. refl)

-- the integers of any range of the profile
pub integer_language : (b : Range) → InProfile (integer b) → Same (Integers b) (SpelledBy (Fits (integer b)) (oer (integer b)))
integer_language b good = same_after (same_map (go b.extensible b.low b.high good)) (map_spelled (λ z f. (f, refl)) back)
  where
    go : (e : Bool) (low high : Option ℤ) → InProfile (integer (record { low = low; high = high; extensible = e }))
        → Same (elim e as (λ x. ℤ → List Chunk → Type 0) [ true ↦ CountedSigned (FitsNumber (record { low = low; high = high; extensible = e })) | false ↦ BoundedIntegers (record { low = low; high = high; extensible = e }) low high ]) (Spelling (record { low = low; high = high; extensible = e }))
    go true low high good = counted_signed_language (record { low = low; high = high; extensible = true }) (λ z. refl)
    go false low high good = bounded_language low high good

    back : (v : Datum) → Fits (integer b) v → (z : ℤ) × FitsNumber b z × (v ≡ number z)
    back (number z) f = (z, f, refl)
    back _ f = absurd f
