-- Numbers and lengths of the profile that fit: a bound of a range, 0, and the low bound of a size.
use Rattle.std.proofs.Common.{◌≡◌, ◌<◌, ◌==◌, ℕ, zero, suc, ℤ, pos, negsuc, ◌≤ℤ◌, Bool, true, false, not, ◌||◌, length, List, Option, Some, None, refl, sym, subst, arith, T}
use Rattle.std.proofs.lemmas.Bool.{true≢false, le-leb, or_parts, not-false}
use Rattle.std.proofs.lemmas.List.{length-replicate}
use Rattle.std.specs.Int.RustNames.{int_le, int_lt}
use Rattle.std.specs.Int.Signed.{lt_z_no}
use Rattle.asn_values.specs.Shape.{Alphabet, SizeRange, Shape, integer, enumerated, bit_string, octet_string, restricted, sequence_of, Label, MoreLabels}
use Rattle.asn_values.specs.Fits.{FitsNumber, FitsLength, at_most, lowest_integer, highest_integer}
use Rattle.asn_values.specs.Profile.{InProfile, EmptyRange, SizeTooLarge, empty_range, size_too_large, somewhere, is_outside, low_above_high, size_above, large_size}
use Rattle.asn_values.proofs.Parts.{left_false}
use Rattle.asn_rules.proofs.Law.SomeValue.{shortest_fits}
use Rattle.asn_examples.specs.Lengths.{IsSizeWithLengths}

-- ---- the order of numbers

le_self : (z : ℤ) → int_le z z ≡ true
le_self (pos n) = le-leb n n (omega arith)
le_self (negsuc n) = le-leb n n (omega arith)

not_less : (a b : ℤ) → int_lt a b ≡ false → b ≤ℤ a
not_less a b e = lt_z_no (subst (λ t. T (not t)) (sym e) tt)

inside_profile : (z : ℤ) → is_outside (Some z) ≡ false → (lowest_integer ≤ℤ z) × (z ≤ℤ highest_integer)
inside_profile z h = let w = or_parts _ _ h in (not_less z lowest_integer w.0, not_less highest_integer z w.1)

either_range : (m i : Bool) → i ≡ true → (m || i) ≡ true
either_range true i e = refl
either_range false i e = e

-- ---- numbers that fit

module _ (low high : Option ℤ) (m : Bool) (h : empty_range (integer (record { low = low; high = high; extensible = m })) ≡ false) where
  -- the low bound
  pub low_fits : (l : ℤ) → low ≡ Some l → FitsNumber (record { low = low; high = high; extensible = m }) l
  low_fits l e = subst (λ (x : Option ℤ). FitsNumber (record { low = x; high = high; extensible = m }) l) (sym e)
      (let g : (low_above_high (Some l) high || (is_outside (Some l) || is_outside high)) ≡ false = subst (λ (x : Option ℤ). (low_above_high x high || (is_outside x || is_outside high)) ≡ false) e h in
      let w = or_parts _ _ g in
      let v = or_parts _ _ w.1 in
      let p = inside_profile l v.0 in
      let a : at_most high l ≡ true = not-false _ w.0 in
      (p.0, p.1, either_range m _ (rw (le_self l) a)))

  -- the high bound, where there is no low one
  pub high_fits : (u : ℤ) → low ≡ None → high ≡ Some u → FitsNumber (record { low = low; high = high; extensible = m }) u
  high_fits u e f = subst (λ (x : Option ℤ). FitsNumber (record { low = x; high = high; extensible = m }) u) (sym e)
      (subst (λ (y : Option ℤ). FitsNumber (record { low = None; high = y; extensible = m }) u) (sym f)
      (let g : (low_above_high None (Some u) || (is_outside None || is_outside (Some u))) ≡ false = subst (λ (y : Option ℤ). (low_above_high None y || (is_outside None || is_outside y)) ≡ false) f (subst (λ (x : Option ℤ). (low_above_high x high || (is_outside x || is_outside high)) ≡ false) e h) in
      let p = inside_profile u g in
      (p.0, p.1, either_range m _ (le_self u))))

  -- 0, where there is none
  pub zero_fits : low ≡ None → high ≡ None → FitsNumber (record { low = low; high = high; extensible = m }) (pos 0)
  zero_fits e f = subst (λ (x : Option ℤ). FitsNumber (record { low = x; high = high; extensible = m }) (pos 0)) (sym e)
      (subst (λ (y : Option ℤ). FitsNumber (record { low = None; high = y; extensible = m }) (pos 0)) (sym f)
      (not_less (pos 0) lowest_integer refl, not_less highest_integer (pos 0) refl, either_range m true refl))

-- ---- sizes

-- the low bound of a size
pub shortest : (s : SizeRange) → IsSizeWithLengths s → FitsLength s s.low
shortest s h = subst (FitsLength s) (length-replicate s.low true) (shortest_fits s true h.ordered h.small)

-- the size of a string of the profile
pub bits_size : (s : SizeRange) → InProfile (bit_string s) → IsSizeWithLengths s
bits_size s good = record { ordered = good EmptyRange; small = good SizeTooLarge }

pub octets_size : (s : SizeRange) → InProfile (octet_string s) → IsSizeWithLengths s
octets_size s good = record { ordered = good EmptyRange; small = good SizeTooLarge }

pub text_size : (k : Alphabet) (s : SizeRange) → InProfile (restricted k s) → IsSizeWithLengths s
text_size k s good = record { ordered = good EmptyRange; small = good SizeTooLarge }

-- the size of a SEQUENCE OF of the profile
pub list_size : (t : Shape) (s : SizeRange) → InProfile (sequence_of t s) → IsSizeWithLengths s
list_size t s good = record { ordered = left_false (size_above s) (somewhere empty_range t) (good EmptyRange); small = left_false (large_size (Some s)) (somewhere size_too_large t) (good SizeTooLarge) }

-- an ENUMERATED of the profile has an item in its root
pub some_item : (root : List Label) (more : MoreLabels) → InProfile (enumerated root more) → 0 < length root
some_item root more good = go (length root) (good EmptyRange)
  where
    go : (n : ℕ) → (n == 0) ≡ false → 0 < n
    go zero e = absurd (true≢false e)
    go (suc n) e = omega arith
