-- The codes of INTEGER in OER.
use Rattle.std.proofs.Common.{◌≡◌, ◌≤◌, ◌<◌, ◌-◌, ◌*◌, ◌^◌, ◌⊎◌, ℕ, ℤ, pos, negsuc, Bool, true, false, ◌&&◌, ◌||◌, List, ◌++◌, Option, Some, None, inl, inr, refl, sym, subst, arith}
use Rattle.asn_values.specs.Shape.{Range}
use Rattle.std.proofs.lemmas.Bool.{true≢false, ltb-true, leb-true, le-leb, and_parts}
use Rattle.std.proofs.lemmas.Nat.{pow_pos}
use Rattle.std.specs.Int.RustNames.{int_le, int_lt}
use Rattle.asn_values.specs.Fits.{FitsNumber, in_range, at_least, at_most}
use Rattle.asn_bits.specs.Numbers.{magnitude}
use Rattle.asn_bits.proofs.Codes.{IsCode}
use Rattle.asn_bits.proofs.Digits.{digits_code}
use Rattle.asn_bits.proofs.Octets.{signed_octets_code}
use Rattle.asn_oer.specs.Oer.{counted_signed, unsigned_octets, unsigned_in, both_in, signed_size, signed_in, ranged, whole_number}
use Rattle.asn_oer.proofs.Law.Leaves.{magnitude_once, counted_code, counted_signed_code}
use Rattle.asn_rules.specs.IntegerSets.{magnitude_of}

-- ---- from zero on

-- a fixed number of octets, of 8 at most, that holds the high bound, or none
pub unsigned_cases : (u : ℤ) → ((k : ℕ) × (unsigned_octets u ≡ Some k) × (int_lt u (pos (256 ^ k)) ≡ true) × (k ≤ 8)) ⊎ (unsigned_octets u ≡ None)
unsigned_cases u = go (int_lt u (pos (2 ^ 8))) (int_lt u (pos (2 ^ 16))) (int_lt u (pos (2 ^ 32))) (int_lt u (pos (2 ^ 64))) refl refl refl refl
  where
    go : (a b c d : Bool) → int_lt u (pos (2 ^ 8)) ≡ a → int_lt u (pos (2 ^ 16)) ≡ b → int_lt u (pos (2 ^ 32)) ≡ c → int_lt u (pos (2 ^ 64)) ≡ d
        → ((k : ℕ) × (unsigned_octets u ≡ Some k) × (int_lt u (pos (256 ^ k)) ≡ true) × (k ≤ 8)) ⊎ (unsigned_octets u ≡ None)
    go true b c d ea eb ec ed = inl (1, rw (ea, unsigned_octets) refl, ea, omega arith)
    go false true c d ea eb ec ed = inl (2, rw (ea, eb, unsigned_octets) refl, eb, omega arith)
    go false false true d ea eb ec ed = inl (4, rw (ea, eb, ec, unsigned_octets) refl, ec, omega arith)
    go false false false true ea eb ec ed = inl (8, rw (ea, eb, ec, ed, unsigned_octets) refl, ed, omega arith)
    go false false false false ea eb ec ed = inr (rw (ea, eb, ec, ed, unsigned_octets) refl)

-- a number up to a bound that is below n is below n
pub below_bound : (u y : ℤ) (n : ℕ) → int_le (pos 0) y ≡ true → int_le y u ≡ true → int_lt u (pos n) ≡ true → magnitude_of y < n
below_bound (pos m) (pos k) n p q l = omega (arith, leb-true k m q, ltb-true m n l)
below_bound (negsuc m) (pos k) n p q l = absurd (true≢false (sym q))
below_bound u (negsuc k) n p q l = absurd (true≢false (sym p))

-- numbers from 0 up to the high bound are a code
unsigned_code : (u y z : ℤ) (r s : List ℕ) → int_le (pos 0) y ≡ true → int_le (pos 0) z ≡ true → int_le y u ≡ true → int_le z u ≡ true
    → unsigned_in (unsigned_octets u) y ++ r ≡ unsigned_in (unsigned_octets u) z ++ s → (y ≡ z) × (r ≡ s)
unsigned_code u y z r s p q a b e =
    elim (unsigned_cases u) [
      | inl k ↦
          let w = digits_code 256 (omega arith) k.0 (magnitude_of y) (magnitude_of z) r s (below_bound u y (256 ^ k.0) p a k.2) (below_bound u z (256 ^ k.0) q b k.2)
          (subst (λ o. unsigned_in o y ++ r ≡ unsigned_in o z ++ s) k.1 e) in
          (magnitude_once y z p q w.0, w.1)
      | inr k ↦ counted_code y z r s p q (subst (λ o. unsigned_in o y ++ r ≡ unsigned_in o z ++ s) k e)
    ]

-- ---- from below zero on

-- the same of both bounds, in two's complement
pub signed_cases : (l u : ℤ) → ((k : ℕ) × (1 ≤ k) × (signed_size l u ≡ Some k) × (both_in k l u ≡ true) × (k ≤ 8)) ⊎ (signed_size l u ≡ None)
signed_cases l u = go (both_in 1 l u) (both_in 2 l u) (both_in 4 l u) (both_in 8 l u) refl refl refl refl
  where
    go : (a b c d : Bool) → both_in 1 l u ≡ a → both_in 2 l u ≡ b → both_in 4 l u ≡ c → both_in 8 l u ≡ d
        → ((k : ℕ) × (1 ≤ k) × (signed_size l u ≡ Some k) × (both_in k l u ≡ true) × (k ≤ 8)) ⊎ (signed_size l u ≡ None)
    go true b c d ea eb ec ed = inl (1, omega arith, rw (ea, signed_size) refl, ea, omega arith)
    go false true c d ea eb ec ed = inl (2, omega arith, rw (ea, eb, signed_size) refl, eb, omega arith)
    go false false true d ea eb ec ed = inl (4, omega arith, rw (ea, eb, ec, signed_size) refl, ec, omega arith)
    go false false false true ea eb ec ed = inl (8, omega arith, rw (ea, eb, ec, ed, signed_size) refl, ed, omega arith)
    go false false false false ea eb ec ed = inr (rw (ea, eb, ec, ed, signed_size) refl)

-- numbers from -n on and below n, as their bounds say, have a magnitude below n
pub in_bound : (l u y : ℤ) (n : ℕ) → 0 < n → int_le (negsuc (n - 1)) l ≡ true → int_lt u (pos n) ≡ true → int_le l y ≡ true → int_le y u ≡ true → magnitude y < n
in_bound l (pos u) (pos y) n h a b p q = omega (arith, ltb-true u n b, leb-true y u q)
in_bound l (negsuc u) (pos y) n h a b p q = absurd (true≢false (sym q))
in_bound (pos l) u (negsuc y) n h a b p q = absurd (true≢false (sym p))
in_bound (negsuc l) u (negsuc y) n h a b p q = omega (arith, leb-true l (n - 1) a, leb-true y l p)

-- numbers between the bounds are a code in two's complement
signed_code : (l u y z : ℤ) (r s : List ℕ) → int_le l y ≡ true → int_le l z ≡ true → int_le y u ≡ true → int_le z u ≡ true
    → signed_in (signed_size l u) y ++ r ≡ signed_in (signed_size l u) z ++ s → (y ≡ z) × (r ≡ s)
signed_code l u y z r s p q a b e =
    elim (signed_cases l u) [
      | inl k ↦
          let n = 2 ^ (8 * k.0 - 1) in
          let some : 0 < n = pow_pos (8 * k.0 - 1) in
          let w = and_parts (int_le (negsuc (n - 1)) l) (int_lt u (pos n)) k.3 in
          signed_octets_code k.0 y z r s k.1 (in_bound l u y n some w.0 w.1 p a) (in_bound l u z n some w.0 w.1 q b)
          (subst (λ o. signed_in o y ++ r ≡ signed_in o z ++ s) k.2 e)
      | inr k ↦ counted_signed_code y z r s (subst (λ o. signed_in o y ++ r ≡ signed_in o z ++ s) k e)
    ]

-- ---- all bounds

-- a number not below one from 0 is from 0
pub from_zero : (l : ℕ) (y : ℤ) → int_le (pos l) y ≡ true → int_le (pos 0) y ≡ true
from_zero l (pos n) h = le-leb 0 n (omega arith)
from_zero l (negsuc n) h = absurd (true≢false (sym h))

-- the numbers between the bounds, of which either may be missing, are a code
ranged_code : (low high : Option ℤ) (y z : ℤ) (r s : List ℕ) → (at_least low y && at_most high y) ≡ true → (at_least low z && at_most high z) ≡ true
    → ranged low high y ++ r ≡ ranged low high z ++ s → (y ≡ z) × (r ≡ s)
ranged_code (Some (pos l)) (Some u) y z r s p q e =
    let a = and_parts _ _ p in
    let b = and_parts _ _ q in
    unsigned_code u y z r s (from_zero l y a.0) (from_zero l z b.0) a.1 b.1 e
ranged_code (Some (pos l)) None y z r s p q e = counted_code y z r s (from_zero l y (and_parts _ _ p).0) (from_zero l z (and_parts _ _ q).0) e
ranged_code (Some (negsuc l)) (Some u) y z r s p q e =
    let a = and_parts _ _ p in
    let b = and_parts _ _ q in
    signed_code (negsuc l) u y z r s a.0 b.0 a.1 b.1 e
ranged_code (Some (negsuc l)) None y z r s p q e = counted_signed_code y z r s e
ranged_code None high y z r s p q e = counted_signed_code y z r s e

-- an INTEGER is a code
pub number_code : (b : Range) → IsCode (FitsNumber b) (whole_number b)
number_code b y z r s p q e = go b.extensible refl e
  where
    go : (m : Bool) → b.extensible ≡ m → elim m [ true ↦ counted_signed y | false ↦ ranged b.low b.high y ] ++ r ≡ elim m [ true ↦ counted_signed z | false ↦ ranged b.low b.high z ] ++ s → (y ≡ z) × (r ≡ s)
    go true m e = counted_signed_code y z r s e
    go false m e =
        ranged_code b.low b.high y z r s (subst (λ x. (x || in_range b y) ≡ true) m p.2) (subst (λ x. (x || in_range b z) ≡ true) m q.2) e
