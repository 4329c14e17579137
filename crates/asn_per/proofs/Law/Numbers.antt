-- Numbers in PER are told by their bits: those of a range, and normally small ones.
use Rattle.std.proofs.Common.{◌≡◌, ◌<◌, ◌⊎◌, ℕ, suc, ℤ, pos, negsuc, Bool, true, false, ◌&&◌, ◌||◌, List, ◌∷◌, ◌++◌, Option, Some, None, inl, inr, refl, sym, ◌∙◌, ap, subst, arith, IsTrue, nat_lt}
use Rattle.std.proofs.lemmas.Bool.{and_parts, true≢false, ltb-true, leb-true}
use Rattle.std.specs.Int.RustNames.{int_le}
use Rattle.asn_values.specs.Shape.{Range}
use Rattle.asn_values.specs.Fits.{FitsNumber, in_range, at_least, at_most}
use Rattle.asn_bits.specs.Numbers.{bits, width, above}
use Rattle.asn_bits.proofs.Codes.{IsCode}
use Rattle.asn_bits.proofs.Digits.{digits_code}
use Rattle.asn_bits.proofs.Octets.{least_code, least_signed_code}
use Rattle.asn_bits.proofs.Widths.{width_fits}
use Rattle.asn_per.specs.Per.{semi_constrained, unconstrained, small, ranged, after_mark, whole_number}

-- 0 is not 1
zero_one : ◌≡◌ {A = ℕ} 0 1 → ⊥
zero_one h = omega arith

-- ---- marks

-- two forms after a mark, each told by its bits
pub marked_code : {A : Type 0} (In Out : A → Type 0) (root other : A → List ℕ) (inside : A → Bool) (m : Bool)
    → ((x y : A) (r s : List ℕ) → In x → In y → root x ++ r ≡ root y ++ s → (x ≡ y) × (r ≡ s))
    → ((x y : A) (r s : List ℕ) → Out x → Out y → other x ++ r ≡ other y ++ s → (x ≡ y) × (r ≡ s))
    → (x y : A) (r s : List ℕ)
    → ((m ≡ false) ⊎ (inside x ≡ true) → In x) → ((m ≡ false) ⊎ (inside y ≡ true) → In y)
    → ((m ≡ true) × (inside x ≡ false) → Out x) → ((m ≡ true) × (inside y ≡ false) → Out y)
    → after_mark (λ u. u) m (inside x) (root x) (other x) ++ r ≡ after_mark (λ u. u) m (inside y) (root y) (other y) ++ s → (x ≡ y) × (r ≡ s)
marked_code In Out root other inside m hr ho x y r s ix iy ox oy e = go m (inside x) (inside y) refl refl refl e
  where
    go : (n i j : Bool) → m ≡ n → inside x ≡ i → inside y ≡ j
        → after_mark (λ u. u) n i (root x) (other x) ++ r ≡ after_mark (λ u. u) n j (root y) (other y) ++ s → (x ≡ y) × (r ≡ s)
    go false i j em ei ej e = hr x y r s (ix (inl em)) (iy (inl em)) e
    go true true true em ei ej e = hr x y r s (ix (inr ei)) (iy (inr ej)) (cc)
    go true false false em ei ej e = ho x y r s (ox (em, ei)) (oy (em, ej)) (cc)
    go true true false em ei ej e = absurd (zero_one (cc))
    go true false true em ei ej e = absurd (zero_one (sym (cc)))

-- ---- INTEGER

-- how far two numbers lie above a bound tells them
above_once : (low y z : ℤ) → int_le low y ≡ true → int_le low z ≡ true → above low y ≡ above low z → y ≡ z
above_once (pos l) (pos a) (pos b) p q e = ap pos (omega (arith, leb-true l a p, leb-true l b q))
above_once (pos l) (pos a) (negsuc b) p q e = absurd (true≢false (sym q))
above_once (pos l) (negsuc a) z p q e = absurd (true≢false (sym p))
above_once (negsuc l) (pos a) (pos b) p q e = ap pos (omega arith)
above_once (negsuc l) (pos a) (negsuc b) p q e = absurd (omega (arith, leb-true b l q))
above_once (negsuc l) (negsuc a) (pos b) p q e = absurd (omega (arith, leb-true a l p))
above_once (negsuc l) (negsuc a) (negsuc b) p q e = ap negsuc (omega (arith, leb-true a l p, leb-true b l q))

-- and is below the count of numbers between bounds
above_below : (low high z : ℤ) → int_le low z ≡ true → int_le z high ≡ true → above low z < suc (above low high)
above_below (pos l) (pos h) (pos a) p q = omega (arith, leb-true a h q)
above_below (pos l) (negsuc h) (pos a) p q = absurd (true≢false (sym q))
above_below (pos l) h (negsuc a) p q = absurd (true≢false (sym p))
above_below (negsuc l) (pos h) (pos a) p q = omega (arith, leb-true a h q)
above_below (negsuc l) (negsuc h) (pos a) p q = absurd (true≢false (sym q))
above_below (negsuc l) (pos h) (negsuc a) p q = omega arith
above_below (negsuc l) (negsuc h) (negsuc a) p q = omega (arith, leb-true h a q)

-- numbers between bounds are told by their bits
ranged_code : (low high : Option ℤ) (y z : ℤ) (r s : List ℕ) → (at_least low y && at_most high y) ≡ true → (at_least low z && at_most high z) ≡ true
    → ranged low high y ++ r ≡ ranged low high z ++ s → (y ≡ z) × (r ≡ s)
ranged_code (Some low) (Some high) y z r s p q e =
    let a = and_parts _ _ p in
    let b = and_parts _ _ q in
    let values = suc (above low high) in
    let w = digits_code 2 (omega arith) (width values) (above low y) (above low z) r s
    (width_fits values (above low y) (above_below low high y a.0 a.1)) (width_fits values (above low z) (above_below low high z b.0 b.1)) e in
    (above_once low y z a.0 b.0 w.0, w.1)
ranged_code (Some low) None y z r s p q e =
    let w = least_code (above low y) (above low z) r s e in
    (above_once low y z (and_parts _ _ p).0 (and_parts _ _ q).0 w.0, w.1)
ranged_code None high y z r s p q e = least_signed_code y z r s e

-- the numbers of a range are told by their bits
pub number_code : (b : Range) → IsCode (FitsNumber b) (whole_number b)
number_code b y z r s p q e =
    marked_code (λ z. in_range b z ≡ true) (λ z. Unit {0}) (ranged b.low b.high) unconstrained (in_range b) b.extensible
    (λ y z r s p q e. ranged_code b.low b.high y z r s p q e) (λ y z r s p q e. least_signed_code y z r s e)
    y z r s (inside y p.2) (inside z q.2) (λ h. tt) (λ h. tt) e
  where
    inside : (z : ℤ) → IsTrue (b.extensible || in_range b z) → (b.extensible ≡ false) ⊎ (in_range b z ≡ true) → in_range b z ≡ true
    inside z h (inl e) = subst (λ m. (m || in_range b z) ≡ true) e h
    inside z h (inr e) = e

-- ---- small numbers

-- a normally small number has one of two forms
small_cases : (n : ℕ) → ((n < 64) × (small n ≡ 0 ∷ bits 6 n)) ⊎ (small n ≡ 1 ∷ semi_constrained n)
small_cases n = go (nat_lt n 64) refl
  where
    go : (b : Bool) → nat_lt n 64 ≡ b → ((n < 64) × (small n ≡ 0 ∷ bits 6 n)) ⊎ (small n ≡ 1 ∷ semi_constrained n)
    go true e = inl (ltb-true n 64 e, rw (e, small) refl)
    go false e = inr (rw (e, small) refl)

-- and its bits tell it
pub small_code : (m n : ℕ) (r s : List ℕ) → small m ++ r ≡ small n ++ s → (m ≡ n) × (r ≡ s)
small_code m n r s e =
    elim (small_cases m) [
      | inl a ↦ elim (small_cases n) [
        | inl b ↦ let f : 0 ∷ (bits 6 m ++ r) ≡ 0 ∷ (bits 6 n ++ s) = ap (λ t. t ++ r) (sym a.1) ∙ e ∙ ap (λ t. t ++ s) b.1 in digits_code 2 (omega arith) 6 m n r s a.0 b.0 (cc)
        | inr b ↦ let f : 0 ∷ (bits 6 m ++ r) ≡ 1 ∷ (semi_constrained n ++ s) = ap (λ t. t ++ r) (sym a.1) ∙ e ∙ ap (λ t. t ++ s) b in absurd (zero_one (cc))
      ]
      | inr a ↦ elim (small_cases n) [
        | inl b ↦ let f : 1 ∷ (semi_constrained m ++ r) ≡ 0 ∷ (bits 6 n ++ s) = ap (λ t. t ++ r) (sym a) ∙ e ∙ ap (λ t. t ++ s) b.1 in absurd (zero_one (sym (cc)))
        | inr b ↦ let f : 1 ∷ (semi_constrained m ++ r) ≡ 1 ∷ (semi_constrained n ++ s) = ap (λ t. t ++ r) (sym a) ∙ e ∙ ap (λ t. t ++ s) b in least_code m n r s (cc)
      ]
    ]
