-- The items of an ENUMERATED are told by their bits in PER: each has its index, how many items have a lower number.
use Rattle.std.proofs.Common.{◌≡◌, ◌≤◌, ◌<◌, ◌+◌, ◌-◌, ◌⊎◌, ℕ, zero, suc, ℤ, pos, negsuc, Bool, true, false, List, [], ◌∷◌, length, inl, inr, refl, sym, ◌∙◌, ap, arith, nat_lt}
use Rattle.std.proofs.lemmas.Bool.{true≢false, ltb-true, ltb-false, lt-ltb, cases_lt}
use Rattle.std.specs.Int.RustNames.{int_lt}
use Rattle.asn_values.specs.Shape.{Label, MoreLabels, closed_labels, marked_labels, more_labels, has_more_labels}
use Rattle.asn_values.specs.Profile.{int_eq, has_twice}
use Rattle.asn_bits.specs.Numbers.{width}
use Rattle.asn_bits.proofs.Codes.{IsCode}
use Rattle.asn_bits.proofs.Digits.{digits_code}
use Rattle.asn_bits.proofs.Widths.{width_fits}
use Rattle.asn_rules.specs.Components.{number_at}
use Rattle.asn_rules.proofs.Law.Items.{numbers, one_place}
use Rattle.asn_per.proofs.Law.Numbers.{marked_code, small_code}
use Rattle.asn_per.specs.Per.{constrained, small, rank, enumeration}
pub use Rattle.asn_plan.proofs.Ranks.{lt_not_self, lt_also, rank_yes, rank_no}

-- ---- numbers in order

-- of two numbers one is below, or they are one
pub compare : (y z : ℤ) → (int_lt y z ≡ true) ⊎ (y ≡ z) ⊎ (int_lt z y ≡ true)
compare (pos a) (pos b) = elim (cases_lt a b) [
  | inl h ↦ inl (lt-ltb a b h)
  | inr h ↦ elim (cases_lt b a) [ inl g ↦ inr (inr (lt-ltb b a g)) | inr g ↦ inr (inl (ap pos (omega arith))) ]
]
compare (pos a) (negsuc b) = inr (inr refl)
compare (negsuc a) (pos b) = inl refl
compare (negsuc a) (negsuc b) = elim (cases_lt a b) [
  | inl h ↦ inr (inr (lt-ltb a b h))
  | inr h ↦ elim (cases_lt b a) [ inl g ↦ inl (lt-ltb b a g) | inr g ↦ inr (inl (ap negsuc (omega arith))) ]
]

-- ---- indexes

-- no more items are lower than there are
pub rank_le : (ls : List Label) (z : ℤ) → rank ls z ≤ length ls
rank_le [] z = omega arith
rank_le (l ∷ ls) z = go (int_lt l.number z) refl (rank_le ls z)
  where
    go : (b : Bool) → int_lt l.number z ≡ b → rank ls z ≤ length ls → rank (l ∷ ls) z ≤ suc (length ls)
    go true e h = omega (arith, rank_yes l ls z e)
    go false e h = omega (arith, rank_no l ls z e)

-- below a higher number there are as many items or more
pub rank_rises : (ls : List Label) (y z : ℤ) → int_lt y z ≡ true → rank ls y ≤ rank ls z
rank_rises [] y z h = omega arith
rank_rises (l ∷ ls) y z h = go (int_lt l.number y) (int_lt l.number z) refl refl (rank_rises ls y z h)
  where
    go : (a b : Bool) → int_lt l.number y ≡ a → int_lt l.number z ≡ b → rank ls y ≤ rank ls z → rank (l ∷ ls) y ≤ rank (l ∷ ls) z
    go true true p q n = omega (arith, rank_yes l ls y p, rank_yes l ls z q)
    go true false p q n = absurd (true≢false (sym (lt_also l.number y z p h) ∙ q))
    go false true p q n = omega (arith, rank_no l ls y p, rank_yes l ls z q)
    go false false p q n = omega (arith, rank_no l ls y p, rank_no l ls z q)

-- an item has a lower index than a higher number
pub rank_below : (ls : List Label) (p : ℕ) (z : ℤ) → p < length ls → int_lt (number_at ls p) z ≡ true → rank ls (number_at ls p) < rank ls z
rank_below [] p z h l = absurd (omega arith)
rank_below (k ∷ ls) zero z h l =
    omega (arith, rank_no k ls k.number (lt_not_self k.number), rank_yes k ls z l, rank_rises ls k.number z l)
rank_below (k ∷ ls) (suc p) z h l = go (int_lt k.number (number_at ls p)) (int_lt k.number z) refl refl (rank_below ls p z (omega arith) l)
  where
    go : (a b : Bool) → int_lt k.number (number_at ls p) ≡ a → int_lt k.number z ≡ b → rank ls (number_at ls p) < rank ls z → rank (k ∷ ls) (number_at ls p) < rank (k ∷ ls) z
    go true true x y n = omega (arith, rank_yes k ls (number_at ls p) x, rank_yes k ls z y)
    go true false x y n = absurd (true≢false (sym (lt_also k.number (number_at ls p) z x l) ∙ y))
    go false true x y n = omega (arith, rank_no k ls (number_at ls p) x, rank_yes k ls z y)
    go false false x y n = omega (arith, rank_no k ls (number_at ls p) x, rank_no k ls z y)

-- its index is below the count of items
pub rank_inside : (ls : List Label) (p : ℕ) → p < length ls → rank ls (number_at ls p) < length ls
rank_inside [] p h = absurd (omega arith)
rank_inside (k ∷ ls) zero h = omega (arith, rank_no k ls k.number (lt_not_self k.number), rank_le ls k.number)
rank_inside (k ∷ ls) (suc p) h = go (int_lt k.number (number_at ls p)) refl (rank_inside ls p (omega arith))
  where
    go : (a : Bool) → int_lt k.number (number_at ls p) ≡ a → rank ls (number_at ls p) < length ls → rank (k ∷ ls) (number_at ls p) < suc (length ls)
    go true x n = omega (arith, rank_yes k ls (number_at ls p) x)
    go false x n = omega (arith, rank_no k ls (number_at ls p) x)

-- items of distinct numbers have distinct indexes
pub rank_once : (ls : List Label) (p q : ℕ) → has_twice int_eq (numbers ls) ≡ false → p < length ls → q < length ls → rank ls (number_at ls p) ≡ rank ls (number_at ls q) → p ≡ q
rank_once ls p q d hp hq e =
    elim (compare (number_at ls p) (number_at ls q)) [
      | inl h ↦ absurd (omega (arith, rank_below ls p (number_at ls q) hp h))
      | inr (inl h) ↦ one_place ls p q d hp hq h
      | inr (inr h) ↦ absurd (omega (arith, rank_below ls q (number_at ls p) hq h))
    ]

-- the items of an ENUMERATED are told by their bits
pub enumeration_code : (root : List Label) (more : MoreLabels) → has_twice int_eq (numbers root) ≡ false
    → IsCode (λ p. p < length root + length (more_labels more)) (enumeration root more)
enumeration_code root more d p q r s hp hq e =
    marked_code (λ p. p < length root) (λ p. length root ≤ p) (λ p. constrained (length root) (rank root (number_at root p))) (λ p. small (p - length root))
    (λ p. nat_lt p (length root)) (has_more_labels more)
    (λ p q r s hp hq e. (let w = digits_code 2 (omega arith) (width (length root)) (rank root (number_at root p)) (rank root (number_at root q)) r s
    (width_fits (length root) _ (rank_inside root p hp)) (width_fits (length root) _ (rank_inside root q hq)) e in (rank_once root p q d hp hq w.0, w.1)))
    (λ p q r s hp hq e. (let w = small_code (p - length root) (q - length root) r s e in let f : p - length root ≡ q - length root = w.0 in (omega arith, w.1)))
    p q r s (inside p hp) (inside q hq) (λ h. ltb-false p (length root) h.1) (λ h. ltb-false q (length root) h.1) e
  where
    none : (m : MoreLabels) → has_more_labels m ≡ false → length (more_labels m) ≡ 0
    none closed_labels h = refl
    none (marked_labels ls) h = absurd (true≢false h)

    inside : (p : ℕ) → p < length root + length (more_labels more) → (has_more_labels more ≡ false) ⊎ (nat_lt p (length root) ≡ true) → p < length root
    inside p h (inl e) = omega (arith, none more e)
    inside p h (inr e) = ltb-true p (length root) e
