-- Sets of numbers that are put together.
use Rattle.std.proofs.Common.{◌≡◌, ℤ, List, [], ◌∷◌, ◌++◌, ◌⊎◌, ◌↔◌, inl, inr, subst, sym}
use Rattle.asn_published_types.specs.declared.ranges.Range.{Range}
use Rattle.asn_published_types.specs.Numbers.{InRange, InSet}

in_either : (xs ys : List Range) (z : ℤ) → InSet (xs ++ ys) z → InSet xs z ⊎ InSet ys z
in_either [] ys z h = inr h
in_either (x ∷ xs) ys z h =
    elim h as (λ v. InSet (x ∷ xs) z ⊎ InSet ys z) [
      | inl a ↦ inl (inl a)
      | inr b ↦ elim (in_either xs ys z b) as (λ v. InSet (x ∷ xs) z ⊎ InSet ys z) [ inl p ↦ inl (inr p) | inr q ↦ inr q ]
    ]

in_both : (xs ys : List Range) (z : ℤ) → InSet xs z ⊎ InSet ys z → InSet (xs ++ ys) z
in_both [] ys z h = elim h as (λ v. InSet ys z) [ inl a ↦ absurd a | inr b ↦ b ]
in_both (x ∷ xs) ys z h =
    elim h as (λ v. InSet ((x ∷ xs) ++ ys) z) [
      | inl a ↦ elim a as (λ v. InSet ((x ∷ xs) ++ ys) z) [ inl p ↦ inl p | inr q ↦ inr (in_both xs ys z (inl q)) ]
      | inr b ↦ inr (in_both xs ys z (inr b))
    ]

-- the ranges of two sets, one after the other, have the numbers of either
pub join_set : (old new other : List Range) → new ≡ old ++ other → (z : ℤ) → InSet new z ↔ (InSet old z ⊎ InSet other z)
join_set old new other e z =
    (λ h. in_either old other z (subst (λ s. InSet s z) e h), λ h. subst (λ s. InSet s z) (sym e) (in_both old other z h))

only : (r : Range) (z : ℤ) → InSet (r ∷ []) z → InRange r z
only r z h = elim h as (λ v. InRange r z) [ inl a ↦ a | inr b ↦ absurd b ]

-- a further range adds its numbers
pub push_set : (old new : List Range) (r : Range) → new ≡ old ++ r ∷ [] → (z : ℤ) → InSet new z ↔ (InSet old z ⊎ InRange r z)
push_set old new r e z = (
  λ h. elim (in_either old (r ∷ []) z (subst (λ s. InSet s z) e h)) as (λ v. InSet old z ⊎ InRange r z)
      [ inl a ↦ inl a | inr b ↦ inr (only r z b) ],
  λ h. subst (λ s. InSet s z) (sym e) (in_both old (r ∷ []) z
      (elim h as (λ v. InSet old z ⊎ InSet (r ∷ []) z) [ inl a ↦ inl a | inr b ↦ inr (inl b) ])),
)
