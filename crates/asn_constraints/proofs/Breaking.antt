-- What breaks somewhere does not meet the constraint.
use Rattle.std.proofs.Common.{◌≡◌, ◌<◌, ◌&&◌, ℕ, zero, suc, Bool, true, false, List, [], ◌∷◌, length, Option, Some, None, refl, ◌∙◌, arith, inl, inr}
use mathlib.Core.Bool.{true≢false}
use Rattle.std.specs.List.{list_all, slice_get}
use Rattle.std.proofs.Math.Bool.{and-false}
use Rattle.std.proofs.lemmas.Bool.{leb-false}
use Rattle.asn_values.specs.Datum.{Datum, Components, components, component_list, elements, element_list, alternative}
use Rattle.asn_constraints.specs.declared.broken.Reason.{Reason}
use Rattle.asn_constraints.specs.Constraints.{Constraint, on_components, on_elements, on_alternatives, OnComponents, other_components_free, on_component, OnAlternatives, other_alternatives_barred, other_alternatives_free, on_alternative, entry_meets, meets, meet_each, meets_at, may_be_present}
use Rattle.asn_constraints.specs.View.{OnOne}
use Rattle.asn_constraints.specs.Broken.{presence_at, component_at, alternative_at, count, right_before, has_parts, BreaksAt, itself, without_parts, first, second, missing, not_absent, in_component, in_element, not_allowed, in_alternative}
use Rattle.asn_constraints.specs.Finding.{BreaksEntry}

-- one false part of two
left_false : (a b : Bool) → a ≡ false → (a && b) ≡ false
left_false a b h = rw h refl

right_false : (a b : Bool) → b ≡ false → (a && b) ≡ false
right_false a b h = rw h (and-false a)

-- fewer entries than constraints
fewer : (cs : OnComponents) (es : List (Option Datum)) → length es < count cs → meet_each cs es ≡ false
fewer other_components_free es h = absurd (omega arith)
fewer (on_component p c cs) [] h = refl
fewer (on_component p c cs) (e ∷ es) h = right_false (entry_meets p (λ d. meets c d) e) (meet_each cs es) (fewer cs es (omega arith))

-- an entry that is not right
entry_fails :
    (cs : OnComponents) (es : List (Option Datum)) (i : ℕ) (e : Option Datum) → slice_get es i ≡ Some e →
    entry_meets (presence_at cs i) (λ d. meets (component_at cs i) d) e ≡ false → meet_each cs es ≡ false
entry_fails other_components_free es i None h k = absurd (true≢false k)
entry_fails other_components_free es i (Some d) h k = absurd (true≢false k)
entry_fails (on_component p c cs) [] i e h k = refl
entry_fails (on_component p c cs) (x ∷ es) zero e h k =
    let same : x ≡ e = cc in
    left_false (entry_meets p (λ d. meets c d) x) (meet_each cs es) (rw same k)
entry_fails (on_component p c cs) (x ∷ es) (suc i) e h k =
    right_false (entry_meets p (λ d. meets c d) x) (meet_each cs es) (entry_fails cs es i e h k)

-- an element that does not meet the constraint
element_fails : (c : Constraint) (es : List Datum) (i : ℕ) (d : Datum) → slice_get es i ≡ Some d → meets c d ≡ false → list_all (λ x. meets c x) es ≡ false
element_fails c [] i d h k = absurd (none_is_some d h) where
  none_is_some : (d : Datum) → None ≡ Some d → ⊥
  none_is_some d h = cc
element_fails c (x ∷ es) zero d h k =
    let same : x ≡ d = cc in
    left_false (meets c x) (list_all (λ y. meets c y) es) (rw same k)
element_fails c (x ∷ es) (suc i) d h k = right_false (meets c x) (list_all (λ y. meets c y) es) (element_fails c es i d h k)

-- the value of an alternative is judged by its constraint
pub alternative_judged : (cs : OnAlternatives) (i : ℕ) (d : Datum) → meets_at cs i d ≡ meets (alternative_at cs i) d
alternative_judged other_alternatives_barred i d = refl
alternative_judged other_alternatives_free i d = refl
alternative_judged (on_alternative c cs) zero d = refl
alternative_judged (on_alternative c cs) (suc i) d = alternative_judged cs i d

-- a value of another kind
kind_fails : (c : Constraint) (d : Datum) → has_parts c d ≡ false → meets c d ≡ false
kind_fails (on_components cs) (components es) h = fewer cs (component_list es) (leb-false (count cs) (length (component_list es)) h)
kind_fails (on_components cs) _ h = refl
kind_fails (on_elements c) (elements es) h = absurd (true≢false h)
kind_fails (on_elements c) _ h = refl
kind_fails (on_alternatives cs) (alternative i d) h = absurd (true≢false h)
kind_fails (on_alternatives cs) _ h = refl
kind_fails _ d h = absurd (true≢false h)

pub broken_not_met : (c : Constraint) (d : Datum) (path : List ℕ) (r : Reason) → BreaksAt c d path r → meets c d ≡ false
broken_not_met _ _ _ _ (itself c d r e h) = h
broken_not_met _ _ _ _ (without_parts c d h) = kind_fails c d h
broken_not_met _ _ _ _ (first c e d path r h) = left_false (meets c d) (meets e d) (broken_not_met c d path r h)
broken_not_met _ _ _ _ (second c e d path r met h) = right_false (meets c d) (meets e d) (broken_not_met e d path r h)
broken_not_met _ _ _ _ (missing cs es i before p h) = entry_fails cs (component_list es) i None h (rw p refl)
broken_not_met _ _ _ _ (not_absent cs es i d before p h) = entry_fails cs (component_list es) i (Some d) h (rw p refl)
broken_not_met _ _ _ _ (in_component cs es i d path r before h k) =
    entry_fails cs (component_list es) i (Some d) h (right_false (may_be_present (presence_at cs i)) (meets (component_at cs i) d) (broken_not_met (component_at cs i) d path r k))
broken_not_met _ _ _ _ (in_element c es i d path r before h k) = element_fails c (element_list es) i d h (broken_not_met c d path r k)
broken_not_met _ _ _ _ (not_allowed cs i d h) = alternative_judged cs i d ∙ rw h refl
broken_not_met _ _ _ _ (in_alternative cs i d path r k) = alternative_judged cs i d ∙ broken_not_met (alternative_at cs i) d path r k

-- an entry that breaks its constraint
pub in_entry :
    (cs : OnComponents) (es : Components) (i : ℕ) (o : OnOne) (e : Option Datum) (path : List ℕ) (r : Reason) →
    presence_at cs i ≡ o.presence → component_at cs i ≡ o.constraint → slice_get (component_list es) i ≡ Some e →
    right_before i cs (component_list es) ≡ true → BreaksEntry o e path r → BreaksAt (on_components cs) (components es) (i ∷ path) r
in_entry cs es i o None path r ep ec ee before h = rw (h.1, h.2) (missing cs es i before (ep ∙ h.0) ee)
in_entry cs es i o (Some d) path r ep ec ee before (inl h) = rw (h.1, h.2) (not_absent cs es i d before (ep ∙ h.0) ee)
in_entry cs es i o (Some d) path r ep ec ee before (inr h) = in_component cs es i d path r before ee (rw ec h)
