-- The spelling of a constraint asks no more than the constraint, and nothing of what the type has not.
use Rattle.std.proofs.Common.{◌≡◌, ◌&&◌, ◌||◌, ℕ, zero, suc, Bool, true, false, List, [], ◌∷◌, Option, Some, None, refl, sym}
use mathlib.Core.Bool.{true≢false}
use Rattle.std.specs.Cmp.{first_so, second_so}
use Rattle.std.specs.List.{list_all}
use Rattle.asn_values.specs.Datum.{Datum, components, component_list, elements, element_list, alternative}
use Rattle.asn_constraints.specs.Constraints.{Presence, any, Constraint, free, both, either, trimmed, time, except, on_components, on_elements, on_alternatives, some_present, OnComponents, other_components_free, on_component, OnAlternatives, on_alternative, entry_meets, may_be_present, is_unknown, meets, meet_each, meets_at}
use Rattle.asn_constraints.specs.Spelling.{is_of_spelling, spelling, spelling_of_components, spelling_of_alternatives}

or_left : (a b : Bool) → a ≡ true → (a || b) ≡ true
or_left a b h = rw h refl

or_right : (a b : Bool) → b ≡ true → (a || b) ≡ true
or_right true b h = refl
or_right false b h = h

and_both : (a b : Bool) → a ≡ true → b ≡ true → (a && b) ≡ true
and_both a b h k = rw (h, k) refl

or_weaker : (a b p q : Bool) → (a ≡ true → p ≡ true) → (b ≡ true → q ≡ true) → (a || b) ≡ true → (p || q) ≡ true
or_weaker true b p q f g h = or_left p q (f refl)
or_weaker false b p q f g h = or_right p q (g h)

all_weaker : (f g : Datum → Bool) → ((d : Datum) → f d ≡ true → g d ≡ true) → (ds : List Datum) → list_all f ds ≡ true → list_all g ds ≡ true
all_weaker f g w [] h = refl
all_weaker f g w (d ∷ ds) h = and_both (g d) (list_all g ds) (w d (first_so (f d) (list_all f ds) h)) (all_weaker f g w ds (second_so (f d) (list_all f ds) h))

-- a union, whether or not it stays one
union_kept : (b : Bool) (c e : Constraint) (d : Datum) → meets (either c e) d ≡ true → meets (elim b [ true ↦ either c e | false ↦ free ]) d ≡ true
union_kept true c e d h = h
union_kept false c e d h = refl

entry_weaker : (p : Presence) (f g : Datum → Bool) → ((d : Datum) → f d ≡ true → g d ≡ true) → (e : Option Datum) → entry_meets p f e ≡ true → entry_meets any g e ≡ true
entry_weaker p f g w None h = refl
entry_weaker p f g w (Some d) h = w d (second_so (may_be_present p) (f d) h)

mutual
  pub spelling_met : (c : Constraint) (d : Datum) → meets c d ≡ true → meets (spelling c) d ≡ true
  spelling_met (both c e) d h =
      and_both (meets (spelling c) d) (meets (spelling e) d) (spelling_met c d (first_so (meets c d) (meets e d) h)) (spelling_met e d (second_so (meets c d) (meets e d) h))
  spelling_met (either c e) d h =
      union_kept (is_of_spelling c && is_of_spelling e) (spelling c) (spelling e) d
      (or_weaker (meets c d) (meets e d) (meets (spelling c) d) (meets (spelling e) d) (λ k. spelling_met c d k) (λ k. spelling_met e d k) h)
  spelling_met (trimmed low) d h = or_right (is_unknown d) (meets (trimmed low) d) h
  spelling_met (time k) d h = or_right (is_unknown d) (meets (time k) d) h
  spelling_met (except e) d h = or_right (is_unknown d) (meets (except e) d) h
  spelling_met (on_components cs) (components es) h = spellings_met cs (component_list es) h
  spelling_met (on_components cs) _ h = absurd (true≢false (sym h))
  spelling_met (on_elements c) (elements es) h = all_weaker (λ d. meets c d) (λ d. meets (spelling c) d) (λ d k. spelling_met c d k) (element_list es) h
  spelling_met (on_elements c) _ h = absurd (true≢false (sym h))
  spelling_met (on_alternatives cs) (alternative i d) h = spelling_met_at cs i d h
  spelling_met (on_alternatives cs) _ h = absurd (true≢false (sym h))
  spelling_met some_present d h = or_right (is_unknown d) (meets some_present d) h
  spelling_met _ d h = refl

  spellings_met : (cs : OnComponents) (es : List (Option Datum)) → meet_each cs es ≡ true → meet_each (spelling_of_components cs) es ≡ true
  spellings_met other_components_free es h = refl
  spellings_met (on_component p c cs) [] h = absurd (true≢false (sym h))
  spellings_met (on_component p c cs) (e ∷ es) h =
      and_both (entry_meets any (λ d. meets (spelling c) d) e) (meet_each (spelling_of_components cs) es)
      (entry_weaker p (λ d. meets c d) (λ d. meets (spelling c) d) (λ d k. spelling_met c d k) e (first_so (entry_meets p (λ d. meets c d) e) (meet_each cs es) h))
      (spellings_met cs es (second_so (entry_meets p (λ d. meets c d) e) (meet_each cs es) h))

  spelling_met_at : (cs : OnAlternatives) (i : ℕ) (d : Datum) → meets_at cs i d ≡ true → meets_at (spelling_of_alternatives cs) i d ≡ true
  spelling_met_at (on_alternative c cs) zero d h = spelling_met c d h
  spelling_met_at (on_alternative c cs) (suc i) d h = spelling_met_at cs i d h
  spelling_met_at _ i d h = refl

pub unknown_met : (c : Constraint) (d : Datum) → is_unknown d ≡ true → meets (spelling c) d ≡ true
unknown_met (both c e) d h = and_both (meets (spelling c) d) (meets (spelling e) d) (unknown_met c d h) (unknown_met e d h)
unknown_met (either c e) d h =
    union_kept (is_of_spelling c && is_of_spelling e) (spelling c) (spelling e) d (or_left (meets (spelling c) d) (meets (spelling e) d) (unknown_met c d h))
unknown_met (trimmed low) d h = or_left (is_unknown d) (meets (trimmed low) d) h
unknown_met (time k) d h = or_left (is_unknown d) (meets (time k) d) h
unknown_met (except e) d h = or_left (is_unknown d) (meets (except e) d) h
unknown_met (on_components cs) d h = or_left (is_unknown d) (meets (on_components (spelling_of_components cs)) d) h
unknown_met (on_elements c) d h = or_left (is_unknown d) (meets (on_elements (spelling c)) d) h
unknown_met (on_alternatives cs) d h = or_left (is_unknown d) (meets (on_alternatives (spelling_of_alternatives cs)) d) h
unknown_met some_present d h = or_left (is_unknown d) (meets some_present d) h
unknown_met _ d h = refl
