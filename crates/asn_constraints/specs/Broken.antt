-- Where a value breaks a constraint first: the path leads from the outside in, by the indexes of components, elements
-- and alternatives.
use Rattle.std.specs.Prelude.{◌≡◌, ◌&&◌, ℕ, zero, suc, Bool, true, false, List, [], ◌∷◌, length, Option, Some, None, slice_get, take, nat_le}
use Rattle.std.specs.List.{list_all}
use Rattle.asn_values.specs.Datum.{Datum, Components, components, component_list, Elements, elements, element_list, alternative}
use Rattle.asn_constraints.specs.declared.broken.Reason.{Reason}
use Rattle.asn_constraints.specs.declared.broken.Reason.TheVariants as reason
use Rattle.asn_constraints.specs.Constraints.{Presence, any, must_be, must_not_be, Constraint, free, barred, both, either, numbers, items, lengths, alphabet, trimmed, time, except, on_components, on_elements, on_alternatives, some_present, OnComponents, other_components_free, on_component, OnAlternatives, other_alternatives_barred, other_alternatives_free, on_alternative, entry_meets, meets}

-- the constraint on the component with an index; those after the last are free
abbrev pub presence_at : OnComponents → ℕ → Presence
presence_at other_components_free i = any
presence_at (on_component p c cs) zero = p
presence_at (on_component p c cs) (suc i) = presence_at cs i

abbrev pub component_at : OnComponents → ℕ → Constraint
component_at other_components_free i = free
component_at (on_component p c cs) zero = c
component_at (on_component p c cs) (suc i) = component_at cs i

abbrev pub count : OnComponents → ℕ
count other_components_free = 0
count (on_component p c cs) = suc (count cs)

-- the constraint on the alternative with an index
abbrev pub alternative_at : OnAlternatives → ℕ → Constraint
alternative_at other_alternatives_barred i = barred
alternative_at other_alternatives_free i = free
alternative_at (on_alternative c cs) zero = c
alternative_at (on_alternative c cs) (suc i) = alternative_at cs i

-- whether the value has the parts that the constraint is about
abbrev pub has_parts : Constraint → Datum → Bool
has_parts (on_components cs) (components es) = nat_le (count cs) (length (component_list es))
has_parts (on_components cs) d = false
has_parts (on_elements c) (elements es) = true
has_parts (on_elements c) d = false
has_parts (on_alternatives cs) (alternative i d) = true
has_parts (on_alternatives cs) d = false
has_parts c d = true

-- the reason at the value itself, of constraints that are not looked into
abbrev pub reason_of : Constraint → Option Reason
reason_of barred = Some reason.Barred
reason_of (either c e) = Some reason.Neither
reason_of (numbers is) = Some reason.Number
reason_of (items ps) = Some reason.Item
reason_of (lengths is) = Some reason.Length
reason_of (alphabet is) = Some reason.Character
reason_of (trimmed low) = Some reason.LastZeros
reason_of (time k) = Some reason.Time
reason_of (except d) = Some reason.Default
reason_of some_present = Some reason.NonePresent
reason_of _ = None

-- the first n entries are right
abbrev pub right_before : ℕ → OnComponents → List (Option Datum) → Bool
right_before zero cs es = true
right_before (suc n) (on_component p c cs) (e ∷ es) = entry_meets p (λ d. meets c d) e && right_before n cs es
right_before (suc n) cs es = true

pub data BreaksAt : Constraint → Datum → List ℕ → Reason → Type 0 where
  -- at the value itself
  itself : (c : Constraint) (d : Datum) (r : Reason) → reason_of c ≡ Some r → meets c d ≡ false → BreaksAt c d [] r
  without_parts : (c : Constraint) (d : Datum) → has_parts c d ≡ false → BreaksAt c d [] reason.Kind
  -- the first of two constraints, or the second, where the first is met
  first : (c e : Constraint) (d : Datum) (path : List ℕ) (r : Reason) → BreaksAt c d path r → BreaksAt (both c e) d path r
  second : (c e : Constraint) (d : Datum) (path : List ℕ) (r : Reason) → meets c d ≡ true → BreaksAt e d path r → BreaksAt (both c e) d path r
  -- a component is missing, must not be there, or breaks its own constraint, and those before it are right
  missing : (cs : OnComponents) (es : Components) (i : ℕ)
      → right_before i cs (component_list es) ≡ true
      → presence_at cs i ≡ must_be → slice_get (component_list es) i ≡ Some None
      → BreaksAt (on_components cs) (components es) (i ∷ []) reason.Missing
  not_absent : (cs : OnComponents) (es : Components) (i : ℕ) (d : Datum)
      → right_before i cs (component_list es) ≡ true
      → presence_at cs i ≡ must_not_be → slice_get (component_list es) i ≡ Some (Some d)
      → BreaksAt (on_components cs) (components es) (i ∷ []) reason.Present
  in_component : (cs : OnComponents) (es : Components) (i : ℕ) (d : Datum) (path : List ℕ) (r : Reason)
      → right_before i cs (component_list es) ≡ true
      → slice_get (component_list es) i ≡ Some (Some d) → BreaksAt (component_at cs i) d path r
      → BreaksAt (on_components cs) (components es) (i ∷ path) r
  -- an element breaks the constraint, and those before it meet it
  in_element : (c : Constraint) (es : Elements) (i : ℕ) (d : Datum) (path : List ℕ) (r : Reason)
      → list_all (λ x. meets c x) (take i (element_list es)) ≡ true
      → slice_get (element_list es) i ≡ Some d → BreaksAt c d path r
      → BreaksAt (on_elements c) (elements es) (i ∷ path) r
  -- an alternative must not be there, or its value breaks its own constraint
  not_allowed : (cs : OnAlternatives) (i : ℕ) (d : Datum)
      → alternative_at cs i ≡ barred → BreaksAt (on_alternatives cs) (alternative i d) (i ∷ []) reason.Alternative
  in_alternative : (cs : OnAlternatives) (i : ℕ) (d : Datum) (path : List ℕ) (r : Reason)
      → BreaksAt (alternative_at cs i) d path r → BreaksAt (on_alternatives cs) (alternative i d) (i ∷ path) r
