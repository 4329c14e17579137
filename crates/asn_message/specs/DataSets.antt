-- Two proofs that two values are one are the same proof: values are a set, since they are copied
-- into another type and back.
use Rattle.std.specs.Prelude.{◌≡◌, ◌⊎◌, ℕ, ℤ, Bool, List, [], ◌∷◌, Option, Some, None, refl}
use Rattle.std.specs.Coded.{×_prop, Unit-prop, le_prop}
use lib.IntN.{ℤ_set}
use mathlib.Core.Bool.{Bool-set}
use mathlib.Core.HLevel.{collapsible→set, prop→set}
use mathlib.Core.List.{is_set as List-set}
use mathlib.Core.Logic.{inl, inr}
use mathlib.Core.Path.{sym, ap, ap₂, ◌∙◌}
use mathlib.Core.Sum.{⊎_set}
use native.Mathlib.Nat.{ℕ_set}
use Rattle.asn_values.specs.Datum.{Datum, Components, Elements, truth, nothing, number, item, bit_list, octet_list, characters, unicode, components, elements, alternative, unknown_item, unknown_alternative, no_components, absent, present, no_elements, element}
use Rattle.asn_values.specs.declared.value.Value.{Value}
use Rattle.asn_message.specs.declared.slots.Content.{Content}
use Rattle.asn_message.specs.declared.slots.Content.TheVariants as content
use Rattle.asn_message.specs.declared.slots.Slot.{Slot}
use Rattle.asn_message.specs.Leaves.{AreLeaves}
use Rattle.asn_message.specs.Slots.{entries_in, IsCounted, AreNested}

-- one type for a value, the entries of a SEQUENCE and the elements of a SEQUENCE OF
data Copy : Type 0 where
  a_truth : Bool → Copy
  a_nothing : Copy
  a_number : ℤ → Copy
  an_item : ℕ → Copy
  bits : List Bool → Copy
  octets : List ℕ → Copy
  codes : List ℕ → Copy
  utf8 : List ℕ → Copy
  parts : Copy → Copy
  row : Copy → Copy
  chosen : ℕ → Copy → Copy
  newer_item : ℤ → Copy
  newer_alternative : ℕ → Copy
  no_more : Copy
  not_there : Copy → Copy
  there : Copy → Copy → Copy
  deriving IsSet as Copy-set

abbrev mutual
  copy : Datum → Copy
  copy (truth b) = a_truth b
  copy nothing = a_nothing
  copy (number z) = a_number z
  copy (item n) = an_item n
  copy (bit_list bs) = bits bs
  copy (octet_list os) = octets os
  copy (characters cs) = codes cs
  copy (unicode os) = utf8 os
  copy (components es) = parts (copy_entries es)
  copy (elements ds) = row (copy_elements ds)
  copy (alternative n d) = chosen n (copy d)
  copy (unknown_item z) = newer_item z
  copy (unknown_alternative n) = newer_alternative n

  copy_entries : Components → Copy
  copy_entries no_components = no_more
  copy_entries (absent es) = not_there (copy_entries es)
  copy_entries (present d es) = there (copy d) (copy_entries es)

  copy_elements : Elements → Copy
  copy_elements no_elements = no_more
  copy_elements (element d ds) = there (copy d) (copy_elements ds)

-- what it is a copy of, as a value, as entries and as elements
record Original : Type 0 where
  value : Datum
  entries : Components
  list : Elements

abbrev back : Copy → Original
back (a_truth b) = record { value = truth b; entries = no_components; list = no_elements }
back a_nothing = record { value = nothing; entries = no_components; list = no_elements }
back (a_number z) = record { value = number z; entries = no_components; list = no_elements }
back (an_item n) = record { value = item n; entries = no_components; list = no_elements }
back (bits bs) = record { value = bit_list bs; entries = no_components; list = no_elements }
back (octets os) = record { value = octet_list os; entries = no_components; list = no_elements }
back (codes cs) = record { value = characters cs; entries = no_components; list = no_elements }
back (utf8 os) = record { value = unicode os; entries = no_components; list = no_elements }
back (parts c) = record { value = components (back c).entries; entries = no_components; list = no_elements }
back (row c) = record { value = elements (back c).list; entries = no_components; list = no_elements }
back (chosen n c) = record { value = alternative n (back c).value; entries = no_components; list = no_elements }
back (newer_item z) = record { value = unknown_item z; entries = no_components; list = no_elements }
back (newer_alternative n) = record { value = unknown_alternative n; entries = no_components; list = no_elements }
back no_more = record { value = nothing; entries = no_components; list = no_elements }
back (not_there c) = record { value = nothing; entries = absent (back c).entries; list = no_elements }
back (there c d) = record { value = nothing; entries = present (back c).value (back d).entries; list = element (back c).value (back d).list }

abbrev mutual
  again : (d : Datum) → (back (copy d)).value ≡ d
  again (truth b) = refl
  again nothing = refl
  again (number z) = refl
  again (item n) = refl
  again (bit_list bs) = refl
  again (octet_list os) = refl
  again (characters cs) = refl
  again (unicode os) = refl
  again (components es) = ap components (entries_again es)
  again (elements ds) = ap elements (elements_again ds)
  again (alternative n d) = ap (alternative n) (again d)
  again (unknown_item z) = refl
  again (unknown_alternative n) = refl

  entries_again : (es : Components) → (back (copy_entries es)).entries ≡ es
  entries_again no_components = refl
  entries_again (absent es) = ap absent (entries_again es)
  entries_again (present d es) = ap₂ present (again d) (entries_again es)

  elements_again : (ds : Elements) → (back (copy_elements ds)).list ≡ ds
  elements_again no_elements = refl
  elements_again (element d ds) = ap₂ element (again d) (elements_again ds)

-- a type that is copied into a set and back is a set
retract_set : {A B : Type 0} (to : A → B) (from : B → A) → ((x : A) → from (to x) ≡ x) → IsSet B → IsSet A
retract_set to from same set = collapsible→set (λ x y p. sym (same x) ∙ ap from (ap to p) ∙ same y)
    (λ x y p q. ap (λ z. sym (same x) ∙ ap from z ∙ same y) (set (to x) (to y) (ap to p) (ap to q)))

Option-set : {T : Type 0} → IsSet T → IsSet (Option T)
Option-set {T} set = retract_set {B = T ⊎ Unit {0}} (elim [ None ↦ inr tt | Some x ↦ inl x ])
    (elim [ inl x ↦ Some x | inr _ ↦ None ]) (elim [ None ↦ refl | Some x ↦ refl ])
    (⊎_set set (prop→set Unit-prop))

pub Datum-set : IsSet Datum
Datum-set = retract_set copy (λ c. (back c).value) again
    (Copy-set Bool-set ℤ_set ℕ_set (List-set Bool-set) (List-set ℕ_set))

counted_prop : (c : Content) (es : List (Option Datum)) → IsProp (IsCounted c es)
counted_prop (content.List count) es = λ p q. ℕ_set _ _ p q
counted_prop _ es = Unit-prop

pub nested_prop : (os : List ℕ) (es : List (Option Datum)) (ss : List Slot) → IsProp (AreNested os es ss)
nested_prop os es [] = Unit-prop
nested_prop os es (s ∷ ss) =
    ×_prop le_prop
    (×_prop (λ p q. List-set (Option-set Datum-set) _ _ p q)
    (×_prop (counted_prop s.content (entries_in os ss es)) (nested_prop os es ss)))

pub leaves_prop : (os : List ℕ) (ss : List Slot) (vs : List Value) → IsProp (AreLeaves os ss vs)
leaves_prop os ss vs = λ p q. List-set Datum-set _ _ p q
