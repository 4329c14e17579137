-- Where JSON is not of the shape of a type: the paths of all errors, a node before its parts, and each part with all
-- in it before the next.
use Rattle.std.specs.Prelude.{◌≡◌, ◌-◌, ℕ, zero, suc, List, [], ◌++◌, Option, Some, None, nat_lt, if◌then◌else◌, bytes_eq, string_bytes, slice_get, codes, ⊤}
use Rattle.std.specs.List.{list_any}
use Rattle.serde_json.specs.Data.{Data, Items, no_items, item, Members, no_members, member}
use Rattle.serde_json.specs.Find.{as_array, as_object, get_member}
use Rattle.asn_values.specs.Datum.{Datum}
use Rattle.asn_values.specs.Shape.{Shape, boolean, null, integer, enumerated, bit_string, octet_string, restricted, utf8_string, sequence, sequence_of, choice, Demand, must, optional, default, Fields, no_fields, field, MoreFields, closed, marked, Alternatives, no_alternatives, one_of, MoreAlternatives, closed_choice, marked_choice, count}
use Rattle.asn_values.specs.Fits.{Limits, limits, Fits}
use Rattle.asn_json.specs.declared.fault.JsonFault.{JsonFault}
use Rattle.asn_json.specs.declared.fault.JsonFault.TheVariants as fault
use Rattle.asn_view.specs.Names.{index_of}
use Rattle.asn_json.specs.Paths.{here, to_member, to_element, below}
use Rattle.asn_json.specs.Written.{item_names}
use Rattle.asn_json.specs.Shown.{only_member, truth_in, nothing_in, number_in_under, item_in, bits_in, octets_in, characters_in, unicode_in, choice_names, component_names, value_of_under}

-- one, at the node itself, where no value is read
abbrev pub unless_read : Option Datum → List (List ℕ)
unless_read None = here
unless_read (Some d) = []

-- those of a part, where the node has the shape that has it; else one, at the node itself
abbrev pub errors_within : {A : Type 0} → (A → List (List ℕ)) → Option A → List (List ℕ)
errors_within f None = here
errors_within f (Some part) = f part

-- one, at the object itself, for each key that is none of the names
abbrev pub unknown_errors : List (List ℕ) → Members → List (List ℕ)
unknown_errors names no_members = []
unknown_errors names (member k d ms) = (if list_any (bytes_eq k) names then [] else here) ++ unknown_errors names ms

-- those of the elements, the first of which has this index
abbrev pub element_errors : (Data → List (List ℕ)) → ℕ → Items → List (List ℕ)
element_errors f i no_items = []
element_errors f i (item d ds) = below (to_element i) (f d) ++ element_errors f (suc i) ds

-- those of a component: of the value at its name, or a missing key, which is told at the object itself
abbrev pub entry_errors : List ℕ → Demand → (Data → List (List ℕ)) → Option Data → List (List ℕ)
entry_errors name demand f (Some j) = below (to_member name) (f j)
entry_errors name must f None = here
entry_errors name optional f None = []
entry_errors name (default d) f None = []

-- those of the one member of an object for a CHOICE: of the value, where the key is the name of an alternative
abbrev pub errors_of_member : (ℕ → Data → List (List ℕ)) → List (List ℕ) → List ℕ × Data → List (List ℕ)
errors_of_member f names m = errors_within (λ p. below (to_member m.0) (f p m.1)) (index_of m.0 names)

abbrev pub member_errors : (ℕ → Data → List (List ℕ)) → List (List ℕ) → Option (List ℕ × Data) → List (List ℕ)
member_errors f names found = errors_within (λ m. errors_of_member f names m) found

abbrev mutual
  pub errors_under : Limits → Shape → Data → List (List ℕ)
  errors_under l boolean j = unless_read (truth_in j)
  errors_under l null j = unless_read (nothing_in j)
  errors_under l (integer b) j = unless_read (number_in_under l j)
  errors_under l (enumerated root more) j = unless_read (item_in (item_names root more) j)
  errors_under l (bit_string s) j = unless_read (bits_in j)
  errors_under l (octet_string s) j = unless_read (octets_in j)
  errors_under l (restricted k s) j = unless_read (characters_in j)
  errors_under l utf8_string j = unless_read (unicode_in j)
  errors_under l (sequence root more) j =
      errors_within (λ ms.
      field_errors_under l root ms
      ++ (added_errors_under l more ms ++ unknown_errors (component_names root more) ms)) (as_object j)
  errors_under l (sequence_of t s) j = errors_within (λ ds. element_errors (λ e. errors_under l t e) 0 ds) (as_array j)
  errors_under l (choice root more) j =
      member_errors (λ p e.
      if nat_lt p (count root) then errors_at_under l root p e else added_errors_at_under l more (p - count root) e)
      (choice_names root more) (only_member j)

  -- those of the components, in their order
  pub field_errors_under : Limits → Fields → Members → List (List ℕ)
  field_errors_under l no_fields ms = []
  field_errors_under l (field name demand t fs) ms =
      entry_errors name demand (λ j. errors_under l t j) (get_member name ms) ++ field_errors_under l fs ms

  pub added_errors_under : Limits → MoreFields → Members → List (List ℕ)
  added_errors_under l closed ms = []
  added_errors_under l (marked fs) ms = field_errors_under l fs ms

  -- those of a value of the alternative at this index
  pub errors_at_under : Limits → Alternatives → ℕ → Data → List (List ℕ)
  errors_at_under l no_alternatives p j = here
  errors_at_under l (one_of name t alts) zero j = errors_under l t j
  errors_at_under l (one_of name t alts) (suc p) j = errors_at_under l alts p j

  pub added_errors_at_under : Limits → MoreAlternatives → ℕ → Data → List (List ℕ)
  added_errors_at_under l closed_choice p j = here
  added_errors_at_under l (marked_choice alts) p j = errors_at_under l alts p j

abbrev pub errors : Shape → Data → List (List ℕ)
errors = errors_under limits

abbrev pub field_errors : Fields → Members → List (List ℕ)
field_errors = field_errors_under limits

abbrev pub added_errors : MoreFields → Members → List (List ℕ)
added_errors = added_errors_under limits

abbrev pub errors_at : Alternatives → ℕ → Data → List (List ℕ)
errors_at = errors_at_under limits

abbrev pub added_errors_at : MoreAlternatives → ℕ → Data → List (List ℕ)
added_errors_at = added_errors_at_under limits

-- the paths of all errors, from the whole value on
abbrev pub bad_under : Limits → Shape → Data → List (List ℕ)
bad_under l t j = below (codes "$") (errors_under l t j)

abbrev pub bad : Shape → Data → List (List ℕ)
bad = bad_under limits

-- the JSON is of the type's shape, and shows v
pub record ShownUnder (l : Limits) (t : Shape) (j : Data) (v : Datum) : Type 0 where
  pub no_errors : bad_under l t j ≡ []
  pub is : v ≡ value_of_under l t j

abbrev pub Shown : Shape → Data → Datum → Type 0
Shown = ShownUnder limits

-- what a fault of reading tells: the first error, or that there is none and the JSON shows no value of the type
abbrev pub Refused : Shape → Data → JsonFault → Type 0
Refused t j (fault.Shape path) = slice_get (bad t j) 0 ≡ Some (string_bytes path)
Refused t j fault.NotOfType = (bad t j ≡ []) × ((v : Datum) → Shown t j v → ¬ Fits t v)
Refused t j fault.Memory = ⊤
