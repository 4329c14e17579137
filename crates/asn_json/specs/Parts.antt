-- What the readers and writers of parts say, of components, elements, alternatives and JSON as the program holds them.
use Rattle.std.specs.Prelude.{ℕ, List, map, Option, option_map, Result, IfErr, String}
use Rattle.std.specs.Global.{Global, Vec}
use Rattle.serde_json.specs.Data.{Data, Members}
use Rattle.serde_json.specs.Find.{get_member}
use Rattle.serde_json.specs.View.{view, items_view, members_view}
use Rattle.serde_json.specs.declared.value.Value.{Value as Json}
use Rattle.asn_values.specs.Datum.{Datum}
use Rattle.asn_values.specs.declared.types.Alt.{Alt}
use Rattle.asn_values.specs.declared.types.AsnType.{AsnType}
use Rattle.asn_values.specs.declared.types.Field.{Field}
use Rattle.asn_values.specs.declared.types.Item.{Item}
use Rattle.asn_values.specs.declared.value.Value.{Value}
use Rattle.asn_values.specs.View.{Part, shape_of, datum_of, labels_seen, more_labels_of, fields_seen, more_fields_of, alternatives_seen, entries_seen}
use Rattle.asn_json.specs.declared.fault.JsonFault.{JsonFault}
use Rattle.asn_json.specs.Errors.{errors, field_errors, element_errors, errors_at, unknown_errors}
use Rattle.asn_json.specs.Paths.{below}
use Rattle.asn_json.specs.Readers.{TellsFirst, ShowsAfter, ShowsEntry, errors_of_entry, ShowsElements}
use Rattle.asn_json.specs.Shown.{component_names}
use Rattle.asn_json.specs.Written.{item_names, json_of, with_member}

-- the members of an object
abbrev pub Object : Type 0
Object = List (String Global × Json)

-- the names of the items of an ENUMERATED, root and then additions
abbrev pub names_of_items : List Item → Option (Vec Item) → List (List ℕ)
names_of_items root more = item_names (labels_seen root) (more_labels_of more)

-- ---- read

-- the object has no error of shape in these components, and their entries stand after those given
abbrev pub ShowsComponents : List Field → Object → List (Option Value) → List (Option Value) → Type 0
ShowsComponents fs o given es = ShowsAfter (fields_seen fs) (members_view o) (entries_seen given) (entries_seen es)

abbrev pub component_errors : List Field → Object → List (List ℕ)
component_errors fs o = field_errors (fields_seen fs) (members_view o)

-- what an object has at the name of a component
abbrev pub found_in : Object → Part → Option Data
found_in o p = get_member p.name (members_view o)

-- the entry of one component
abbrev pub ShowsComponent : Part → Object → Option Value → Type 0
ShowsComponent p o e = ShowsEntry p (found_in o p) (option_map datum_of e)

abbrev pub errors_of_component : Part → Object → List (List ℕ)
errors_of_component p o = errors_of_entry p (found_in o p)

-- the errors of the keys of an object for a SEQUENCE of these components
abbrev pub key_errors : List Field → Option (Vec Field) → Object → List (List ℕ)
key_errors root more o = unknown_errors (component_names (fields_seen root) (more_fields_of more)) (members_view o)

-- the array has no error of shape, and these are the values of its elements
abbrev pub ShowsArray : AsnType → List Json → List Value → Type 0
ShowsArray element items vs = ShowsElements (shape_of element) (items_view items) (map datum_of vs)

abbrev pub array_errors : AsnType → List Json → List (List ℕ)
array_errors element items = element_errors (λ e. errors (shape_of element) e) 0 (items_view items)

-- the errors of a value of the alternative at an index
abbrev pub alternative_errors : List Alt → ℕ → Json → List (List ℕ)
alternative_errors alts p json = errors_at (alternatives_seen alts) p (view json)

-- whatever paths the part's fault tells the first of, this fault tells the first of them below the step
abbrev pub TellsBelow : List ℕ → Result Value JsonFault → JsonFault → Type 0
TellsBelow step r f = (paths : List (List ℕ)) → IfErr r (λ g. TellsFirst paths g) → TellsFirst (below step paths) f

-- ---- written

-- and with that of one component
abbrev pub with_entry : Part → Option Datum → Object → Members
with_entry p e o = with_member p.name (λ d. json_of p.shape d) e (members_view o)
