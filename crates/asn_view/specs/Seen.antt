-- What the views of the program stand for.
use Rattle.std.specs.Prelude.{ℕ, List, ◌++◌, map, Option}
use Rattle.std.specs.Option.{option_map}
use Rattle.std.specs.Borrow.{Bor}
use Rattle.asn_values.specs.Datum.{Datum}
use Rattle.asn_values.specs.declared.types.Field.{Field}
use Rattle.asn_values.specs.declared.value.Value.{Value}
use Rattle.asn_values.specs.View.{Part, shape_of, datum_of, part_of_field, entries_seen}
use Rattle.asn_view.specs.Typed.{Typed, typed, Named, values_of_parts}
use Rattle.asn_view.specs.declared.view.View.{View}
use Rattle.asn_view.specs.declared.parts.Components.{Components}
use Rattle.asn_view.specs.declared.parts.Elements.{Elements}

-- the value that is viewed, beside its type
abbrev pub seen : View → Typed
seen v = typed (shape_of v.ty.now) (datum_of v.value.now)

-- a name, and the value that stands at it, if one does
abbrev pub seen_component : Bor (List ℕ) × Option View → Named
seen_component c = (c.0.now, option_map seen c.1)

-- the name of the chosen alternative, and its value
abbrev pub seen_chosen : Bor (List ℕ) × View → List ℕ × Typed
seen_chosen c = (c.0.now, seen c.1)

-- components as the program's list has them
abbrev pub parts_seen : List Field → List Part
parts_seen fs = map part_of_field fs

-- the value of an entry, if it is there
abbrev pub entry_seen : Option (Bor Value) → Option Datum
entry_seen e = option_map (λ v. datum_of v.now) e

-- the components that are left, without and with their values
abbrev pub left_fields : Components → List Field
left_fields c = c.root.now ++ c.additions.now

abbrev pub left_components : Components → List Named
left_components c = values_of_parts (parts_seen (left_fields c)) (entries_seen c.entries.now)

-- the elements that are left
abbrev pub left_elements : Elements → List Typed
left_elements e = map (λ v. typed (shape_of e.ty.now) (datum_of v)) e.values.now
