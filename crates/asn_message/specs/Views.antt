-- What the parts of a message stand for, beside their types.
use Rattle.std.specs.Prelude.{ℕ, List, ◌++◌, map, Option}
use Rattle.std.specs.Option.{option_map}
use Rattle.std.specs.Borrow.{Bor}
use Rattle.asn_values.specs.declared.types.Field.{Field}
use Rattle.asn_values.specs.View.{shape_of}
use Rattle.asn_view.specs.Seen.{parts_seen}
use Rattle.asn_view.specs.Typed.{Typed, typed, Named, values_of_parts}
use Rattle.asn_message.specs.declared.parts.ComponentViews.{ComponentViews}
use Rattle.asn_message.specs.declared.parts.ElementViews.{ElementViews}
use Rattle.asn_message.specs.declared.view.MessageView.{MessageView}
use Rattle.asn_message.specs.Places.{place_value, entries_of_left, values_of_left}

-- a part beside its type
abbrev pub seen : MessageView → Typed
seen v = typed (shape_of v.ty.now) (place_value v.place)

-- a name, and the value that stands at it, if one does
abbrev pub seen_component : Bor (List ℕ) × Option MessageView → Named
seen_component c = (c.0.now, option_map seen c.1)

-- the name of the chosen alternative, and its value
abbrev pub seen_chosen : Bor (List ℕ) × MessageView → List ℕ × Typed
seen_chosen c = (c.0.now, seen c.1)

-- the components that are left, without and with their values
abbrev pub left_fields : ComponentViews → List Field
left_fields c = c.root.now ++ c.additions.now

abbrev pub left_components : ComponentViews → List Named
left_components c = values_of_parts (parts_seen (left_fields c)) (entries_of_left c.entries)

-- the elements that are left
abbrev pub left_elements : ElementViews → List Typed
left_elements e = map (typed (shape_of e.ty.now)) (values_of_left e.values)
