use Rattle.std.proofs.Common.{drop, length, map}
use Rattle.asn_values.specs.View.{shape_of}
use Rattle.serde_json.specs.View.{view, members_view}
use Rattle.asn_json.proofs.WrittenParts.{Left, Listed}
use Rattle.asn_json.proofs.write.+json.Given as goal

-- what is told of the components and entries that are left, and the members so far, is told of all
abbrev pub invariant-with_members-loop-field : goal.invariant-with_members-loop-field
invariant-with_members-loop-field g l =
    Left l.fields (drop l.field-index l.fields) (g.V.Source.entries_left l.fn.entries) (g.V.Source.entries_left l.left) (members_view l.fn.object.entries) (members_view l.all.entries)

-- and of the elements that are left, with the JSON of those before
abbrev pub invariant-elements_json-loop-value : goal.invariant-elements_json-loop-value
invariant-elements_json-loop-value g l = Listed (shape_of l.element) (g.V.Source.elements_left l.fn.elements) (g.V.Source.elements_left l.left) (map view l.all.items)

abbrev pub decreases-elements_json-loop-value : goal.decreases-elements_json-loop-value
decreases-elements_json-loop-value g l = length (g.V.Source.elements_left l.left)
