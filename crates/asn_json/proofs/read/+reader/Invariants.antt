use Rattle.std.proofs.Common.{map, drop}
use Rattle.std.specs.Option.{option_map}
use Rattle.serde_json.specs.View.{items_view, members_view}
use Rattle.asn_values.specs.View.{shape_of, datum_of, fields_of, part_of_field}
use Rattle.asn_json.proofs.ReadParts.{ReadUpTo, ElementsUpTo}
use Rattle.asn_json.proofs.read.+reader.Given as goal

abbrev pub invariant-read_entries-loop-field : goal.invariant-read_entries-loop-field
invariant-read_entries-loop-field l =
    ReadUpTo (fields_of (map part_of_field l.fields)) (members_view l.object.entries) (map (option_map datum_of) l.fn.given.items) (fields_of (map part_of_field (drop l.field-index l.fields))) (map (option_map datum_of) l.all.items)

abbrev pub invariant-read_elements-loop-index : goal.invariant-read_elements-loop-index
invariant-read_elements-loop-index l = ElementsUpTo (shape_of l.element) (items_view l.items) l.index (items_view (drop l.index l.items)) (map datum_of l.all.items)
