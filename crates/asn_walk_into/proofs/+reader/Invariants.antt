use Rattle.std.proofs.Common.{◌≡◌, ◌≤◌, length, map, drop, take, vec_len, ◌+◌, []}
use Rattle.asn_values.specs.View.{datum_of, part_of_field, shape_of, fields_seen, entries_seen}
use Rattle.asn_walk.specs.Ahead.{Remaining}
use Rattle.asn_walk.specs.Reading.{ValuesOf}
use Rattle.asn_walk.proofs.AdditionsRead.{AddedUpTo}
use Rattle.asn_walk.proofs.ComponentsRead.{ReadUpTo}
use Rattle.asn_walk.proofs.Listing.{Appends, FragmentsUpTo, steps_left}
use Rattle.asn_walk_into.proofs.+reader.Given as goal

abbrev pub invariant-components::read_components_into-loop-field : goal.invariant-components::read_components_into-loop-field
invariant-components::read_components_into-loop-field g l =
    ReadUpTo g.R.ReadLeaves.rules [] (map part_of_field l.fields) l.fn.presence.left l.fn.presence.bitmap (g.R.ReadLeaves.rules.to_units l.fn.units) (map part_of_field (drop l.field-index l.fields)) l.presence.left (entries_seen (take l.at l.entries)) (g.R.ReadLeaves.rules.to_units l.units)
    × (l.presence.bitmap ≡ l.fn.presence.bitmap) × (l.at ≡ l.field-index) × (length l.entries ≡ length l.fields) × g.R.ReadLeaves.rules.at_unit l.units

abbrev pub invariant-components::read_open_fields_into-loop-field : goal.invariant-components::read_open_fields_into-loop-field
invariant-components::read_open_fields_into-loop-field g l =
    AddedUpTo g.R.ReadLeaves.rules [] (fields_seen l.fields) (g.R.ReadLeaves.rules.to_units l.fn.units) l.fn.presence.left l.fn.presence.bitmap (map part_of_field (drop l.field-index l.fields)) l.presence.left (entries_seen (take l.at l.entries)) (g.R.ReadLeaves.rules.to_units l.units)
    × (l.presence.bitmap ≡ l.fn.presence.bitmap) × (l.at ≡ l.field-index) × (length l.entries ≡ length l.fields) × g.R.ReadLeaves.rules.at_unit l.units

abbrev pub invariant-reader::read_elements_into-loop-i : goal.invariant-reader::read_elements_into-loop-i
invariant-reader::read_elements_into-loop-i g l =
    Appends g.R.ReadLeaves.rules.ruling.fielding (ValuesOf g.R.ReadLeaves.rules (shape_of l.element)) l.i (map datum_of (take l.start l.fn.elements.items)) (map datum_of (take (l.start + l.i) l.elements.items)) (g.R.ReadLeaves.rules.to_units l.fn.units) (g.R.ReadLeaves.rules.to_units l.units)
    × (l.start + l.i ≤ vec_len l.elements) × g.R.ReadLeaves.rules.at_unit l.units

abbrev pub invariant-reader::read_fragments_into-loop-fragments : goal.invariant-reader::read_fragments_into-loop-fragments
invariant-reader::read_fragments_into-loop-fragments g l =
    FragmentsUpTo g.R.ReadLeaves.rules (ValuesOf g.R.ReadLeaves.rules (shape_of l.element)) (Remaining (ValuesOf g.R.ReadLeaves.rules (shape_of l.element)) (g.R.ReadLeaves.ahead l.fn.fragments)) (g.R.ReadLeaves.rules.to_units l.fn.units) [] (g.R.ReadLeaves.ahead l.fragments) (map datum_of (take l.start l.elements.items)) (g.R.ReadLeaves.rules.to_units l.units)
    × (l.start ≤ vec_len l.elements) × g.R.ReadLeaves.is_between l.fragments × g.R.ReadLeaves.rules.at_unit l.units

abbrev pub decreases-reader::read_fragments_into-loop-fragments : goal.decreases-reader::read_fragments_into-loop-fragments
decreases-reader::read_fragments_into-loop-fragments g l = steps_left (g.R.ReadLeaves.ahead l.fragments) + length (g.R.ReadLeaves.rules.to_units l.units)
