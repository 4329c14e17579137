use Rattle.std.proofs.Common.{◌≡◌, List, Option, [], length, map, drop, ◌+◌}
use Rattle.asn_values.specs.Datum.{Datum}
use Rattle.asn_values.specs.View.{part_of_field, shape_of, fields_seen}
use Rattle.asn_walk.specs.Ahead.{Remaining}
use Rattle.asn_walk.specs.Reading.{ValuesOf}
use Rattle.asn_walk.proofs.AdditionsRead.{AddedUpTo}
use Rattle.asn_walk.proofs.ComponentsRead.{ReadUpTo}
use Rattle.asn_walk.proofs.Listing.{Appends, FragmentsUpTo, steps_left}
use Rattle.asn_walk_check.proofs.+reader.Given as goal

abbrev pub invariant-components::read_components-loop-field : goal.invariant-components::read_components-loop-field
invariant-components::read_components-loop-field g l =
    (es : List (Option Datum))
    × ReadUpTo g.R.ReadLeaves.rules [] (map part_of_field l.fields) l.fn.presence.left l.fn.presence.bitmap (g.R.ReadLeaves.rules.to_units l.fn.units) (map part_of_field (drop l.field-index l.fields)) l.presence.left es (g.R.ReadLeaves.rules.to_units l.units)
    × (l.presence.bitmap ≡ l.fn.presence.bitmap) × g.R.ReadLeaves.rules.at_unit l.units

abbrev pub invariant-components::read_open_fields-loop-field : goal.invariant-components::read_open_fields-loop-field
invariant-components::read_open_fields-loop-field g l =
    (es : List (Option Datum))
    × AddedUpTo g.R.ReadLeaves.rules [] (fields_seen l.fields) (g.R.ReadLeaves.rules.to_units l.fn.units) l.fn.presence.left l.fn.presence.bitmap (map part_of_field (drop l.field-index l.fields)) l.presence.left es (g.R.ReadLeaves.rules.to_units l.units)
    × (l.presence.bitmap ≡ l.fn.presence.bitmap) × g.R.ReadLeaves.rules.at_unit l.units

abbrev pub invariant-reader::read_elements-loop-i : goal.invariant-reader::read_elements-loop-i
invariant-reader::read_elements-loop-i g l =
    (ds : List Datum)
    × Appends g.R.ReadLeaves.rules.ruling.fielding (ValuesOf g.R.ReadLeaves.rules (shape_of l.element)) l.i [] ds (g.R.ReadLeaves.rules.to_units l.fn.units) (g.R.ReadLeaves.rules.to_units l.units)
    × g.R.ReadLeaves.rules.at_unit l.units

abbrev pub invariant-reader::read_fragments-loop-fragments : goal.invariant-reader::read_fragments-loop-fragments
invariant-reader::read_fragments-loop-fragments g l =
    (ds : List Datum)
    × FragmentsUpTo g.R.ReadLeaves.rules (ValuesOf g.R.ReadLeaves.rules (shape_of l.element)) (Remaining (ValuesOf g.R.ReadLeaves.rules (shape_of l.element)) (g.R.ReadLeaves.ahead l.fn.fragments)) (g.R.ReadLeaves.rules.to_units l.fn.units) [] (g.R.ReadLeaves.ahead l.fragments) ds (g.R.ReadLeaves.rules.to_units l.units)
    × g.R.ReadLeaves.is_between l.fragments × g.R.ReadLeaves.rules.at_unit l.units

abbrev pub decreases-reader::read_fragments-loop-fragments : goal.decreases-reader::read_fragments-loop-fragments
decreases-reader::read_fragments-loop-fragments g l = steps_left (g.R.ReadLeaves.ahead l.fragments) + length (g.R.ReadLeaves.rules.to_units l.units)
