use Rattle.std.proofs.Common.{◌≡◌, ◌≤◌, ◌+◌, ◌-◌, length, map, drop, vec_len, vec_capacity}
use Rattle.asn_values.specs.View.{datum_of, part_of_field, shape_of, fields_seen, entries_seen}
use Rattle.asn_rules.specs.Languages.{Row}
use Rattle.asn_walk.specs.Ahead.{Remaining}
use Rattle.asn_walk.proofs.Listing.{steps_left}
use Rattle.asn_newer.specs.Bitmaps.{bits_left}
use Rattle.asn_newer.specs.Loose.{Loose, LooseEach, LooseOpen}
use Rattle.asn_newer.specs.Reading.{skipped_at_seen}
use Rattle.asn_newer.specs.Walking.{loose_by, EntriesAfter, ItemsAfter}
use Rattle.asn_newer.proofs.Walk.Following.{EachUpTo, OpenUpTo}
use Rattle.asn_newer.proofs.Walk.ElementsRead.{RowUpTo, ListUpTo}
use Rattle.asn_newer.proofs.+newer.Given as goal

abbrev pub invariant-components::read_components-loop-index : goal.invariant-components::read_components-loop-index
invariant-components::read_components-loop-index g l =
    EachUpTo (loose_by g.R.ReadLeaves.rules g.R.OtherVersions.loose) (EntriesAfter (entries_seen l.fn.entries.items) (skipped_at_seen l.fn.skipped.items) (LooseEach (loose_by g.R.ReadLeaves.rules g.R.OtherVersions.loose) 0 (fields_seen l.fields) (bits_left l.fn.presence))) (g.R.ReadLeaves.rules.to_units l.fn.units) l.index (map part_of_field (drop l.index l.fields)) l.presence.left l.fn.presence.bitmap (entries_seen l.entries.items) (skipped_at_seen l.skipped.items) (g.R.ReadLeaves.rules.to_units l.units)
    × (l.presence.bitmap ≡ l.fn.presence.bitmap) × (vec_len l.entries ≡ vec_len l.fn.entries + l.index) × (vec_len l.fn.entries + length l.fields ≤ vec_capacity l.entries) × g.R.ReadLeaves.rules.at_unit l.units

abbrev pub invariant-components::read_open_fields-loop-index : goal.invariant-components::read_open_fields-loop-index
invariant-components::read_open_fields-loop-index g l =
    OpenUpTo (loose_by g.R.ReadLeaves.rules g.R.OtherVersions.loose) (EntriesAfter (entries_seen l.fn.entries.items) (skipped_at_seen l.fn.skipped.items) (LooseOpen (loose_by g.R.ReadLeaves.rules g.R.OtherVersions.loose) 0 (fields_seen l.fields) (bits_left l.fn.presence))) (g.R.ReadLeaves.rules.to_units l.fn.units) l.index (map part_of_field (drop l.index l.fields)) (bits_left l.presence) (entries_seen l.entries.items) (skipped_at_seen l.skipped.items) (g.R.ReadLeaves.rules.to_units l.units)
    × (l.presence.left ≤ 64) × g.R.ReadLeaves.rules.at_unit l.units

abbrev pub invariant-reader::read_elements-loop-i : goal.invariant-reader::read_elements-loop-i
invariant-reader::read_elements-loop-i g l =
    RowUpTo g.R.ReadLeaves.rules.ruling.fielding (Loose (loose_by g.R.ReadLeaves.rules g.R.OtherVersions.loose) (shape_of l.element)) (ItemsAfter (map datum_of l.fn.elements.items) (skipped_at_seen l.fn.skipped.items) (Row (Loose (loose_by g.R.ReadLeaves.rules g.R.OtherVersions.loose) (shape_of l.element)) l.count)) (g.R.ReadLeaves.rules.to_units l.fn.units) (l.count - l.i) (map datum_of l.elements.items) (skipped_at_seen l.skipped.items) (g.R.ReadLeaves.rules.to_units l.units)
    × g.R.ReadLeaves.rules.at_unit l.units

abbrev pub invariant-reader::read_fragments-loop-fragments : goal.invariant-reader::read_fragments-loop-fragments
invariant-reader::read_fragments-loop-fragments g l =
    ListUpTo g.R.ReadLeaves.rules.ruling.fielding (Loose (loose_by g.R.ReadLeaves.rules g.R.OtherVersions.loose) (shape_of l.element)) (ItemsAfter (map datum_of l.fn.elements.items) (skipped_at_seen l.fn.skipped.items) (Remaining (Loose (loose_by g.R.ReadLeaves.rules g.R.OtherVersions.loose) (shape_of l.element)) (g.R.ReadLeaves.ahead l.fn.fragments))) (g.R.ReadLeaves.rules.to_units l.fn.units) (g.R.ReadLeaves.ahead l.fragments) (map datum_of l.elements.items) (skipped_at_seen l.skipped.items) (g.R.ReadLeaves.rules.to_units l.units)
    × g.R.ReadLeaves.is_between l.fragments × g.R.ReadLeaves.rules.at_unit l.units

abbrev pub decreases-reader::read_fragments-loop-fragments : goal.decreases-reader::read_fragments-loop-fragments
decreases-reader::read_fragments-loop-fragments g l = steps_left (g.R.ReadLeaves.ahead l.fragments) + length (g.R.ReadLeaves.rules.to_units l.units)
