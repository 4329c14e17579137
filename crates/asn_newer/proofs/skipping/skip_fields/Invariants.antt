use Rattle.std.proofs.Common.{◌≡◌, ◌≤◌, ◌+◌}
use Rattle.asn_newer.specs.Bitmaps.{bits_left}
use Rattle.asn_newer.specs.Loose.{AllUnknown}
use Rattle.asn_newer.specs.Reading.{skipped_at_seen}
use Rattle.asn_newer.specs.Walking.{FieldsAfter}
use Rattle.asn_newer.proofs.Walk.Following.{SkippedUpTo}
use Rattle.asn_newer.proofs.skipping.skip_fields.Given as goal

abbrev pub invariant-loop-next : goal.invariant-loop-next
invariant-loop-next g l =
    SkippedUpTo g.R.ReadLeaves.rules (FieldsAfter (skipped_at_seen l.fn.skipped.items) (AllUnknown g.R.ReadLeaves.rules l.fn.place (bits_left l.fn.presence))) (g.R.ReadLeaves.rules.to_units l.fn.units) l.next (bits_left l.presence) (skipped_at_seen l.skipped.items) (g.R.ReadLeaves.rules.to_units l.units)
    × (l.presence.left + l.next ≡ l.place + l.fn.presence.left) × (l.presence.left ≤ 64) × g.R.ReadLeaves.rules.at_unit l.units
