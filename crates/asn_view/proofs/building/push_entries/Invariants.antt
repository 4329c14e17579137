use Rattle.std.proofs.Common.{◌≡◌, drop}
use Rattle.asn_values.specs.View.{entries_seen}
use Rattle.asn_view.specs.Built.{after, entries_given}
use Rattle.asn_view.specs.Seen.{parts_seen}
use Rattle.asn_view.proofs.building.push_entries.Given as goal

-- the entries so far, and those of the components that are left
abbrev pub invariant-loop-field : goal.invariant-loop-field
invariant-loop-field l =
    after (entries_seen l.entries.items) (entries_given (parts_seen (drop l.field-index l.fields)) l.parts)
    ≡ after (entries_seen l.initial.entries.items) (entries_given (parts_seen l.fields) l.parts)
