use Rattle.asn_values.specs.View.{fields_seen, entries_seen}
use Rattle.std.proofs.Common.{◌≡◌, ◌++◌, length, take, drop}
use Rattle.asn_walk.specs.Coding.{absent_entries}
use Rattle.asn_walk_into.proofs.entries.clear_entries.Given as goal

abbrev pub invariant-loop-field : goal.invariant-loop-field
invariant-loop-field l =
    (entries_seen (take l.at l.entries) ++ absent_entries (fields_seen (drop l.field-index l.additions)) ≡ absent_entries (fields_seen l.additions))
    × (l.at ≡ l.field-index) × (length l.entries ≡ length l.additions)
