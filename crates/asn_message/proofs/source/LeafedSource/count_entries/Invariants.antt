use Rattle.std.proofs.Common.{◌≡◌, ◌+◌, length}
use Rattle.asn_message.specs.Sources.{slot_entries}
use Rattle.asn_message.proofs.source.LeafedSource.count_entries.Given as goal

-- those counted so far, and those that are left
abbrev pub invariant-loop-left : goal.invariant-loop-left
invariant-loop-left l = l.count + length (slot_entries l.left) ≡ length (slot_entries l.fn.entries)

abbrev pub decreases-loop-left : goal.decreases-loop-left
decreases-loop-left l = length (slot_entries l.left)
