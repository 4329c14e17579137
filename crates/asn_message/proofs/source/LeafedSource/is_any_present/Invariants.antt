use Rattle.std.proofs.Common.{◌≡◌, is_some, length}
use Rattle.std.specs.List.{list_any}
use Rattle.asn_message.specs.Sources.{slot_entries}
use Rattle.asn_message.proofs.source.LeafedSource.is_any_present.Given as goal

-- some entry is present where one of those that are left is
abbrev pub invariant-loop-left : goal.invariant-loop-left
invariant-loop-left l = list_any is_some (slot_entries l.left) ≡ list_any is_some (slot_entries l.fn.entries)

abbrev pub decreases-loop-left : goal.decreases-loop-left
decreases-loop-left l = length (slot_entries l.left)
