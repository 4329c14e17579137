use Rattle.std.proofs.Common.{◌≡◌, ◌++◌, take, drop}
use Rattle.asn_values.specs.View.{entries_seen}
use Rattle.asn_plan.specs.Plans.{absents}
use Rattle.asn_message.proofs.restoring.take_entries.Given as goal

abbrev pub invariant-loop-i : goal.invariant-loop-i
invariant-loop-i l =
    (entries_seen l.entries.items ≡ take l.i (entries_seen l.fn.left.items))
    × (entries_seen l.left.items ≡ drop l.i (entries_seen l.fn.left.items))

abbrev pub invariant-loop-i-2 : goal.invariant-loop-i-2
invariant-loop-i-2 l =
    (entries_seen l.entries.items ≡ take l.fn.taken (entries_seen l.fn.left.items) ++ absents l.i)
    × (entries_seen l.left.items ≡ drop l.fn.taken (entries_seen l.fn.left.items))
