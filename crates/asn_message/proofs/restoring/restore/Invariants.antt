use Rattle.std.proofs.Common.{◌≡◌, ◌++◌, ◌∷◌, Some, drop}
use Rattle.asn_values.specs.View.{entries_seen}
use Rattle.asn_plan.specs.Plans.{absents}
use Rattle.asn_message.specs.Slots.{value_at, entries_inside}
use Rattle.asn_message.proofs.restoring.restore.Given as goal

abbrev pub invariant-loop-i : goal.invariant-loop-i
invariant-loop-i l =
    entries_seen l.left.items
    ≡ absents l.i ++ (Some (value_at l.octets l.slot.content (entries_seen l.fn.left.items)) ∷ drop (entries_inside l.slot.content) (entries_seen l.fn.left.items))
