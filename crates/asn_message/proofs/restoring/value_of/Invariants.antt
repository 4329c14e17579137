use Rattle.std.proofs.Common.{◌≡◌, ◌-◌, [], drop}
use Rattle.asn_values.specs.View.{entries_seen}
use Rattle.asn_message.specs.Slots.{entries_in}
use Rattle.asn_message.proofs.restoring.value_of.Given as goal

abbrev pub invariant-loop-i : goal.invariant-loop-i
invariant-loop-i l = entries_seen l.left.items ≡ entries_in l.octets (drop (l.count - l.i) l.others) []
