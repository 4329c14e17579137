use Rattle.std.proofs.Common.{◌≡◌, map, take, drop}
use Rattle.asn_values.specs.View.{datum_of, entries_seen}
use Rattle.asn_message.specs.Slots.{values_of}
use Rattle.asn_message.proofs.restoring.take_elements.Given as goal

abbrev pub invariant-loop-i : goal.invariant-loop-i
invariant-loop-i l =
    (map datum_of l.elements.items ≡ values_of (take l.i (entries_seen l.fn.left.items)))
    × (entries_seen l.left.items ≡ drop l.i (entries_seen l.fn.left.items))
