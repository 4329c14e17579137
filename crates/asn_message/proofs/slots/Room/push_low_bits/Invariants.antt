use Rattle.std.proofs.Common.{◌≡◌, ◌++◌, ◌-◌, ◌*◌, ◌/◌, ◌^◌}
use Rattle.asn_bits.specs.Numbers.{bits}
use Rattle.asn_message.proofs.slots.Room.push_low_bits.Given as goal

abbrev pub invariant-loop-i : goal.invariant-loop-i
invariant-loop-i l =
    (l.self.slots ≡ l.fn.self.slots)
    × (l.self.absent ≡ l.fn.self.absent)
    × (l.self.octets.items ≡ l.fn.self.octets.items ++ bits (8 * l.i) (l.first / 2 ^ (64 - 8 * l.i)))
