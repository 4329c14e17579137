use Rattle.std.proofs.Common.{◌≡◌, ◌++◌, map, take}
use Rattle.asn_message.proofs.Restored.{octet_of_bit}
use Rattle.asn_message.proofs.slots.Room.push_bits.Given as goal

abbrev pub invariant-loop-bit : goal.invariant-loop-bit
invariant-loop-bit l =
    (l.self.slots ≡ l.fn.self.slots)
    × (l.self.absent ≡ l.fn.self.absent)
    × (l.self.octets.items ≡ l.fn.self.octets.items ++ map octet_of_bit (take l.bit-index l.bits))
