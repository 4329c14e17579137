use Rattle.std.proofs.Common.{length}
use Rattle.asn_rules.proofs.Plain.LengthReading.{InLength}
use Rattle.asn_rules.proofs.length_reader.read_length_by_bits.Given as goal

abbrev pub invariant-loop-bit : goal.invariant-loop-bit
invariant-loop-bit l = InLength l.initial.lengths l.initial.bits l.lengths l.bits

abbrev pub decreases-loop-bit : goal.decreases-loop-bit
decreases-loop-bit l = length l.bits
