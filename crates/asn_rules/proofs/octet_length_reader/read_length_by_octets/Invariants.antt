use Rattle.std.proofs.Common.{length}
use Rattle.asn_rules.proofs.Octets.LengthOctets.{InLength}
use Rattle.asn_rules.proofs.octet_length_reader.read_length_by_octets.Given as goal

abbrev pub invariant-loop-octet : goal.invariant-loop-octet
invariant-loop-octet l = InLength l.fn.low l.fn.high l.fn.units l.lengths l.units

abbrev pub decreases-loop-octet : goal.decreases-loop-octet
decreases-loop-octet l = length l.units
