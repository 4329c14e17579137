use Rattle.std.proofs.Common.{◌≡◌, ◌++◌, map, drop}
use Rattle.asn_bits.specs.Numbers.{unpacked}
use Rattle.asn_bits.specs.Sink.{bit_of}
use Rattle.asn_rules.proofs.bit_vectors.push_octets.Given as goal

abbrev pub invariant-loop-octet : goal.invariant-loop-octet
invariant-loop-octet l = map bit_of l.into.items ++ unpacked (drop l.octet-index l.octets) ≡ map bit_of l.fn.into.items ++ unpacked l.octets
