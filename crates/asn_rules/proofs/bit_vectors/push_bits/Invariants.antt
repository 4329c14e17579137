use Rattle.std.proofs.Common.{◌≡◌, ◌-◌, ◌++◌, map}
use Rattle.asn_bits.specs.Numbers.{bits}
use Rattle.asn_bits.specs.Sink.{bit_of}
use Rattle.asn_rules.proofs.bit_vectors.push_bits.Given as goal

abbrev pub invariant-loop-i : goal.invariant-loop-i
invariant-loop-i l = map bit_of l.into.items ++ bits (l.count - l.i) l.number ≡ map bit_of l.fn.into.items ++ bits l.count l.number
