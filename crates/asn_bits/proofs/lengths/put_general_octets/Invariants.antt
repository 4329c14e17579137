use Rattle.std.proofs.Common.{◌+◌, ◌*◌, ◌/◌, ◌<◌, ◌≤◌, ◌++◌, length}
use Rattle.std.specs.Prelude.{vec_len, vec_capacity}
use Rattle.asn_bits.specs.Numbers.{bits, unpacked}
use Rattle.asn_bits.proofs.FragmentedOctets.{Pushed}
use Rattle.asn_bits.proofs.lengths.put_general_octets.Given as goal

abbrev pub invariant-loop-rest : goal.invariant-loop-rest
invariant-loop-rest l =
    Pushed (unpacked l.initial.into.items ++ bits l.count l.pending) (unpacked l.into.items ++ bits l.waiting.0 l.waiting.1) l.octets l.rest
    × (l.waiting.0 < 64) × (vec_len l.into + length l.rest + length l.rest / 16384 * 16 + 24 ≤ vec_capacity l.into)

abbrev pub decreases-loop-rest : goal.decreases-loop-rest
decreases-loop-rest l = length l.rest
