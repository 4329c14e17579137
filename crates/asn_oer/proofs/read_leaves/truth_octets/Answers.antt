use Rattle.std.proofs.Common.{inl, arith}
use Rattle.asn_bits.proofs.Unions.{set_meets}
use Rattle.asn_oer.proofs.read_leaves.truth_octets.Goals as goal

pub returns-in-Some-false-clause-some : goal.returns-in-Some-false-clause-some
returns-in-Some-false-clause-some c = rw c.one-in-Some-false.ensures (set_meets 2 8 255 (inl (omega arith, omega arith)) (omega arith))
