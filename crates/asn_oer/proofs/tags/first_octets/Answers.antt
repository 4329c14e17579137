use Rattle.std.proofs.Common.{inl, arith}
use Rattle.asn_bits.proofs.Unions.{set_meets}
use Rattle.asn_oer.proofs.tags.first_octets.Goals as goal

pub returns-then-count-le128-clause-some : goal.returns-then-count-le128-clause-some
returns-then-count-le128-clause-some c =
    rw c.one-to_127.ensures (set_meets 2 8 63 (inl (omega arith, omega (arith, c.min.ensures, c.requires.some))) (omega arith))

pub returns-clause-some : goal.returns-clause-some
returns-clause-some c =
    rw (c.and.ensures, c.one-to_127.ensures) (set_meets 2 8 63 (inl (omega arith, omega (arith, c.min.ensures, c.requires.some))) (omega arith))
