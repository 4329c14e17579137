use Rattle.std.proofs.Common.{inl, arith}
use Rattle.asn_bits.proofs.Unions.{set_meets}
use Rattle.asn_oer.proofs.single_items.characters_of.Goals as goal

pub returns-in-Numeric-clause-some : goal.returns-in-Numeric-clause-some
returns-in-Numeric-clause-some c = rw (c.and.ensures, c.one-in-Numeric.ensures) (set_meets 2 8 32 (inl (omega arith, omega arith)) (omega arith))

pub returns-in-Visible-clause-some : goal.returns-in-Visible-clause-some
returns-in-Visible-clause-some c = rw c.one-in-Visible.ensures (set_meets 2 8 32 (inl (omega arith, omega arith)) (omega arith))
