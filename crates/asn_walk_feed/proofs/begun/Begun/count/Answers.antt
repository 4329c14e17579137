use Rattle.std.proofs.Common.{length, sym, ap, ◌∙◌, subst, arith}
use Rattle.asn_bits.specs.Sets.{AreBits}
use Rattle.asn_bits.proofs.Octets.{length-digits}
use Rattle.asn_bits.proofs.Weights.{are_digits}
use Rattle.asn_walk_feed.proofs.begun.Begun.count.Goals as goal

pub returns-clause-count : goal.returns-clause-count
returns-clause-count c = sym (ap length (sym c.self.view_is) ∙ length-digits 2 c.self.inside.count c.self.inside.number)

pub returns-clause-bits : goal.returns-clause-bits
returns-clause-bits c = subst AreBits c.self.view_is (are_digits 2 c.self.inside.count c.self.inside.number (omega arith))
