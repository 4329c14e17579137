use Rattle.std.proofs.Common.{arith}
use Rattle.asn_rules.proofs.signed_reader.least_magnitude.Goals as goal

pub returns-else-count-le1-clause-few : goal.returns-else-count-le1-clause-few
returns-else-count-le1-clause-few c = c.sign_weight.ensures.within (omega (arith, c.requires.few))
