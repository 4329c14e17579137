use Rattle.std.proofs.Common.{arith}
use Rattle.asn_rules.proofs.Answer.CodecLaws.{each_octet}
use Rattle.asn_rules.proofs.laws.are_octets.Goals as goal

pub returns : goal.returns
returns c = each_octet c.args.octets.now (λ i. omega (arith, c.type_inv.octets i))
