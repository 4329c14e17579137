use Rattle.std.proofs.Common.{take, sym, arith}
use Rattle.std.proofs.lemmas.List.{length-take}
use Rattle.asn_rules.specs.Answer.{max_octets}
use Rattle.asn_fields.proofs.message.units_read.Goals as goal

pub returns : goal.returns
returns g c = sym (c.units_of.ensures (take max_octets c.args.octets.now) (omega (arith, length-take max_octets c.args.octets.now, c.min.ensures)))
