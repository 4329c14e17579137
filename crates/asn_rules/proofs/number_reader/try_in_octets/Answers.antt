use Rattle.std.proofs.Common.{◌*◌}
use Rattle.asn_bits.specs.Numbers.{bits}
use Rattle.asn_bits.proofs.Weights.{bits_are}
use Rattle.asn_rules.proofs.Octets.FirstOctets.{octets_there}
use Rattle.asn_rules.proofs.number_reader.try_in_octets.Goals as goal

pub pass_octets-requires : goal.pass_octets-requires
pass_octets-requires c = octets_there c.args.k c.in_ok-n.n c.args.bits.now c.in_ok-n.ensures.some

pub returns-then-admits-clause-some : goal.returns-then-admits-clause-some
returns-then-admits-clause-some c =
    record { number = bits (8 * c.args.k) c.in_ok-n.n; spelt = record { digits = bits_are (8 * c.args.k) c.in_ok-n.n c.in_ok-n.ensures.fits; member = c.admits.ensures.0 c.if-admits.true }; split = rw c.pass_octets.ensures c.in_ok-n.ensures.some }
