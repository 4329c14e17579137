use Rattle.std.proofs.Common.{◌<◌}
use Rattle.asn_bits.specs.Numbers.{bits}
use Rattle.asn_bits.proofs.Weights.{bits_are}
use Rattle.asn_rules.proofs.Numbers.Sets.{first_spells}
use Rattle.asn_rules.proofs.Octets.FirstOctets.{octets_there}
use Rattle.asn_per.specs.Per.{per_fields}
use Rattle.asn_per.proofs.single_items.read_octet.Goals as goal

-- the octet stands in the piece
pub pass_octets-requires : goal.pass_octets-requires
pass_octets-requires c = octets_there 1 c.in-Some.octet c.args.cursor.now c.in-Some.ensures.some

pub returns-in-Some-clause-done : goal.returns-in-Some-clause-done
returns-in-Some-clause-done c =
    first_spells {k = 8} {S = λ n. n < 256} per_fields (record { number = bits 8 c.in-Some.octet; spelt = record { digits = bits_are 8 c.in-Some.octet c.in-Some.ensures.fits; member = c.in-Some.ensures.fits }; split = rw c.pass_octets.ensures c.in-Some.ensures.some })
