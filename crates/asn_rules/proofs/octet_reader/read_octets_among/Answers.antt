use Rattle.std.proofs.Common.{◌*◌, arith}
use Rattle.asn_bits.specs.Sets.{Among}
use Rattle.asn_bits.proofs.Wide.{narrow}
use Rattle.asn_rules.specs.Fields.{octet_fields}
use Rattle.asn_rules.proofs.Octets.Octetwise.{number_octets, spells_octets, spells_whole, stops_octets}
use Rattle.asn_rules.proofs.octet_reader.read_octets_among.Goals as goal

pub returns-in-Ok-clause-at_octet : goal.returns-in-Ok-clause-at_octet
returns-in-Ok-clause-at_octet c = spells_whole (number_octets c.args.k (λ n. Among c.args.numbers n)) octet_fields (c.in-Ok.ensures.done octet_fields) c.requires.at_octet

pub returns-in-Ok-clause-done : goal.returns-in-Ok-clause-done
returns-in-Ok-clause-done c = spells_octets (number_octets c.args.k (λ n. Among c.args.numbers n)) octet_fields (c.in-Ok.ensures.done octet_fields)

pub returns-in-Err-clause-stop : goal.returns-in-Err-clause-stop
returns-in-Err-clause-stop c = rw c.in_octets.ensures (stops_octets (number_octets c.args.k (λ n. Among c.args.numbers n)) octet_fields c.args.units.now c.in-Err.stop c.octets_left.ensures.bits c.requires.at_octet (c.in-Err.ensures.stop octet_fields))

pub overflow_cast-result : goal.overflow_cast-result
overflow_cast-result c = omega (arith, narrow (8 * c.args.k) c.in-Ok.n (omega (arith, c.requires.few)) c.in-Ok.ensures.fits)
