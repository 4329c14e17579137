use Rattle.asn_rules.specs.Fields.{octet_fields}
use Rattle.asn_rules.proofs.Octets.Octetwise.{spells_octets, spells_whole, stops_octets}
use Rattle.asn_rules.proofs.Octets.SignedOctets.{signed_in_octets}
use Rattle.asn_rules.proofs.octet_reader.read_wide_counted_signed.Goals as goal

pub returns-in-Ok-clause-at_octet : goal.returns-in-Ok-clause-at_octet
returns-in-Ok-clause-at_octet c = spells_whole (signed_in_octets c.args.set) octet_fields (c.in-Ok.ensures.done octet_fields) c.requires.at_octet

pub returns-in-Ok-clause-done : goal.returns-in-Ok-clause-done
returns-in-Ok-clause-done c = spells_octets (signed_in_octets c.args.set) octet_fields (c.in-Ok.ensures.done octet_fields)

pub returns-in-Err-clause-stop : goal.returns-in-Err-clause-stop
returns-in-Err-clause-stop c =
    rw c.in_octets.ensures (stops_octets (signed_in_octets c.args.set) octet_fields c.args.units.now c.in-Err.stop c.octets_left.ensures.bits c.requires.at_octet (c.in-Err.ensures.stop octet_fields))
