use Rattle.asn_rules.specs.Fields.{octet_fields}
use Rattle.asn_rules.proofs.Octets.Octetwise.{spells_octets, spells_whole}
use Rattle.asn_rules.proofs.Octets.SignedOctets.{signed_in_octets}
use Rattle.asn_rules.proofs.octet_reader.try_counted_signed.Goals as goal

pub returns-clause-at_octet : goal.returns-clause-at_octet
returns-clause-at_octet c = spells_whole (signed_in_octets c.args.set) octet_fields (c.in_ok-offset.ensures.done octet_fields) c.requires.at_octet

pub returns-clause-done : goal.returns-clause-done
returns-clause-done c = spells_octets (signed_in_octets c.args.set) octet_fields (c.in_ok-offset.ensures.done octet_fields)
