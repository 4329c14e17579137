use Rattle.asn_rules.specs.Fields.{octet_fields}
use Rattle.asn_rules.proofs.Octets.Octetwise.{spells_octets, spells_whole}
use Rattle.asn_rules.proofs.Octets.SignedOctets.{fixed_in_octets}
use Rattle.asn_rules.proofs.octet_reader.try_signed_octets.Goals as goal

pub returns-clause-at_octet : goal.returns-clause-at_octet
returns-clause-at_octet c = spells_whole (fixed_in_octets c.args.count c.args.set) octet_fields (c.in_ok-offset.ensures.done octet_fields) c.requires.at_octet

pub returns-clause-done : goal.returns-clause-done
returns-clause-done c = spells_octets (fixed_in_octets c.args.count c.args.set) octet_fields (c.in_ok-offset.ensures.done octet_fields)
