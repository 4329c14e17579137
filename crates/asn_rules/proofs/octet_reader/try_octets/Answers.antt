use Rattle.asn_rules.specs.Fields.{octet_fields}
use Rattle.asn_rules.specs.NumberSets.{Admits}
use Rattle.asn_rules.proofs.Octets.Octetwise.{number_octets, spells_octets, spells_whole}
use Rattle.asn_rules.proofs.Numbers.Sets.{first_spells}
use Rattle.asn_rules.proofs.octet_reader.try_octets.Goals as goal

pub returns-clause-at_octet : goal.returns-clause-at_octet
returns-clause-at_octet c = spells_whole (number_octets c.args.k (λ n. Admits c.args.set n)) octet_fields (first_spells octet_fields c.in_ok-n.ensures.some) c.requires.at_octet

pub returns-clause-done : goal.returns-clause-done
returns-clause-done c = spells_octets (number_octets c.args.k (λ n. Admits c.args.set n)) octet_fields (first_spells octet_fields c.in_ok-n.ensures.some)
