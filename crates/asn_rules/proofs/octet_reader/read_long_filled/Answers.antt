use Rattle.asn_rules.specs.Fields.{octet_fields}
use Rattle.asn_rules.proofs.Plain.FilledReading.{filled_in_octets}
use Rattle.asn_rules.proofs.Octets.Octetwise.{spells_octets, spells_whole, stops_octets}
use Rattle.asn_rules.proofs.octet_reader.read_long_filled.Goals as goal

pub returns-in-Ok-clause-at_octet : goal.returns-in-Ok-clause-at_octet
returns-in-Ok-clause-at_octet c = spells_whole (filled_in_octets c.args.marks c.args.most c.args.count c.args.low c.requires.marks_hold c.requires.some) octet_fields c.in-Ok.ensures.done c.requires.at_octet

pub returns-in-Ok-clause-done : goal.returns-in-Ok-clause-done
returns-in-Ok-clause-done c = spells_octets (filled_in_octets c.args.marks c.args.most c.args.count c.args.low c.requires.marks_hold c.requires.some) octet_fields c.in-Ok.ensures.done

pub returns-in-Err-clause-stop : goal.returns-in-Err-clause-stop
returns-in-Err-clause-stop c =
    rw c.in_octets.ensures (stops_octets (filled_in_octets c.args.marks c.args.most c.args.count c.args.low c.requires.marks_hold c.requires.some) octet_fields c.args.units.now c.in-Err.stop c.octets_left.ensures.bits c.requires.at_octet c.in-Err.ensures.stop)
