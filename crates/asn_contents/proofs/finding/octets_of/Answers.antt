use Rattle.asn_contents.proofs.Entries.{octets_there}
use Rattle.asn_contents.proofs.finding.octets_of.Goals as goal

pub returns-in-Octets : goal.returns-in-Octets
returns-in-Octets c = octets_there c.args.value.now c.in-Octets.octets c.as_slice.result.now c.in-Octets.is c.as_slice.ensures.value
