use Rattle.asn_rules.proofs.Answer.NoOctets.{refused_told}
use Rattle.asn_rules.proofs.no_octets.no_value.Goals as goal

pub returns-in-Refused : goal.returns-in-Refused
returns-in-Refused c r t h = refused_told r t c.in-Refused.at c.in-Refused.why (rw c.in-Refused.is at h)
