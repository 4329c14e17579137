use Rattle.asn_rules.proofs.Live.Closed.{live_closed}
use Rattle.asn_rules.proofs.laws.viability_is_prefix_closed.Goals as goal

pub returns : goal.returns
returns c = live_closed
