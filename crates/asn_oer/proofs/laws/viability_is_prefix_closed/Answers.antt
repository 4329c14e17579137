use Rattle.asn_rules.proofs.Live.Closed.{live_closed}
use Rattle.asn_oer.specs.Oer.{oer, oer_fields}
use Rattle.asn_oer.proofs.laws.viability_is_prefix_closed.Goals as goal

pub returns : goal.returns
returns c = live_closed oer_fields oer
