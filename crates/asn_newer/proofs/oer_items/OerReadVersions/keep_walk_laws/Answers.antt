use Rattle.asn_newer.specs.Rules.{oer_loose}
use Rattle.asn_newer.proofs.Parts.OerWays.{oer_ways}
use Rattle.asn_newer.proofs.oer_items.OerReadVersions.keep_walk_laws.Goals as goal

pub returns-clause-ways : goal.returns-clause-ways
unfolding oer_loose
returns-clause-ways c = oer_ways
