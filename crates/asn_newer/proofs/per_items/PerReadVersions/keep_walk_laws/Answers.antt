use Rattle.asn_newer.specs.Rules.{per_loose}
use Rattle.asn_newer.proofs.Parts.PerWays.{per_ways}
use Rattle.asn_newer.proofs.per_items.PerReadVersions.keep_walk_laws.Goals as goal

pub returns-clause-ways : goal.returns-clause-ways
unfolding per_loose
returns-clause-ways c = per_ways
