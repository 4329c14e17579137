use Rattle.asn_newer.proofs.Parts.PerParts.{per_part_laws}
use Rattle.asn_newer.proofs.Parts.PerWays.{per_ways}
use Rattle.asn_newer.proofs.laws.PerOtherVersions.keep_version_laws.Goals as goal

pub returns-clause-parts : goal.returns-clause-parts
returns-clause-parts c = per_part_laws

pub returns-clause-ways : goal.returns-clause-ways
returns-clause-ways c = per_ways
