use Rattle.asn_newer.proofs.Parts.OerParts.{oer_part_laws}
use Rattle.asn_newer.proofs.Parts.OerWays.{oer_ways}
use Rattle.asn_newer.proofs.laws.OerOtherVersions.keep_version_laws.Goals as goal

pub returns-clause-parts : goal.returns-clause-parts
returns-clause-parts c = oer_part_laws

pub returns-clause-ways : goal.returns-clause-ways
returns-clause-ways c = oer_ways
