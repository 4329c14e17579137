use Rattle.asn_oer.proofs.Walk.WalkLaws.{oer_laws}
use Rattle.asn_oer.proofs.laws.walk_laws.Goals as goal

pub returns : goal.returns
returns c = oer_laws
