use Rattle.asn_oer.proofs.Walk.WalkLaws.{oer_laws}
use Rattle.asn_oer.proofs.read_leaves.OerReadLeaves.keep_laws.Goals as goal

pub returns : goal.returns
returns c = oer_laws
