use Rattle.asn_per.proofs.Walk.WalkLaws.{per_laws}
use Rattle.asn_per.proofs.read_leaves.PerReadLeaves.keep_laws.Goals as goal

pub returns : goal.returns
returns c = per_laws
