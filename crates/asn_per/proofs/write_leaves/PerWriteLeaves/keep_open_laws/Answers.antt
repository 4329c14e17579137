use Rattle.asn_per.proofs.Walk.WalkWriting.{per_open_laws}
use Rattle.asn_per.proofs.write_leaves.PerWriteLeaves.keep_open_laws.Goals as goal

pub returns : goal.returns
returns c = per_open_laws
