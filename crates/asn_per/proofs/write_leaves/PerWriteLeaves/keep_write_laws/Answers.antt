use Rattle.asn_per.proofs.Walk.WalkWriting.{per_write_laws}
use Rattle.asn_per.proofs.write_leaves.PerWriteLeaves.keep_write_laws.Goals as goal

pub returns : goal.returns
returns c = per_write_laws
