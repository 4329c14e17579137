use Rattle.asn_oer.proofs.Walk.WalkWriting.{oer_write_laws}
use Rattle.asn_oer.proofs.write_leaves.OerWriteLeaves.keep_write_laws.Goals as goal

pub returns : goal.returns
returns c = oer_write_laws
