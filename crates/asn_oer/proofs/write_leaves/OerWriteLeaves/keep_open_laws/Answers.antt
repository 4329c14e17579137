use Rattle.asn_oer.proofs.Walk.WalkWriting.{oer_open_laws}
use Rattle.asn_oer.proofs.write_leaves.OerWriteLeaves.keep_open_laws.Goals as goal

pub returns : goal.returns
returns c = oer_open_laws
