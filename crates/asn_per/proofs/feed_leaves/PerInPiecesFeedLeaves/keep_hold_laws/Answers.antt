use Rattle.asn_per.proofs.InPieces.Hold.{per_hold_laws}
use Rattle.asn_per.proofs.feed_leaves.PerInPiecesFeedLeaves.keep_hold_laws.Goals as goal

pub returns : goal.returns
returns c = per_hold_laws
