use Rattle.asn_per.proofs.InPieces.Kept.{per_keep_laws}
use Rattle.asn_per.proofs.feed_leaves.PerInPiecesFeedLeaves.keep_kept_laws.Goals as goal

pub returns : goal.returns
returns c = per_keep_laws
