use Rattle.asn_per.proofs.InPieces.Brief.{per_feed_laws}
use Rattle.asn_per.proofs.feed_leaves.PerInPiecesFeedLeaves.keep_feed_laws.Goals as goal

pub returns : goal.returns
returns c = per_feed_laws
