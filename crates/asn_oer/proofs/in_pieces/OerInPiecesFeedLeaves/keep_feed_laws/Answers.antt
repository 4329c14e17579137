use Rattle.asn_oer.proofs.InPieces.FeedLaws.{oer_feed_laws}
use Rattle.asn_oer.proofs.in_pieces.OerInPiecesFeedLeaves.keep_feed_laws.Goals as goal

pub returns : goal.returns
returns c = oer_feed_laws
