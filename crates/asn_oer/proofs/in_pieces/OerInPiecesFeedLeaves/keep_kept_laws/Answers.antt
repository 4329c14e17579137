use Rattle.asn_oer.proofs.InPieces.Kept.{oer_keep_laws}
use Rattle.asn_oer.proofs.in_pieces.OerInPiecesFeedLeaves.keep_kept_laws.Goals as goal

pub returns : goal.returns
returns c = oer_keep_laws
