use Rattle.asn_oer.proofs.InPieces.Hold.{oer_hold_laws}
use Rattle.asn_oer.proofs.in_pieces.OerInPiecesFeedLeaves.keep_hold_laws.Goals as goal

pub returns : goal.returns
returns c = oer_hold_laws
