use Rattle.asn_oer.proofs.InPieces.StringItems.{oer_field_laws}
use Rattle.asn_oer.proofs.in_pieces.OerInPiecesFeedLeaves.keep_field_laws.Goals as goal

pub returns : goal.returns
returns c = oer_field_laws
