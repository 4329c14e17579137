use Rattle.asn_oer.proofs.InPieces.StringItems.{oer_string_laws}
use Rattle.asn_oer.proofs.in_pieces.OerInPiecesFeedLeaves.keep_string_laws.Goals as goal

pub returns : goal.returns
returns c = oer_string_laws
