use Rattle.asn_per.proofs.InPieces.Fields.{per_field_laws}
use Rattle.asn_per.proofs.feed_leaves.PerInPiecesFeedLeaves.keep_field_laws.Goals as goal

pub returns : goal.returns
returns c = per_field_laws
