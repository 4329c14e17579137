use Rattle.asn_per.proofs.InPieces.Strings.{per_string_laws}
use Rattle.asn_per.proofs.feed_leaves.PerInPiecesFeedLeaves.keep_string_laws.Goals as goal

pub returns : goal.returns
returns c = per_string_laws
