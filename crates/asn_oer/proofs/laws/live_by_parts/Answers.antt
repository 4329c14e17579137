use Rattle.asn_oer.proofs.Encodings.LiveParts.{oer_live}
use Rattle.asn_oer.proofs.laws.live_by_parts.Goals as goal

pub returns : goal.returns
returns c = oer_live
