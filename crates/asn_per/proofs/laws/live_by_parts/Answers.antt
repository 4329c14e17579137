use Rattle.asn_per.proofs.Encodings.Live.{per_live}
use Rattle.asn_per.proofs.laws.live_by_parts.Goals as goal

pub returns : goal.returns
returns c = per_live
