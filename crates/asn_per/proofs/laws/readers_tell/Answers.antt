use Rattle.asn_per.proofs.Encodings.Tells.{per_tells}
use Rattle.asn_per.proofs.laws.readers_tell.Goals as goal

pub returns : goal.returns
returns c = per_tells
