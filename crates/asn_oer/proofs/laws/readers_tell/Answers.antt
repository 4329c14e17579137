use Rattle.asn_oer.proofs.Encodings.Tells.{oer_tells}
use Rattle.asn_oer.proofs.laws.readers_tell.Goals as goal

pub returns : goal.returns
returns c = oer_tells
