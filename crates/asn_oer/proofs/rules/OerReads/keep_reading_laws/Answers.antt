use Rattle.asn_oer.proofs.Encodings.Tells.{oer_tells}
use Rattle.asn_oer.proofs.rules.OerReads.keep_reading_laws.Goals as goal

pub returns : goal.returns
returns c = oer_tells
