use Rattle.asn_per.proofs.Encodings.Tells.{per_tells}
use Rattle.asn_per.proofs.rules.PerReads.keep_reading_laws.Goals as goal

pub returns : goal.returns
returns c = per_tells
