use Rattle.asn_convert.proofs.Converting.{turns_back}
use Rattle.asn_convert.proofs.laws.conversion_turns_back.Goals as goal

pub returns : goal.returns
returns c = turns_back
