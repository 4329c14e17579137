use Rattle.asn_constrained.proofs.Converting.{turns_back}
use Rattle.asn_constrained.proofs.laws.conversion_under_turns_back.Goals as goal

pub returns : goal.returns
returns c = λ a b la lb. turns_back a b la lb
