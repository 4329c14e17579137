use Rattle.asn_values.proofs.Defaults as lemmas
use Rattle.asn_values.proofs.laws.defaults_are_judged.Goals as goal

pub returns : goal.returns
returns c = lemmas.defaults_are_judged
