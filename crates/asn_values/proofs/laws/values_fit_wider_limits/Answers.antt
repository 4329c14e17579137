use Rattle.asn_values.proofs.Wider as lemmas
use Rattle.asn_values.proofs.laws.values_fit_wider_limits.Goals as goal

pub returns : goal.returns
returns c = lemmas.values_wider
