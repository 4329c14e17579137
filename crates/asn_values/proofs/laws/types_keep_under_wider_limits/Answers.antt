use Rattle.asn_values.proofs.WiderTypes as lemmas
use Rattle.asn_values.proofs.laws.types_keep_under_wider_limits.Goals as goal

pub returns : goal.returns
returns c = lemmas.types_wider
