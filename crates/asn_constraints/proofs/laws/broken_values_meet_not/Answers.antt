use Rattle.asn_constraints.proofs.Breaking.{broken_not_met}
use Rattle.asn_constraints.proofs.laws.broken_values_meet_not.Goals as goal

pub returns : goal.returns
returns c = broken_not_met
