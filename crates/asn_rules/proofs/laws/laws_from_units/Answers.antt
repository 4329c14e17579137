use Rattle.asn_rules.proofs.Law.FromUnits.{rules_laws}
use Rattle.asn_rules.proofs.laws.laws_from_units.Goals as goal

pub returns : goal.returns
returns c = rules_laws
