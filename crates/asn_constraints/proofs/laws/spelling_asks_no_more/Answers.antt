use Rattle.asn_constraints.proofs.SpellingLaws.{spelling_met, unknown_met}
use Rattle.asn_constraints.proofs.laws.spelling_asks_no_more.Goals as goal

pub returns-clause-met : goal.returns-clause-met
returns-clause-met c = spelling_met

pub returns-clause-unknown : goal.returns-clause-unknown
returns-clause-unknown c = unknown_met
