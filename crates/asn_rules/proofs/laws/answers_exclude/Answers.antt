use Rattle.asn_rules.proofs.Answer.OneAnswer.{one_answer}
use Rattle.asn_rules.proofs.laws.answers_exclude.Goals as goal

pub returns : goal.returns
returns c = one_answer
