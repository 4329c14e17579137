use Rattle.asn_rules.proofs.Answer.OneAnswer.{one_answer}
use Rattle.asn_per.specs.Rules.{per_ruling}
use Rattle.asn_per.proofs.Encodings.Whole.{per_laws}
use Rattle.asn_per.proofs.laws.answers_exclude.Goals as goal

pub returns : goal.returns
returns c = one_answer per_ruling per_laws
