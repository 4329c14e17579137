use Rattle.asn_rules.proofs.Answer.OneAnswer.{one_answer}
use Rattle.asn_oer.specs.Rules.{oer_ruling}
use Rattle.asn_oer.proofs.Encodings.Whole.{oer_laws}
use Rattle.asn_oer.proofs.laws.answers_exclude.Goals as goal

pub returns : goal.returns
returns c = one_answer oer_ruling oer_laws
