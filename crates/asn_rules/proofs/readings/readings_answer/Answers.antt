use Rattle.asn_rules.proofs.Answer.Reading.{readings_answer}
use Rattle.asn_rules.proofs.readings.readings_answer.Goals as goal

pub returns : goal.returns
returns c = readings_answer
