use Rattle.asn_rules.proofs.Answer.Reading.{one_reading}
use Rattle.asn_rules.proofs.readings.one_reading.Goals as goal

pub returns : goal.returns
returns c = one_reading
