-- A whole length is taken as it stands.
use Rattle.asn_rules.proofs.Plain.LengthReading.{taken_done}
use Rattle.asn_rules.proofs.length_reader.read_next_length.Goals as goal

pub returns-in-Some-clause-done : goal.returns-in-Some-clause-done
returns-in-Some-clause-done c = taken_done c.args.lengths.now c.try_length.new.self c.args.bits.now c.try_length.new.bits c.in-Some.items c.requires c.in-Some.ensures.some
