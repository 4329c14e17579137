use Rattle.asn_rules.proofs.whole_number_reader.read_constrained.Goals as goal

pub returns-clause-stop : goal.returns-clause-stop
returns-clause-stop c = rw c.width_up_to.ensures.width at c.read_number.ensures.stop
