use Rattle.asn_per.proofs.indexes.read_small_length.Goals as goal

pub returns-clause-done : goal.returns-clause-done
returns-clause-done c = rw (← c.from-last.ensures) c.read_number.ensures.done

pub returns-clause-stop : goal.returns-clause-stop
returns-clause-stop c = rw (← c.from-last.ensures) c.read_number.ensures.stop
