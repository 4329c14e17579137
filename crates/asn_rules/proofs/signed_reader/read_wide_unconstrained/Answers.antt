use Rattle.asn_rules.proofs.signed_reader.read_wide_unconstrained.Goals as goal

pub returns-in-Some-clause-done : goal.returns-in-Some-clause-done
returns-in-Some-clause-done c R = rw c.from.ensures (c.in-Some.ensures.done R)
