use Rattle.asn_constrained.proofs.Passing.{all_free}
use Rattle.asn_constrained.proofs.along.elements.each_of_both.Goals as goal

pub returns-in-None-default-clause-of_first : goal.returns-in-None-default-clause-of_first
returns-in-None-default-clause-of_first c = λ ds met. rw c.in-None-default.is-0 (all_free ds)

pub returns-in-Some-None-clause-of_second : goal.returns-in-Some-None-clause-of_second
returns-in-Some-None-clause-of_second c = λ ds met. rw c.in-Some-None.is-1 (all_free ds)
