use Rattle.asn_constrained.proofs.Passing.{if_some}
use Rattle.asn_constrained.proofs.along.judging.AlongBuild.list.Goals as goal

pub returns : goal.returns
returns c = if_some c.end.result _ (λ some s ds h. c.end.ensures some s _ ds h)
