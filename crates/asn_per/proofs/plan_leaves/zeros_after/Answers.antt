use Rattle.std.proofs.Common.{refl, arith}
use Rattle.asn_per.proofs.Plan.OpenHere.{filling_zeros}
use Rattle.asn_per.proofs.plan_leaves.zeros_after.Goals as goal

pub returns-clause-filled : goal.returns-clause-filled
returns-clause-filled c = filling_zeros c.args.taken _ (omega (arith, c.if-taken-eq0.false)) refl
