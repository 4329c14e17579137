use Rattle.asn_per.specs.Rules.{per_ruling}
use Rattle.asn_per.specs.Walk.{per_coding}
use Rattle.asn_per.proofs.Plan.FieldsRead.{count_in_bits}
use Rattle.asn_plan.proofs.NodeKinds.{if_some}
use Rattle.asn_per.proofs.plan_leaves.PerPlanLeaves.try_count.Goals as goal

pub returns-clause-some : goal.returns-clause-some
unfolding per_coding per_ruling
returns-clause-some c = if_some c.take_told.result _ _ (λ n h s fs. count_in_bits c.in-Some.counts s (rw c.in-Some.is at fs.in_bits) n c.args.units.now c.take_told.new.units h) c.take_told.ensures.some
