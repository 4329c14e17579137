use Rattle.std.proofs.Common.{true}
use Rattle.asn_per.proofs.Plan.NothingSpelt.{nothing_spelt}
use Rattle.asn_per.proofs.plan_leaves.PerPlanLeaves.single_is_empty.Goals as goal

pub returns : goal.returns
returns c same = nothing_spelt true
