use Rattle.std.proofs.Common.{false}
use Rattle.asn_per.proofs.Plan.NothingSpelt.{nothing_spelt}
use Rattle.asn_per.proofs.plan_leaves.PerPlanLeaves.keep_nothing.Goals as goal

pub returns : goal.returns
returns c = nothing_spelt false
