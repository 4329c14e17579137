use Rattle.asn_oer.proofs.Plan.NothingSpelt.{nothing_spelt}
use Rattle.asn_oer.proofs.plan_leaves.OerPlanLeaves.keep_nothing.Goals as goal

pub returns : goal.returns
returns c = nothing_spelt
