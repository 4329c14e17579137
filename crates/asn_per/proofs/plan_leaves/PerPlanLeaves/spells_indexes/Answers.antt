use Rattle.asn_per.proofs.Plan.ItemsSpelt.{indexes_spelt}
use Rattle.asn_per.proofs.plan_leaves.PerPlanLeaves.spells_indexes.Goals as goal

pub returns : goal.returns
returns c same = indexes_spelt
