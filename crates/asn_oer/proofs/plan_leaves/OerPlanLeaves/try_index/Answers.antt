use Rattle.asn_oer.specs.Rules.{oer_ruling}
use Rattle.asn_oer.specs.Walk.{oer_coding}
use Rattle.asn_oer.proofs.Plan.FieldsRead.{index_in_octets, octets_after_field}
use Rattle.asn_plan.proofs.NodeKinds.{if_some}
use Rattle.asn_oer.proofs.plan_leaves.OerPlanLeaves.try_index.Goals as goal

pub returns-clause-at_unit : goal.returns-clause-at_unit
unfolding oer_coding oer_ruling
returns-clause-at_unit c = octets_after_field c.in-Some.indexes c.take_told.result c.args.units.now c.take_told.new.units (rw c.in-Some.is at c.args.fields.now.whole) c.take_told.ensures.some c.take_told.ensures.none c.requires.at_unit

pub returns-clause-some : goal.returns-clause-some
unfolding oer_coding oer_ruling
returns-clause-some c = if_some c.take_told.result _ _ (λ n h root more fs. index_in_octets c.in-Some.indexes root more (rw c.in-Some.is at fs.in_octets) n c.args.units.now c.take_told.new.units h) c.take_told.ensures.some
