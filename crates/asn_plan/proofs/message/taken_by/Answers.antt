use Rattle.asn_values.specs.View.{shape_of}
use Rattle.asn_plan.proofs.Messages.{counted_if}
use Rattle.asn_plan.proofs.message.taken_by.Goals as goal

pub returns : goal.returns
returns g c =
    counted_if _ _ g.met.R.PlanRules.same_ruling (shape_of c.args.ty.now) c.get.ensures.of_profile c.args.plan.now c.requires c.args.octets.now c.build_octets.result c.build_octets.ensures.within c.build_octets.ensures.some
