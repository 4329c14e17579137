use Rattle.std.proofs.Common.{refl}
use Rattle.asn_values.specs.View.{shape_of}
use Rattle.asn_plan.proofs.Messages.{checked}
use Rattle.asn_plan.proofs.message.check_by.Goals as goal

pub returns-in-Some : goal.returns-in-Some
returns-in-Some g c =
    let m = c.in-Some.ensures.some (shape_of c.args.ty.now) c.get.ensures.of_profile c.requires.plan in
    checked _ _ g.met.R.PlanRules.same_ruling (shape_of c.args.ty.now) c.args.octets.now (c.in-Some.ensures.within refl) m.value m.encoding
