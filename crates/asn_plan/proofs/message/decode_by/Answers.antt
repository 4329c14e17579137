use Rattle.std.proofs.Common.{refl}
use Rattle.asn_values.specs.View.{shape_of}
use Rattle.asn_plan.proofs.Messages.{decoded}
use Rattle.asn_plan.proofs.message.decode_by.Goals as goal

pub returns-in-Some : goal.returns-in-Some
returns-in-Some g c =
    let m = c.in-Some.ensures.some (shape_of c.args.ty.now) c.get.ensures.of_profile c.requires.plan in
    decoded _ _ g.met.R.PlanRules.same_ruling (shape_of c.args.ty.now) c.in-Some.value c.args.octets.now (c.in-Some.ensures.within refl) m.value m.of_value m.encoding
