use Rattle.std.proofs.Common.{subst}
use Rattle.asn_values.specs.View.{shape_of}
use Rattle.asn_rules.specs.Answer.{Ruling}
use Rattle.asn_plan.specs.Plans.{Checks}
use Rattle.asn_plan.proofs.message.check_exactly.Goals as goal

pub returns : goal.returns
returns g c =
    subst (λ (r : Ruling). Checks r c.check_message.result (shape_of c.args.ty.now) c.args.octets.now) g.met.R.PlanRules.same_ruling c.check_message.ensures
