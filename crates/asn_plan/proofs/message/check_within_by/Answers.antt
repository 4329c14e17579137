use Rattle.std.proofs.Common.{Some}
use Rattle.asn_values.specs.View.{shape_of}
use Rattle.asn_plan.proofs.Messages.{over_told}
use Rattle.asn_plan.specs.Within.{IsTaken}
use Rattle.asn_plan.proofs.message.check_within_by.Goals as goal

pub returns-then-not-is_within : goal.returns-then-not-is_within
returns-then-not-is_within g c =
    let told : IsTaken g.R.Rules.ruling (Some c.in-Some.taken) (shape_of c.args.ty.now) c.args.octets.now = rw c.in-Some.is at c.taken_by.ensures in
    over_told g.R.Rules.ruling (shape_of c.args.ty.now) c.args.octets.now c.args.budget.now c.in-Some.taken told (c.is_within.ensures.over c.if-not-is_within.true)

pub returns : goal.returns
returns g c =
    let told : IsTaken g.R.Rules.ruling (Some c.in-Some.taken) (shape_of c.args.ty.now) c.args.octets.now = rw c.in-Some.is at c.taken_by.ensures in
    (told, c.is_within.ensures.within c.if-not-is_within.false)
