use Rattle.std.proofs.Common.{refl}
use Rattle.asn_values.specs.Profile.{InProfile}
use Rattle.asn_values.specs.View.{shape_of}
use Rattle.asn_plan.specs.Taken.{IsNoMore}
use Rattle.asn_look.specs.Budget.{budget_of}
use Rattle.asn_look.proofs.Budgets.{counted_within, no_encoding}
use Rattle.asn_look.proofs.budget.over_in.Goals as goal

pub returns-in_ok-unless_memory-in-Err : goal.returns-in_ok-unless_memory-in-Err
returns-in_ok-unless_memory-in-Err g c =
    let good : InProfile (shape_of c.args.planned.now) = rw c.get.ensures at c.get-2.ensures.of_profile in
    no_encoding g.R.Rules.ruling c.keep_laws.ensures.laws (shape_of c.args.planned.now) good c.args.most c.args.octets.now c.in-Err.fault c.in-Err.ensures c.in_ok-unless_memory-in-Err.ensures

pub returns-then-is_within : goal.returns-then-is_within
returns-then-is_within g c =
    let good : InProfile (shape_of c.args.planned.now) = rw c.get.ensures at c.get-2.ensures.of_profile in
    let few : IsNoMore c.in-Some.taken (budget_of c.args.most) = rw c.from-most.ensures at (c.is_within.ensures.within c.if-is_within.true) in
    counted_within g.R.Rules.ruling c.keep_laws.ensures.laws (shape_of c.args.planned.now) good c.args.most c.args.octets.now c.in-Some.taken c.in-Some.ensures few
