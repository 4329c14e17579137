use Rattle.std.proofs.Common.{rules}
use Rattle.std.proofs.lemmas.Result.{err_from_is_err_and}
use Rattle.asn_values.specs.View.{shape_of}
use Rattle.asn_look.specs.Budget.{IsLineOver}
use Rattle.asn_tool.proofs.Budgets.{over_begun, over_told}
use Rattle.asn_tool.proofs.budget.answer_within.Goals as goal

pub returns-in_err-put_over-in-Some-clause-begun : goal.returns-in_err-put_over-in-Some-clause-begun
returns-in_err-put_over-in-Some-clause-begun g c =
    let over : IsLineOver c.args.rules c.args.order (shape_of c.args.planned.now) c.args.most c.args.line.now c.in-Some.taken = search rules in
    let p = err_from_is_err_and c.from_residual-in_err-put_over-in-Some.result c.from_residual-in_err-put_over-in-Some.ensures.1 in
    rw (p.1, p.2) (over_begun c.args.rules c.args.order c.args.planned.now c.args.most c.args.line.now _ _ c.in-Some.taken over _ c.in_err-put_over-in-Some.ensures.begun)

pub returns-in_ok-put_over-in-Some-clause-told : goal.returns-in_ok-put_over-in-Some-clause-told
returns-in_ok-put_over-in-Some-clause-told g c =
    let over : IsLineOver c.args.rules c.args.order (shape_of c.args.planned.now) c.args.most c.args.line.now c.in-Some.taken = search rules in
    over_told c.args.rules c.args.order c.args.planned.now c.args.most c.args.line.now _ _ c.in-Some.taken over c.in_ok-put_over-in-Some.ensures.told
