use Rattle.std.proofs.Common.{rules, ◌≡◌, refl, subst}
use Rattle.std.proofs.lemmas.Result.{err_from_is_err_and}
use Rattle.asn_convert.specs.Parts.{Broke, Wrote}
use Rattle.asn_convert.specs.Text.{IsFront, ended}
use Rattle.asn_convert.proofs.Told.{stops_memory}
use Rattle.asn_look.specs.Budget.{over_text}
use Rattle.asn_tool.proofs.budget.put_over.Goals as goal

pub returns-in_err-push_str-clause-begun : goal.returns-in_err-push_str-clause-begun
returns-in_err-push_str-clause-begun g c =
    let p = err_from_is_err_and c.from_residual-in_err-push_str.result c.from_residual-in_err-push_str.ensures.1 in
    let whole = ended (over_text c.args.taken.now) in
    rw p.1 (stops_memory _ (λ out. IsFront out whole) _ p.2 (whole, refl))

pub returns-clause-told : goal.returns-clause-told
returns-clause-told g c =
    let value : c.as_str.result.now ≡ ended (over_text c.args.taken.now) = search rules in
    subst (λ x. Wrote c.put.result g.W.Write.contents c.args.output.now c.put.new.output (λ _ out. out ≡ x)) value c.put.ensures.ok

pub returns-clause-begun : goal.returns-clause-begun
returns-clause-begun g c =
    let value : c.as_str.result.now ≡ ended (over_text c.args.taken.now) = search rules in
    subst (λ x. Broke c.put.result g.W.Write.contents c.args.output.now c.put.new.output (λ out. IsFront out x)) value c.put.ensures.err
