use Rattle.std.proofs.Common.{◌≡◌, ◌∙◌, ◌++◌, [], drop, append-nil, bytes_eq, ap, sym}
use Rattle.std.specs.List.{list_any}
use Rattle.std.proofs.lemmas.List.{drop_all}
use Rattle.std.proofs.lemmas.Result.{IfOk-weaker}
use Rattle.asn_notation.specs.Tree.{assignments_view}
use Rattle.asn_module.specs.Uses.{names_now, all_references}
use Rattle.asn_module.proofs.uses.names_used.Goals as goal

pub returns : goal.returns
returns c =
    let all = c.args.assignments.now in
    let names = c.loop-assignment.names.items in
    let past : drop c.loop-assignment.assignment-index all ≡ [] = drop_all c.loop-assignment.assignment-index all c.loop-assignment-test.false in
    let whole : names_now names ++ all_references (assignments_view []) ≡ all_references (assignments_view all) = rw past at c.loop-assignment.invariant in
    let same : names_now c.deref.result.now ≡ all_references (assignments_view all) = ap names_now c.deref.ensures.value ∙ sym (append-nil (names_now names)) ∙ whole in
    IfOk-weaker c.set_of.result _ _ (λ used h. λ q. h q ∙ ap (list_any (bytes_eq q)) same) c.set_of.ensures
