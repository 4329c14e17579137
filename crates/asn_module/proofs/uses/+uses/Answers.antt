use Rattle.std.proofs.Common.{refl, ◌∙◌, drop, [], ◌≡◌, append-nil, sym}
use Rattle.std.proofs.lemmas.List.{drop_all}
use Rattle.std.proofs.lemmas.Result.{on_ok_weaker}
use Rattle.asn_module.proofs.UsedInTypes.{of_component, of_alternative, of_sequence, of_marked_sequence, of_choice, of_marked_choice}
use Rattle.asn_module.proofs.uses.+uses.Goals as goal

pub push_of_alternatives-loop-alternative-preserved : goal.push_of_alternatives-loop-alternative-preserved
push_of_alternatives-loop-alternative-preserved t c =
    let l = c.loop-alternative in
    of_alternative c.args.alternatives.now l.alternative-index c.alternative-item.result _ _ _ c.loop-alternative-test.true c.alternative-item.is c.in_ok-push_references.ensures l.invariant

pub push_of_components-loop-component-preserved : goal.push_of_components-loop-component-preserved
push_of_components-loop-component-preserved t c =
    let l = c.loop-component in
    of_component c.args.components.now l.component-index c.component-item.result _ _ _ c.loop-component-test.true c.component-item.is c.in_ok-push_references.ensures l.invariant

pub push_of_components-returns : goal.push_of_components-returns
push_of_components-returns t c =
    let l = c.loop-component in
    let empty : drop l.component-index c.args.components.now ≡ [] = drop_all l.component-index c.args.components.now c.loop-component-test.false in
    rw (empty, append-nil) at l.invariant

pub push_of_alternatives-returns : goal.push_of_alternatives-returns
push_of_alternatives-returns t c =
    let l = c.loop-alternative in
    let empty : drop l.alternative-index c.args.alternatives.now ≡ [] = drop_all l.alternative-index c.args.alternatives.now c.loop-alternative-test.false in
    rw (empty, append-nil) at l.invariant

pub push_references-returns-in-None : goal.push_references-returns-in-None
push_references-returns-in-None t c =
    of_sequence c.args.ty.now c.in-Sequence.root _ _ (c.in-Sequence.is ∙ rw c.in-None.is refl) (rw c.deref-in-Sequence.ensures.value at c.in_ok-push_of_components-in-Sequence.ensures)

pub push_references-returns-in-Some : goal.push_references-returns-in-Some
push_references-returns-in-Some t c =
    on_ok_weaker c.push_of_components-in-Some.result
    (of_marked_sequence c.args.ty.now c.in-Sequence.root c.in-Some.more _ _ _ (c.in-Sequence.is ∙ rw c.in-Some.is refl) (rw c.deref-in-Sequence.ensures.value at c.in_ok-push_of_components-in-Sequence.ensures))
    (rw c.deref-in-Some.ensures.value at c.push_of_components-in-Some.ensures)

pub push_references-returns-in-None-more : goal.push_references-returns-in-None-more
push_references-returns-in-None-more t c =
    of_choice c.args.ty.now c.in-Choice.root _ _ (c.in-Choice.is ∙ rw c.in-None-more.is refl) (rw c.deref-in-Choice.ensures.value at c.in_ok-push_of_alternatives-in-Choice.ensures)

pub push_references-returns-in-Some-more : goal.push_references-returns-in-Some-more
push_references-returns-in-Some-more t c =
    on_ok_weaker c.push_of_alternatives-in-Some-more.result
    (of_marked_choice c.args.ty.now c.in-Choice.root c.in-Some-more.more _ _ _ (c.in-Choice.is ∙ rw c.in-Some-more.is refl) (rw c.deref-in-Choice.ensures.value at c.in_ok-push_of_alternatives-in-Choice.ensures))
    (rw c.deref-in-Some-more.ensures.value at c.push_of_alternatives-in-Some-more.ensures)
