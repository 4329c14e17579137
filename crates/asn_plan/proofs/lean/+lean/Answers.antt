use Rattle.std.proofs.Common.{◌≡◌, ◌∙◌, ◌∷◌, [], map, take, Some, refl, sym, ap}
use Rattle.std.proofs.lemmas.List.{map-append}
use Rattle.asn_values.specs.Shape.{Fields, Alternatives, sequence, marked, choice, marked_choice}
use Rattle.asn_values.specs.View.{shape_of, part_of_field, fields_seen, alternatives_seen, alternatives_of, branch_of, more_alternatives_of}
use Rattle.asn_values.proofs.Views.{shape_of-Seq, shape_of-Choice, choice_of_alternatives}
use Rattle.asn_walk.proofs.Parts.{marked_type}
use Rattle.asn_plan.specs.Lean.{lean, lean_root, lean_each, lean_alternatives}
use Rattle.asn_plan.proofs.Growing.{branch_next}
use Rattle.asn_plan.proofs.LeanTypes.{one_kept, one_left, kept_next, left_next, each_next, all_done, alternatives_next}
use Rattle.asn_plan.proofs.lean.+lean.Goals.{lean_root-then-not-is_left_out+in_ok-lean_field+in_ok-push, lean_root-else-not-is_left_out}
use Rattle.asn_plan.proofs.lean.+lean.Goals as goal

pub lean_each-loop-field-preserved : goal.lean_each-loop-field-preserved
lean_each-loop-field-preserved t c =
    rw c.in_ok-push.ensures.items (one_kept c.args.single (lean_each c.args.single) c.loop-field.kept.items c.in_ok-lean_field.field-0 c.field-item.result c.args.fields.now c.loop-field.field-index (lean_each c.args.single (fields_seen c.args.fields.now)) c.loop-field-test.true c.field-item.is c.in_ok-lean_field.ensures (λ rest. each_next c.args.single (part_of_field c.field-item.result) rest) c.loop-field.invariant)

pub lean_each-returns : goal.lean_each-returns
lean_each-returns t c =
    all_done (lean_each c.args.single) c.loop-field.kept.items c.args.fields.now c.loop-field.field-index (lean_each c.args.single (fields_seen c.args.fields.now)) refl c.loop-field-test.false c.loop-field.invariant

pub lean_root-loop-field-preserved : goal.lean_root-loop-field-preserved
lean_root-loop-field-preserved t c =
    let x = c.field-item.result in
    let all = lean_root c.args.single (fields_seen c.args.fields.now) in
    elim c.if-not-is_left_out.branch [
      | lean_root-then-not-is_left_out+in_ok-lean_field+in_ok-push w ↦ rw (w.kept-is, w.in_ok-push.ensures.items) (one_kept c.args.single (lean_root c.args.single) c.loop-field.kept.items w.in_ok-lean_field.field-0 x c.args.fields.now c.loop-field.field-index all c.loop-field-test.true c.field-item.is w.in_ok-lean_field.ensures (λ rest. kept_next c.args.single (part_of_field x) rest (sym c.is_left_out.ensures ∙ w.if-not-is_left_out.true)) c.loop-field.invariant)
      | lean_root-else-not-is_left_out w ↦ rw w.kept-is (one_left (lean_root c.args.single) c.loop-field.kept.items x c.args.fields.now c.loop-field.field-index all c.loop-field-test.true c.field-item.is (λ rest. left_next c.args.single (part_of_field x) rest (sym c.is_left_out.ensures ∙ w.if-not-is_left_out.false)) c.loop-field.invariant)
    ]

pub lean_root-returns : goal.lean_root-returns
lean_root-returns t c =
    all_done (lean_root c.args.single) c.loop-field.kept.items c.args.fields.now c.loop-field.field-index (lean_root c.args.single (fields_seen c.args.fields.now)) refl c.loop-field-test.false c.loop-field.invariant

pub lean_of-returns-in_ok-more-in-Seq : goal.lean_of-returns-in_ok-more-in-Seq
lean_of-returns-in_ok-more-in-Seq t c =
    let xs = c.as_slice.result.now in
    let ys = c.as_slice-in-Seq.result.now in
    let rs = c.in_ok-root-in-Seq.root in
    let ms = c.in_ok-more-in-Seq.more in
    let is = marked_type c.args.ty.now c.in-Seq.root c.in-Seq.ext c.in-Some.more xs ys c.in-Seq.is c.in-Some.is c.as_slice.ensures.value c.as_slice-in-Seq.ensures.value in
    shape_of-Seq rs (Some ms) ∙ ap (λ (fs : Fields). sequence fs (marked (fields_seen ms.items))) c.in_ok-root-in-Seq.ensures ∙ ap (λ (fs : Fields). sequence (lean_root c.args.single (fields_seen xs)) (marked fs)) c.in_ok-more-in-Seq.ensures ∙ sym (ap (lean c.args.single) is)

pub lean_of-returns-in_ok-more-in-Choice : goal.lean_of-returns-in_ok-more-in-Choice
lean_of-returns-in_ok-more-in-Choice t c =
    let xs = c.as_slice-in-Choice.result.now in
    let ys = c.as_slice-in-Choice-2.result.now in
    let rs = c.in_ok-root-in-Choice.root in
    let ms = c.in_ok-more-in-Choice.more in
    let is : shape_of c.args.ty.now ≡ choice (alternatives_seen xs) (marked_choice (alternatives_seen ys)) = choice_of_alternatives c.args.ty.now c.in-Choice.root c.in-Choice.ext xs c.in-Choice.is c.as_slice-in-Choice.ensures.value ∙ ap (λ m. choice (alternatives_seen xs) m) (ap more_alternatives_of c.in-Some-ext.is ∙ ap (λ l. marked_choice (alternatives_seen l)) (sym c.as_slice-in-Choice-2.ensures.value)) in
    shape_of-Choice rs (Some ms) ∙ ap (λ (a : Alternatives). choice a (marked_choice (alternatives_seen ms.items))) c.in_ok-root-in-Choice.ensures ∙ ap (λ (a : Alternatives). choice (lean_alternatives c.args.single (alternatives_seen xs)) (marked_choice a)) c.in_ok-more-in-Choice.ensures ∙ sym (ap (lean c.args.single) is)

pub lean_alternatives-loop-alternative-preserved : goal.lean_alternatives-loop-alternative-preserved
lean_alternatives-loop-alternative-preserved t c =
    let x = c.alternative-item.result in
    let kept = c.loop-alternative.kept.items in
    let a = c.in_ok-lean_alternative.field-0 in
    rw (branch_next c.args.alternatives.now c.loop-alternative.alternative-index x c.loop-alternative-test.true c.alternative-item.is, c.in_ok-push.ensures.items) (ap alternatives_of (map-append branch_of kept (a ∷ [])) ∙ alternatives_next c.args.single (map branch_of kept) (map branch_of (take c.loop-alternative.alternative-index c.args.alternatives.now)) (branch_of a) (branch_of x) c.loop-alternative.invariant c.in_ok-lean_alternative.ensures)
