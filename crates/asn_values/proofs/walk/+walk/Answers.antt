use Rattle.std.proofs.Common.{◌-◌, arith}
use Rattle.std.proofs.lemmas.Result.{err_from_is_err_and, IfOk-weaker, IfErr-weaker}
use Rattle.asn_values.specs.View.{shape_of}
use Rattle.asn_values.proofs.Components.{next_is_sound, all_passed, sequence_around, list_around, choice_around, simple_is_sound, list_sound, list_fault}
use Rattle.asn_values.proofs.Walks.{none_sound, sound_beside, fault_in_front, fault_after, sound_around, fault_around}
use Rattle.asn_values.proofs.walk.+walk.Goals as goal

pub check_type-returns-in-Bool-clause-sound : goal.check_type-returns-in-Bool-clause-sound
check_type-returns-in-Bool-clause-sound t c =
    simple_is_sound c.args.levels c.args.start c.args.ty.now c.in-Bool.is (omega arith) (omega arith) c.in_ok-check_node.ensures.faultless

pub check_fields-loop-field-preserved : goal.check_fields-loop-field-preserved
check_fields-loop-field-preserved t c =
    next_is_sound (λ f. shape_of f.ty) c.args.levels c.args.start c.loop-field.left c.args.fields.now c.loop-field.field-index
    c.in_ok-left.left c.field-item.result c.loop-field-test.true c.field-item.is c.loop-field.invariant c.in_ok-left.ensures.sound

pub check_fields-returns-clause-sound : goal.check_fields-returns-clause-sound
check_fields-returns-clause-sound t c =
    all_passed (λ f. shape_of f.ty) c.args.levels c.args.start c.loop-field.left c.args.fields.now c.loop-field.field-index c.loop-field-test.false c.loop-field.invariant

pub check_alternatives-loop-alternative-preserved : goal.check_alternatives-loop-alternative-preserved
check_alternatives-loop-alternative-preserved t c =
    next_is_sound (λ a. shape_of a.ty) c.args.levels c.args.start c.loop-alternative.left c.args.alternatives.now c.loop-alternative.alternative-index
    c.in_ok-left.left c.alternative-item.result c.loop-alternative-test.true c.alternative-item.is c.loop-alternative.invariant c.in_ok-left.ensures.sound

pub check_alternatives-returns-clause-sound : goal.check_alternatives-returns-clause-sound
check_alternatives-returns-clause-sound t c =
    all_passed (λ a. shape_of a.ty) c.args.levels c.args.start c.loop-alternative.left c.args.alternatives.now c.loop-alternative.alternative-index c.loop-alternative-test.false c.loop-alternative.invariant

-- a SEQUENCE around its components
pub check_type-returns-in_err-left-in-Seq-clause-fault : goal.check_type-returns-in_err-left-in-Seq-clause-fault
check_type-returns-in_err-left-in-Seq-clause-fault t c =
    let p = err_from_is_err_and c.from_residual-in_err-left-in-Seq.result c.from_residual-in_err-left-in-Seq.ensures.1 in
    let around = sequence_around c.args.ty.now c.in-Seq.root c.in-Seq.ext c.deref.result.now c.in-Seq.is c.deref.ensures.value in
    let bad = fault_in_front c.in_err-left-in-Seq.field-0.0 (c.args.levels - 1) (c.args.start - 1) _ _ c.in_err-left-in-Seq.ensures.fault in
    rw (p.1, p.2) (fault_around 1 c.args.levels c.args.start (shape_of c.args.ty.now) _ around (omega arith) (omega arith) c.in_err-left-in-Seq.field-0.0 bad)

pub check_type-returns-in-None-clause-sound : goal.check_type-returns-in-None-clause-sound
check_type-returns-in-None-clause-sound t c =
    let around = sequence_around c.args.ty.now c.in-Seq.root c.in-Seq.ext c.deref.result.now c.in-Seq.is c.deref.ensures.value in
    let good = sound_beside (c.args.levels - 1) (c.args.start - 1) _ _ _ _ c.in_ok-left-in-Seq.ensures.sound (none_sound (c.args.levels - 1) c.in_ok-left-in-Seq.left) in
    sound_around 1 c.args.levels c.args.start (shape_of c.args.ty.now) _ (rw c.in-None.is at around) (omega arith) (omega arith) (omega arith) c.in_ok-left-in-Seq.left
    c.in_ok-check_node.ensures.faultless good

pub check_type-returns-in-Some-clause-sound : goal.check_type-returns-in-Some-clause-sound
check_type-returns-in-Some-clause-sound t c =
    let around = sequence_around c.args.ty.now c.in-Seq.root c.in-Seq.ext c.deref.result.now c.in-Seq.is c.deref.ensures.value in
    let marked = rw (c.in-Some.is, ← c.deref-in-Some.ensures.value) at around in
    IfOk-weaker c.check_fields-in-Some.result _ _
    (λ left h. sound_around 1 c.args.levels c.args.start (shape_of c.args.ty.now) _ marked (omega arith) (omega arith) (omega arith) left c.in_ok-check_node.ensures.faultless
    (sound_beside (c.args.levels - 1) (c.args.start - 1) c.in_ok-left-in-Seq.left left _ _ c.in_ok-left-in-Seq.ensures.sound h))
    c.check_fields-in-Some.ensures.sound

pub check_type-returns-in-Some-clause-fault : goal.check_type-returns-in-Some-clause-fault
check_type-returns-in-Some-clause-fault t c =
    let around = sequence_around c.args.ty.now c.in-Seq.root c.in-Seq.ext c.deref.result.now c.in-Seq.is c.deref.ensures.value in
    let marked = rw (c.in-Some.is, ← c.deref-in-Some.ensures.value) at around in
    IfErr-weaker c.check_fields-in-Some.result _ _
    (λ f h. fault_around 1 c.args.levels c.args.start (shape_of c.args.ty.now) _ marked (omega arith) (omega arith) f
    (fault_after f (c.args.levels - 1) (c.args.start - 1) c.in_ok-left-in-Seq.left _ _ c.in_ok-left-in-Seq.ensures.sound h))
    c.check_fields-in-Some.ensures.fault

-- a SEQUENCE OF around its element
pub check_type-returns-in-SeqOf-clause-sound : goal.check_type-returns-in-SeqOf-clause-sound
check_type-returns-in-SeqOf-clause-sound t c =
    let around = list_around c.args.ty.now c.deref-in-SeqOf.result.now c.in-SeqOf.element c.in-SeqOf.field-1 c.in-SeqOf.is c.deref-in-SeqOf.ensures in
    let element = shape_of c.deref-in-SeqOf.result.now in
    IfOk-weaker c.check_type.result _ _
    (λ left. list_sound c.args.levels c.args.start (shape_of c.args.ty.now) element c.saturating_sub.result around (omega arith) (omega arith) c.saturating_sub.ensures left c.in_ok-check_node.ensures.faultless)
    c.check_type.ensures.sound

pub check_type-returns-in-SeqOf-clause-fault : goal.check_type-returns-in-SeqOf-clause-fault
check_type-returns-in-SeqOf-clause-fault t c =
    let around = list_around c.args.ty.now c.deref-in-SeqOf.result.now c.in-SeqOf.element c.in-SeqOf.field-1 c.in-SeqOf.is c.deref-in-SeqOf.ensures in
    let element = shape_of c.deref-in-SeqOf.result.now in
    IfErr-weaker c.check_type.result _ _
    (list_fault c.args.levels c.args.start (shape_of c.args.ty.now) element c.saturating_sub.result around (omega arith) (omega arith) c.saturating_sub.ensures)
    c.check_type.ensures.fault

-- a CHOICE around its alternatives
pub check_type-returns-in_err-left-in-Choice-clause-fault : goal.check_type-returns-in_err-left-in-Choice-clause-fault
check_type-returns-in_err-left-in-Choice-clause-fault t c =
    let p = err_from_is_err_and c.from_residual-in_err-left-in-Choice.result c.from_residual-in_err-left-in-Choice.ensures.1 in
    let around = choice_around c.args.ty.now c.in-Choice.root c.in-Choice.ext c.deref-in-Choice.result.now c.in-Choice.is c.deref-in-Choice.ensures.value in
    let bad = fault_in_front c.in_err-left-in-Choice.field-0.0 (c.args.levels - 1) (c.args.start - 1) _ _ c.in_err-left-in-Choice.ensures.fault in
    rw (p.1, p.2) (fault_around 1 c.args.levels c.args.start (shape_of c.args.ty.now) _ around (omega arith) (omega arith) c.in_err-left-in-Choice.field-0.0 bad)

pub check_type-returns-in-None-ext-clause-sound : goal.check_type-returns-in-None-ext-clause-sound
check_type-returns-in-None-ext-clause-sound t c =
    let around = choice_around c.args.ty.now c.in-Choice.root c.in-Choice.ext c.deref-in-Choice.result.now c.in-Choice.is c.deref-in-Choice.ensures.value in
    let good = sound_beside (c.args.levels - 1) (c.args.start - 1) _ _ _ _ c.in_ok-left-in-Choice.ensures.sound (none_sound (c.args.levels - 1) c.in_ok-left-in-Choice.left) in
    sound_around 1 c.args.levels c.args.start (shape_of c.args.ty.now) _ (rw c.in-None-ext.is at around) (omega arith) (omega arith) (omega arith) c.in_ok-left-in-Choice.left
    c.in_ok-check_node.ensures.faultless good

pub check_type-returns-in-Some-ext-clause-sound : goal.check_type-returns-in-Some-ext-clause-sound
check_type-returns-in-Some-ext-clause-sound t c =
    let around = choice_around c.args.ty.now c.in-Choice.root c.in-Choice.ext c.deref-in-Choice.result.now c.in-Choice.is c.deref-in-Choice.ensures.value in
    let marked = rw (c.in-Some-ext.is, ← c.deref-in-Some-ext.ensures.value) at around in
    IfOk-weaker c.check_alternatives-in-Some-ext.result _ _
    (λ left h. sound_around 1 c.args.levels c.args.start (shape_of c.args.ty.now) _ marked (omega arith) (omega arith) (omega arith) left c.in_ok-check_node.ensures.faultless
    (sound_beside (c.args.levels - 1) (c.args.start - 1) c.in_ok-left-in-Choice.left left _ _ c.in_ok-left-in-Choice.ensures.sound h))
    c.check_alternatives-in-Some-ext.ensures.sound

pub check_type-returns-in-Some-ext-clause-fault : goal.check_type-returns-in-Some-ext-clause-fault
check_type-returns-in-Some-ext-clause-fault t c =
    let around = choice_around c.args.ty.now c.in-Choice.root c.in-Choice.ext c.deref-in-Choice.result.now c.in-Choice.is c.deref-in-Choice.ensures.value in
    let marked = rw (c.in-Some-ext.is, ← c.deref-in-Some-ext.ensures.value) at around in
    IfErr-weaker c.check_alternatives-in-Some-ext.result _ _
    (λ f h. fault_around 1 c.args.levels c.args.start (shape_of c.args.ty.now) _ marked (omega arith) (omega arith) f
    (fault_after f (c.args.levels - 1) (c.args.start - 1) c.in_ok-left-in-Choice.left _ _ c.in_ok-left-in-Choice.ensures.sound h))
    c.check_alternatives-in-Some-ext.ensures.fault
