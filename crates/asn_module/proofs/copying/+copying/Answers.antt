use Rattle.std.proofs.Common.{◌≡◌, ◌∙◌, refl, map, drop, [], sym, rules}
use Rattle.std.proofs.lemmas.List.{drop_all}
use Rattle.asn_values.specs.View.{part_of_field, branch_of}
use Rattle.asn_module.proofs.Lists.{before_none, before_no_alternatives}
use Rattle.asn_module.proofs.Copies.{field_copied, alternative_copied, sequence_copied, choice_copied}
use Rattle.asn_module.proofs.copying.+copying.Goals as goal

pub copy_fields-loop-field-preserved : goal.copy_fields-loop-field-preserved
copy_fields-loop-field-preserved t c =
    let l = c.loop-field in
    field_copied l.copies.items c.args.fields.now c.push.new.self.items (record { name = c.in_ok-name.name; ty = c.in_ok-ty.ty; need = c.copy_need.result }) c.field-item.result l.field-index _
    c.loop-field-test.true c.field-item.is c.in_ok-push.ensures.items (search rules) c.copy_need.ensures c.in_ok-ty.ensures l.invariant

pub copy_fields-returns : goal.copy_fields-returns
copy_fields-returns t c =
    let l = c.loop-field in
    let empty : drop l.field-index c.args.fields.now ≡ [] = drop_all l.field-index c.args.fields.now c.loop-field-test.false in
    sym (before_none (map part_of_field l.copies.items)) ∙ (rw empty at l.invariant)

pub copy_alternatives-loop-alternative-preserved : goal.copy_alternatives-loop-alternative-preserved
copy_alternatives-loop-alternative-preserved t c =
    let l = c.loop-alternative in
    alternative_copied l.copies.items c.args.alternatives.now c.push.new.self.items (record { name = c.in_ok-name.name; ty = c.in_ok-ty.ty }) c.alternative-item.result l.alternative-index _
    c.loop-alternative-test.true c.alternative-item.is c.in_ok-push.ensures.items (search rules) c.in_ok-ty.ensures l.invariant

pub copy_alternatives-returns : goal.copy_alternatives-returns
copy_alternatives-returns t c =
    let l = c.loop-alternative in
    let empty : drop l.alternative-index c.args.alternatives.now ≡ [] = drop_all l.alternative-index c.args.alternatives.now c.loop-alternative-test.false in
    sym (before_no_alternatives (map branch_of l.copies.items)) ∙ (rw empty at l.invariant)

pub copy_type-returns-in_ok-more-in-Some-ext : goal.copy_type-returns-in_ok-more-in-Some-ext
copy_type-returns-in_ok-more-in-Some-ext t c =
    sequence_copied c.args.ty.now c.in-Seq.root c.in-Some-ext.more c.in_ok-root-in-Seq.root c.in_ok-more-in-Some-ext.more (c.in-Seq.is ∙ rw c.in-Some-ext.is refl)
    (rw c.deref-in-Seq.ensures.value at c.in_ok-root-in-Seq.ensures) (rw c.deref-in-Some-ext.ensures.value at c.in_ok-more-in-Some-ext.ensures)

pub copy_type-returns-in_ok-more-in-Some-ext-2 : goal.copy_type-returns-in_ok-more-in-Some-ext-2
copy_type-returns-in_ok-more-in-Some-ext-2 t c =
    choice_copied c.args.ty.now c.in-Choice.root c.in-Some-ext-2.more c.in_ok-root-in-Choice.root c.in_ok-more-in-Some-ext-2.more (c.in-Choice.is ∙ rw c.in-Some-ext-2.is refl)
    (rw c.deref-in-Choice.ensures.value at c.in_ok-root-in-Choice.ensures) (rw c.deref-in-Some-ext-2.ensures.value at c.in_ok-more-in-Some-ext-2.ensures)
