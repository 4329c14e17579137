use Rattle.std.proofs.Common.{[], refl, ◌∙◌, vec_len, rules}
use Rattle.std.specs.Prelude.{string_bytes}
use Rattle.asn_values.specs.View.{shape_of}
use Rattle.asn_values.proofs.Views.{shape_of-Utf8}
use Rattle.asn_notation.specs.declared.token.Word.TheVariants as words
use Rattle.asn_notation.specs.Token.{word}
use Rattle.asn_notation.specs.Grammar.{written}
use Rattle.asn_module.specs.Printing.{type_printed}
use Rattle.asn_module.proofs.Adding.{adds_none, ends_token, field_written, alternative_written, sequence_written, marked_sequence_written, list_written, choice_written, marked_choice_written}
use Rattle.asn_module.proofs.printing.+printing.Goals as goal

pub write_components-loop-field-preserved : goal.write_components-loop-field-preserved
write_components-loop-field-preserved t c =
    let l = c.loop-field in
    field_written c.args.fields.now l.field-index c.field-item.result l.comma (string_bytes l.out) _ _ _ _ _
    c.loop-field-test.true c.field-item.is c.in_ok-write_comma.ensures (rw c.as_str.ensures.value at c.in_ok-write_token.ensures) c.in_ok-write_type.ensures c.in_ok-write_need.ensures l.invariant

pub write_alternatives-loop-alternative-preserved : goal.write_alternatives-loop-alternative-preserved
write_alternatives-loop-alternative-preserved t c =
    let l = c.loop-alternative in
    alternative_written c.args.alternatives.now l.alternative-index c.alternative-item.result l.comma (string_bytes l.out) _ _ _ _
    c.loop-alternative-test.true c.alternative-item.is c.in_ok-write_comma.ensures (rw c.as_str.ensures.value at c.in_ok-write_token.ensures) c.in_ok-write_type.ensures l.invariant

pub write_type-returns-in-Utf8 : goal.write_type-returns-in-Utf8
unfolding written
write_type-returns-in-Utf8 t c =
    ends_token c.write_token-in-Utf8.result [] (written (type_printed (shape_of c.args.ty.now))) (word words.Utf8String) _ _ _ (rw (c.in-Utf8.is, shape_of-Utf8) refl) (adds_none _) c.write_token-in-Utf8.ensures

pub write_type-returns-in-None : goal.write_type-returns-in-None
write_type-returns-in-None t c =
    sequence_written c.write_token-in-None.result c.args.ty.now c.in-Seq.root _ _ _ _ _ (c.in-Seq.is ∙ rw c.in-None.is refl) c.in_ok-write_token-in-Seq.ensures (c.in_ok-write_token-in-Seq-2).ensures
    (rw c.deref-in-Seq.ensures.value at (c.in_ok-write_components-in-Seq).ensures) c.write_token-in-None.ensures

pub write_type-returns-in_ok-write_components-in-Some : goal.write_type-returns-in_ok-write_components-in-Some
write_type-returns-in_ok-write_components-in-Some t c =
    marked_sequence_written c.write_token-in-Some.result c.args.ty.now c.in-Seq.root c.in-Some.more c.is_empty.result (vec_len c.in-Seq.root) _ _ _ _ _ _ _ (c.in-Seq.is ∙ rw c.in-Some.is refl) c.is_empty.ensures (search rules)
    c.in_ok-write_token-in-Seq.ensures (c.in_ok-write_token-in-Seq-2).ensures (rw c.deref-in-Seq.ensures.value at (c.in_ok-write_components-in-Seq).ensures)
    c.in_ok-write_dots-in-Some.ensures (rw c.deref-in-Some.ensures.value at (c.in_ok-write_components-in-Some).ensures) c.write_token-in-Some.ensures

pub write_type-returns-in_ok-write_token-in-SeqOf-2 : goal.write_type-returns-in_ok-write_token-in-SeqOf-2
write_type-returns-in_ok-write_token-in-SeqOf-2 t c =
    list_written c.write_type.result c.args.ty.now c.deref-in-SeqOf.result.now c.in-SeqOf.element c.in-SeqOf.size _ _ _ _ _ c.in-SeqOf.is c.deref-in-SeqOf.ensures
    c.in_ok-write_token-in-SeqOf.ensures c.in_ok-write_size-in-SeqOf.ensures (c.in_ok-write_token-in-SeqOf-2).ensures c.write_type.ensures

pub write_type-returns-in-None-ext : goal.write_type-returns-in-None-ext
write_type-returns-in-None-ext t c =
    choice_written (c.write_token-in-None-ext).result c.args.ty.now c.in-Choice.root _ _ _ _ _ (c.in-Choice.is ∙ rw (c.in-None-ext).is refl) c.in_ok-write_token-in-Choice.ensures (c.in_ok-write_token-in-Choice-2).ensures
    (rw c.deref-in-Choice.ensures.value at (c.in_ok-write_alternatives-in-Choice).ensures) (c.write_token-in-None-ext).ensures

pub write_type-returns-in_ok-write_alternatives-in-Some-ext : goal.write_type-returns-in_ok-write_alternatives-in-Some-ext
write_type-returns-in_ok-write_alternatives-in-Some-ext t c =
    marked_choice_written (c.write_token-in-Some-ext).result c.args.ty.now c.in-Choice.root (c.in-Some-ext).more _ _ _ _ _ _ _ (c.in-Choice.is ∙ rw (c.in-Some-ext).is refl)
    c.in_ok-write_token-in-Choice.ensures (c.in_ok-write_token-in-Choice-2).ensures (rw c.deref-in-Choice.ensures.value at (c.in_ok-write_alternatives-in-Choice).ensures)
    (c.in_ok-write_dots-in-Some-ext).ensures (rw (c.deref-in-Some-ext).ensures.value at (c.in_ok-write_alternatives-in-Some-ext).ensures) (c.write_token-in-Some-ext).ensures
