use Rattle.std.proofs.Common.{◌∙◌, ◌+◌, rules, ap, sym, subst, map, option_map, vec_len, refl, arith}
use Rattle.std.proofs.lemmas.Grind.{common_steps}
use Rattle.asn_values.specs.declared.types.Alt.{Alt}
use Rattle.asn_values.specs.declared.types.AsnType.{the_lemmas}
use Rattle.asn_values.specs.declared.value.Value.{Value}
use Rattle.asn_values.specs.declared.value.Value.TheVariants as value
use Rattle.asn_values.specs.Datum.{alternative}
use Rattle.asn_values.specs.Fits.{Fits}
use Rattle.asn_values.specs.Profile.{InProfile}
use Rattle.asn_values.specs.Shape.{sequence, sequence_of}
use Rattle.asn_values.specs.View.{shape_of, datum_of, size_range_of, fields_seen, more_fields_of}
use Rattle.asn_values.proofs.InnerTypes.{element_of_profile}
use Rattle.asn_values.proofs.Parts.{components_of_profile}
use Rattle.asn_values.proofs.Views.{sequence_of_fields, list_of_elements, datum_of-Choice}
use Rattle.asn_walk.proofs.Parts.{marked_type, added_of_profile, good_at, some_root, few_root, few_all, roots_good, additions_good}
use Rattle.asn_examples.proofs.Adding.{adds_more, left_more, closed_fits, marked_fits, list_fits, root_chosen, added_chosen, chosen_at}
use Rattle.asn_examples.proofs.Numbers.{list_size}
use Rattle.asn_examples.proofs.parts.+some_value.Goals as goal

pub chosen-some_value-requires : goal.chosen-some_value-requires
chosen-some_value-requires t c =
    (search (rules, the_lemmas), good_at c.args.alternatives.now c.below-index.result c.index-alternatives-index.result c.requires.of_profile (omega (arith, c.below-index.ensures)))

pub chosen-returns : goal.chosen-returns
chosen-returns t c =
    let f : Fits (shape_of c.index-alternatives-index.result.ty) (datum_of c.in_ok-made.made) = subst (λ (a : Alt). Fits (shape_of a.ty) (datum_of c.in_ok-made.made)) (sym c.index-alternatives-index.is) c.in_ok-made.ensures in
    chosen_at c.args.alternatives.now c.args.first c.below-index.result c.index-alternatives-index.result (datum_of c.in_ok-made.made) (datum_of (value.Choice (c.args.first + c.below-index.result) c.in_ok-new.field-0)) (omega (arith, c.below-index.ensures))
    c.index-alternatives-index.is f (datum_of-Choice (c.args.first + c.below-index.result) c.in_ok-new.field-0 ∙ ap (λ (x : Value). alternative (c.args.first + c.below-index.result) (datum_of x)) c.in_ok-new.ensures.ok)

pub push_entries-loop-field-preserved : goal.push_entries-loop-field-preserved
push_entries-loop-field-preserved t c = record {
  left = left_more c.args.fields.now c.loop-field.field-index c.field-item.result c.loop-field-test.true c.field-item.is c.loop-field.invariant.left;
  made = adds_more c.args.fields.now c.loop-field.field-index c.field-item.result (map (option_map datum_of) c.args.entries.now.items) c.loop-field.entries.items c.push.new.self.items c.in_ok-made.made c.loop-field-test.true c.field-item.is c.in_ok-push.ensures.items c.in_ok-made.ensures c.loop-field.invariant.made;
}

pub some_value-push_entries-requires : goal.some_value-push_entries-requires
some_value-push_entries-requires t c =
    let is = sequence_of_fields c.args.ty.now c.in-Seq.root c.in-Seq.ext c.as_slice-root.result.now c.in-Seq.is c.as_slice-root.ensures.value in
    let good : InProfile (sequence (fields_seen c.as_slice-root.result.now) (more_fields_of c.in-Seq.ext)) = rw is at c.requires in
    (search (rules, the_lemmas), components_of_profile _ _ good)

pub some_value-push_entries-requires-in-Seq : goal.some_value-push_entries-requires-in-Seq
some_value-push_entries-requires-in-Seq t c =
    let is = marked_type c.args.ty.now c.in-Seq.root c.in-Seq.ext c.in-Some.additions c.as_slice-root.result.now c.as_slice-additions.result.now c.in-Seq.is c.in-Some.is c.as_slice-root.ensures.value c.as_slice-additions.ensures.value in
    (search (rules, the_lemmas), added_of_profile c.as_slice-additions.result.now is c.requires)

pub some_value-returns-in_default : goal.some_value-returns-in_default
some_value-returns-in_default t c =
    closed_fits c.args.ty.now c.in-Seq.root c.in-Seq.ext c.as_slice-root.result.now c.push_entries.new.entries c.in-Seq.is c.in_default.is c.as_slice-root.ensures.value (rw c.new-entries.ensures.items at c.in_ok-push_entries-in-Seq.ensures)

pub some_value-returns-in_ok-push_entries-in-Seq-2 : goal.some_value-returns-in_ok-push_entries-in-Seq-2
some_value-returns-in_ok-push_entries-in-Seq-2 t c =
    marked_fits c.args.ty.now c.in-Seq.root c.in-Seq.ext c.in-Some.additions c.as_slice-root.result.now c.as_slice-additions.result.now (map (option_map datum_of) c.push_entries.new.entries.items) c.push_entries-in-Seq.new.entries
    c.in-Seq.is c.in-Some.is c.as_slice-root.ensures.value c.as_slice-additions.ensures.value (rw c.new-entries.ensures.items at c.in_ok-push_entries-in-Seq.ensures) c.in_ok-push_entries-in-Seq-2.ensures

pub some_value-length_of-count-requires : goal.some_value-length_of-count-requires
some_value-length_of-count-requires t c =
    let is = list_of_elements c.args.ty.now c.in-SeqOf.element.value c.in-SeqOf.element c.in-SeqOf.size c.in-SeqOf.is refl in
    let good : InProfile (sequence_of (shape_of c.in-SeqOf.element.value) (size_range_of c.in-SeqOf.size)) = rw is at c.requires in
    list_size _ _ good

pub some_value-elements-requires : goal.some_value-elements-requires
some_value-elements-requires t c =
    let is = list_of_elements c.args.ty.now c.deref.result.now c.in-SeqOf.element c.in-SeqOf.size c.in-SeqOf.is c.deref.ensures in
    let good : InProfile (sequence_of (shape_of c.deref.result.now) (size_range_of c.in-SeqOf.size)) = rw is at c.requires in
    (search (rules, the_lemmas), element_of_profile _ _ good)

pub some_value-returns-in_ok-elements-in-SeqOf : goal.some_value-returns-in_ok-elements-in-SeqOf
some_value-returns-in_ok-elements-in-SeqOf t c =
    list_fits c.args.ty.now c.deref.result.now c.in-SeqOf.element c.in-SeqOf.size c.in_ok-elements-in-SeqOf.field-0 c.length_of-count.result c.in-SeqOf.is c.deref.ensures c.length_of-count.ensures c.in_ok-elements-in-SeqOf.ensures.count c.in_ok-elements-in-SeqOf.ensures.fit

pub some_value-chosen-requires : goal.some_value-chosen-requires
some_value-chosen-requires t c =
    let few = few_all c.args.ty.now c.in-Choice.root c.in-Choice.ext c.in-Choice.is c.requires c.len.result c.len.ensures c.in-Some-ext.additions c.in-Some-ext.is in
    (search (rules, the_lemmas), (additions_good c.args.ty.now c.in-Choice.root c.in-Choice.ext c.in-Choice.is c.requires c.in-Some-ext.additions c.deref-in-Some-ext.result.now c.in-Some-ext.is c.deref-in-Some-ext.ensures.value, (grind (arith, common_steps), omega (arith, few, c.deref-in-Some-ext.ensures.len))))

pub some_value-chosen-requires-in_default-ext : goal.some_value-chosen-requires-in_default-ext
some_value-chosen-requires-in_default-ext t c =
    let some = some_root c.args.ty.now c.in-Choice.root c.in-Choice.ext c.in-Choice.is c.requires (vec_len c.in-Choice.root) refl in
    let few = few_root c.args.ty.now c.in-Choice.root c.in-Choice.ext c.in-Choice.is c.requires (vec_len c.in-Choice.root) refl in
    (search (rules, the_lemmas), (roots_good c.args.ty.now c.in-Choice.root c.in-Choice.ext c.in-Choice.is c.requires c.deref-in_default-ext.result.now c.deref-in_default-ext.ensures.value, (omega (arith, some, c.deref-in_default-ext.ensures.len), omega (arith, few, c.deref-in_default-ext.ensures.len))))

pub some_value-returns-in_ok-made-in-Some-ext : goal.some_value-returns-in_ok-made-in-Some-ext
some_value-returns-in_ok-made-in-Some-ext t c =
    added_chosen c.args.ty.now c.in-Choice.root c.in-Choice.ext c.in-Choice.is c.in-Some-ext.additions c.deref-in-Some-ext.result.now c.len.result c.in_ok-made-in-Some-ext.made c.in-Some-ext.is c.deref-in-Some-ext.ensures.value (c.len.ensures ∙ c.in-Choice.root.ok.0) c.in_ok-made-in-Some-ext.ensures

pub some_value-returns-in_ok-made-in_default-ext : goal.some_value-returns-in_ok-made-in_default-ext
some_value-returns-in_ok-made-in_default-ext t c =
    root_chosen c.args.ty.now c.in-Choice.root c.in-Choice.ext c.in-Choice.is c.deref-in_default-ext.result.now 0 c.in_ok-made-in_default-ext.made c.deref-in_default-ext.ensures.value refl c.in_ok-made-in_default-ext.ensures
