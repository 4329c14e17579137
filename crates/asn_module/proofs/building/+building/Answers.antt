use Rattle.std.proofs.Common.{◌≡◌, ◌∙◌, refl, map, drop, [], ap, Some, rules}
use Rattle.std.proofs.lemmas.List.{drop_all}
use Rattle.asn_notation.specs.declared.notation.TypeNotation.{the_lemmas}
use Rattle.asn_values.specs.View.{shape_of, part_of_field, branch_of}
use Rattle.asn_values.proofs.Views.{shape_of-Bool, shape_of-Null, shape_of-Utf8, shape_of-Seq, shape_of-Choice}
use Rattle.asn_notation.proofs.Views.{tree_view_boolean, tree_view_null, tree_view_utf8, tree_view_integer, tree_view_enumerated, tree_view_text, tree_view_sequence, tree_view_sequence_of, tree_view_choice, tree_view_reference}
use Rattle.asn_module.specs.Known.{look, built_view, known_view}
use Rattle.asn_module.specs.Meaning.{meant}
use Rattle.asn_module.proofs.Lists.{before_none, before_no_alternatives}
use Rattle.asn_module.proofs.PlainTypes.{plain_of_profile}
use Rattle.asn_module.proofs.Copies.{field_built, alternative_built, sequence_built, choice_built, reference_meant}
use Rattle.asn_module.proofs.building.+building.Goals as goal

pub build_fields-loop-component-preserved : goal.build_fields-loop-component-preserved
build_fields-loop-component-preserved t c =
    let l = c.loop-component in
    field_built (look c.args.names.now) l.fields.items c.args.components.now c.push.new.self.items (record { name = c.in_ok-name.name; ty = c.in_ok-built.built.ty; need = c.need-need.result }) c.component-item.result l.component-index _ (built_view c.in_ok-built.built)
    c.loop-component-test.true c.component-item.is c.in_ok-push.ensures.items (search rules) c.in_ok-built.ensures refl c.need-need.ensures l.invariant

pub build_fields-returns : goal.build_fields-returns
unfolding meant
build_fields-returns t c =
    let l = c.loop-component in
    let empty : drop l.component-index c.args.components.now ≡ [] = drop_all l.component-index c.args.components.now c.loop-component-test.false in
    (rw empty at l.invariant) ∙ ap Some (before_none (map part_of_field l.fields.items))

pub build_alternatives-returns : goal.build_alternatives-returns
unfolding meant
build_alternatives-returns t c =
    let l = c.loop-alternative in
    let empty : drop l.alternative-index c.args.alternatives.now ≡ [] = drop_all l.alternative-index c.args.alternatives.now c.loop-alternative-test.false in
    (rw empty at l.invariant) ∙ ap Some (before_no_alternatives (map branch_of l.built.items))

pub build_alternatives-loop-alternative-preserved : goal.build_alternatives-loop-alternative-preserved
build_alternatives-loop-alternative-preserved t c =
    let l = c.loop-alternative in
    alternative_built (look c.args.names.now) l.built.items c.args.alternatives.now c.push.new.self.items (record { name = c.in_ok-name.name; ty = c.in_ok-inner.inner.ty }) c.alternative-item.result l.alternative-index _ (built_view c.in_ok-inner.inner)
    c.loop-alternative-test.true c.alternative-item.is c.in_ok-push.ensures.items (search rules) c.in_ok-inner.ensures refl l.invariant

pub build-returns-in_ok-more-in-Some : goal.build-returns-in_ok-more-in-Some
build-returns-in_ok-more-in-Some t c =
    sequence_built (look c.args.names.now) c.args.ty.now c.in-Sequence.root c.in-Some.more c.in_ok-root-in-Sequence.root c.in_ok-more-in-Some.more c.free-in-Some.result
    (c.in-Sequence.is ∙ rw c.in-Some.is refl) (rw c.deref-in-Sequence.ensures.value at c.in_ok-root-in-Sequence.ensures) (rw c.deref-in-Some.ensures.value at c.in_ok-more-in-Some.ensures) c.free-in-Some.ensures

pub build-returns-in_ok-more-in-Some-more : goal.build-returns-in_ok-more-in-Some-more
build-returns-in_ok-more-in-Some-more t c =
    choice_built (look c.args.names.now) c.args.ty.now c.in-Choice.root c.in-Some-more.more c.in_ok-root-in-Choice.root c.in_ok-more-in-Some-more.more c.free-in-Some-more.result
    (c.in-Choice.is ∙ rw c.in-Some-more.is refl) (rw c.deref-in-Choice.ensures.value at c.in_ok-root-in-Choice.ensures) (rw c.deref-in-Some-more.ensures.value at c.in_ok-more-in-Some-more.ensures) c.free-in-Some-more.ensures

pub build-returns-in_ok-copy-in-Some-find : goal.build-returns-in_ok-copy-in-Some-find
build-returns-in_ok-copy-in-Some-find t c =
    let m = known_view c.in-Some-find.known.now in
    let same = reference_meant (look c.args.names.now) c.args.ty.now c.in-Reference.name c.in-Reference.constraint c.in-Reference.left m c.in-Reference.is c.in-Some-find.ensures in
    let known = c.in-Some-find.known.now.ty in
    let copied : shape_of c.in_ok-copy-in-Some-find.copy ≡ shape_of known = (rw c.get.ensures.same at c.in_ok-copy-in-Some-find.ensures) ∙ plain_of_profile (shape_of known) c.get.ensures.of_profile in
    rw same (rw copied at c.constrained.ensures)

pub build-build_fields-requires-in-Some : goal.build-build_fields-requires-in-Some
build-build_fields-requires-in-Some t c = (search (rules, the_lemmas), c.requires)

pub build-build_alternatives-requires-in-Some-more : goal.build-build_alternatives-requires-in-Some-more
build-build_alternatives-requires-in-Some-more t c = (search (rules, the_lemmas), c.requires)

pub build-returns-in-Boolean : goal.build-returns-in-Boolean
unfolding meant
build-returns-in-Boolean t c =
    rw (c.in-Boolean.is, tree_view_boolean, c.free.ensures, shape_of-Bool) refl

pub build-returns-in-Null : goal.build-returns-in-Null
unfolding meant
build-returns-in-Null t c =
    rw (c.in-Null.is, tree_view_null, c.free-in-Null.ensures, shape_of-Null) refl

pub build-returns-in-Utf8 : goal.build-returns-in-Utf8
unfolding meant
build-returns-in-Utf8 t c =
    rw (c.in-Utf8.is, tree_view_utf8, c.free-in-Utf8.ensures, shape_of-Utf8) refl

pub build-returns-in-Integer : goal.build-returns-in-Integer
unfolding meant
build-returns-in-Integer t c =
    rw (c.in-Integer.is, tree_view_integer, c.integer.ensures) refl

pub build-returns-in-Text : goal.build-returns-in-Text
unfolding meant
build-returns-in-Text t c =
    rw (c.in-Text.is, tree_view_text, c.string.ensures) refl

pub build-returns-in-Enumerated : goal.build-returns-in-Enumerated
unfolding meant
build-returns-in-Enumerated t c =
    rw (c.in-Enumerated.is, tree_view_enumerated) (rw c.deref.ensures.value at c.enumerated.ensures)

pub build-returns-in-None : goal.build-returns-in-None
unfolding meant
build-returns-in-None t c =
    rw (c.in-Sequence.is, c.in-None.is, tree_view_sequence, rw c.deref-in-Sequence.ensures.value at c.in_ok-root-in-Sequence.ensures, c.free-in-None.ensures, shape_of-Seq) refl

pub build-returns-in-None-more : goal.build-returns-in-None-more
unfolding meant
build-returns-in-None-more t c =
    rw (c.in-Choice.is, c.in-None-more.is, tree_view_choice, rw c.deref-in-Choice.ensures.value at c.in_ok-root-in-Choice.ensures, c.free-in-None-more.ensures, shape_of-Choice) refl

pub build-returns-in_ok-element-in-SequenceOf : goal.build-returns-in_ok-element-in-SequenceOf
unfolding meant
build-returns-in_ok-element-in-SequenceOf t c =
    rw (c.in-SequenceOf.is, tree_view_sequence_of, rw c.deref-in-SequenceOf.ensures at c.in_ok-element-in-SequenceOf.ensures) c.list.ensures

pub build-returns-in-None-find : goal.build-returns-in-None-find
unfolding meant
build-returns-in-None-find t c =
    λ _. rw (c.in-Reference.is, tree_view_reference, c.in-None-find.ensures) refl
