use Rattle.std.proofs.Common.{◌≡◌, ◌<◌, ◌∙◌, rules, ap, sym, subst, arith}
use Rattle.asn_values.specs.declared.types.Alt.{Alt}
use Rattle.asn_values.specs.declared.types.AsnType.{the_lemmas}
use Rattle.asn_values.specs.Profile.{InProfile}
use Rattle.asn_values.specs.Shape.{sequence, closed, marked, sequence_of}
use Rattle.asn_values.specs.View.{shape_of, size_range_of, fields_seen}
use Rattle.asn_values.proofs.InnerTypes.{element_of_profile}
use Rattle.asn_values.proofs.Parts.{components_of_profile}
use Rattle.asn_values.proofs.Views.{list_of_elements}
use Rattle.asn_walk.specs.Coding.{IsIndexWithin}
use Rattle.asn_walk.specs.Views.{index_seen}
use Rattle.asn_walk.proofs.ChoicesRead.{choice_few}
use Rattle.asn_walk.proofs.Decoding.{units_fill}
use Rattle.asn_walk.proofs.Listing.{list_size}
use Rattle.asn_walk.proofs.Parts.{few_components, marked_type, closed_type, added_of_profile, few_added, good_at, some_root, roots_good, additions_good, added_inside}
use Rattle.asn_fields.proofs.+walk.Goals as goal

pub choices::in_root-value-requires : goal.choices::in_root-value-requires
choices::in_root-value-requires g t c κs within =
    (search (rules, the_lemmas), (within.0, (within.1, (c.requires.at_unit, subst (λ (a : Alt). InProfile (shape_of a.ty)) (sym c.index-root-index.is) (good_at c.args.root.now c.args.index c.index-root-index.result c.requires.of_profile c.requires.inside)))))

pub choices::in_additions-open_type-requires : goal.choices::in_additions-open_type-requires
choices::in_additions-open_type-requires g t c κs within =
    (search (rules, the_lemmas), (within.0, (within.1, (c.requires.at_unit, subst (λ (a : Alt). InProfile (shape_of a.ty)) (sym c.index-added-index.is) (good_at c.args.added.now c.args.index c.index-added-index.result c.requires.of_profile c.requires.inside)))))

pub walk::open_type-complete-requires : goal.walk::open_type-complete-requires
walk::open_type-complete-requires g t c κs within =
    let os = c.as_slice-content.result.now in
    let over : g.R.ReadLeaves.rules.to_units c.over-inside.result ≡ g.R.ReadLeaves.rules.ruling.units os = ap g.R.ReadLeaves.rules.to_units c.over-inside.ensures ∙ c.keep_laws.ensures.over os c.are_octets.ensures in
    (search (rules, the_lemmas), (within.0, (within.1, (rw c.over-inside.ensures (c.keep_laws.ensures.begin os c.are_octets.ensures), (c.requires.of_profile, rw over (units_fill g.R.ReadLeaves.rules c.keep_laws.ensures os))))))

pub walk::value-root_fields-requires : goal.walk::value-root_fields-requires
walk::value-root_fields-requires g t c κs within =
    let is = closed_type c.args.ty.now c.in-Seq.root c.in-Seq.ext c.as_slice-root.result.now c.in-Seq.is c.in_default.is c.as_slice-root.ensures.value in
    let good : InProfile (sequence (fields_seen c.as_slice-root.result.now) closed) = rw is at c.requires.of_profile in
    (search (rules, the_lemmas), (within.0, (within.1, (c.requires.at_unit, (components_of_profile (fields_seen c.as_slice-root.result.now) closed good, few_components c.as_slice-root.result.now is c.requires.of_profile)))))

pub walk::value-root_fields-requires-in-Seq : goal.walk::value-root_fields-requires-in-Seq
walk::value-root_fields-requires-in-Seq g t c κs within =
    let is = marked_type c.args.ty.now c.in-Seq.root c.in-Seq.ext c.in-Some.additions c.as_slice-root.result.now c.as_slice-additions.result.now c.in-Seq.is c.in-Some.is c.as_slice-root.ensures.value c.as_slice-additions.ensures.value in
    let good : InProfile (sequence (fields_seen c.as_slice-root.result.now) (marked (fields_seen c.as_slice-additions.result.now))) = rw is at c.requires.of_profile in
    (search (rules, the_lemmas), (within.0, (within.1, (c.requires.at_unit, (components_of_profile (fields_seen c.as_slice-root.result.now) (marked (fields_seen c.as_slice-additions.result.now)) good, few_components c.as_slice-root.result.now is c.requires.of_profile)))))

pub walk::value-added_fields-requires : goal.walk::value-added_fields-requires
walk::value-added_fields-requires g t c κs within =
    let is = marked_type c.args.ty.now c.in-Seq.root c.in-Seq.ext c.in-Some.additions c.as_slice-root.result.now c.as_slice-additions.result.now c.in-Seq.is c.in-Some.is c.as_slice-root.ensures.value c.as_slice-additions.ensures.value in
    (search (rules, the_lemmas), (within.0, (within.1, (c.in_ok-extended-in-Seq.ensures, (added_of_profile c.as_slice-additions.result.now is c.requires.of_profile, few_added c.as_slice-additions.result.now is c.requires.of_profile)))))

pub walk::value-list-requires : goal.walk::value-list-requires
walk::value-list-requires g t c κs within =
    let element = shape_of c.deref.result.now in
    let s = size_range_of c.in-SeqOf.size in
    let is = list_of_elements c.args.ty.now c.deref.result.now c.in-SeqOf.element c.in-SeqOf.size c.in-SeqOf.is c.deref.ensures in
    let good : InProfile (sequence_of element s) = rw is at c.requires.of_profile in
    (search (rules, the_lemmas), (within.0, (within.1, (c.requires.at_unit, (element_of_profile element s good, list_size element s good)))))

pub walk::value-read_index-requires-clause-some : goal.walk::value-read_index-requires-clause-some
walk::value-read_index-requires-clause-some g t c =
    some_root c.args.ty.now c.in-Choice.root c.in-Choice.ext c.in-Choice.is c.requires.of_profile c.len-known.result c.len-known.ensures

pub walk::value-read_index-requires-clause-few : goal.walk::value-read_index-requires-clause-few
walk::value-read_index-requires-clause-few g t c =
    choice_few g.R.ReadLeaves.rules c.keep_laws.ensures c.args.ty.now c.in-Choice.root c.in-Choice.ext c.in-Choice.is c.requires.of_profile c.len-known.result c.len-known.ensures c.added_count.result c.added_count.ensures (g.R.ReadLeaves.rules.to_units c.args.units.now)

pub walk::value-in_root-requires : goal.walk::value-in_root-requires
walk::value-in_root-requires g t c κs lives =
    let within : IsIndexWithin c.len-known.result c.added_count.result (index_seen c.in_ok-index-in-Choice.field-0) = c.in_ok-index-in-Choice.ensures.done.spelt.fits in
    let inside : c.in-Root.index < c.len-known.result = rw c.in-Root.is at within in
    (search (rules, the_lemmas), (lives.0, (lives.1, (c.in_ok-index-in-Choice.ensures.at_unit, (roots_good c.args.ty.now c.in-Choice.root c.in-Choice.ext c.in-Choice.is c.requires.of_profile c.deref-in-Root.result.now c.deref-in-Root.ensures.value, omega (arith, inside, c.len-known.ensures, c.deref-in-Root.ensures.len))))))

pub walk::value-in_additions-requires : goal.walk::value-in_additions-requires
walk::value-in_additions-requires g t c κs lives =
    let within : IsIndexWithin c.len-known.result c.added_count.result (index_seen c.in_ok-index-in-Choice.field-0) = c.in_ok-index-in-Choice.ensures.done.spelt.fits in
    let inside = added_inside c.len-known.result c.added_count.result c.in-Choice.ext c.in-Some-ext.additions c.in_ok-index-in-Choice.field-0 c.in-Added.index c.added_count.ensures c.in-Some-ext.is c.in-Added.is within in
    (search (rules, the_lemmas), (lives.0, (lives.1, (c.in_ok-index-in-Choice.ensures.at_unit, (additions_good c.args.ty.now c.in-Choice.root c.in-Choice.ext c.in-Choice.is c.requires.of_profile c.in-Some-ext.additions c.deref-in-Added.result.now c.in-Some-ext.is c.deref-in-Added.ensures.value, rw c.deref-in-Added.ensures.len inside)))))
