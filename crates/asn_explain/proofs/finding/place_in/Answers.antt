use Rattle.asn_values.specs.Profile.{InProfile}
use Rattle.asn_values.specs.Shape.{sequence, closed, marked, sequence_of}
use Rattle.asn_values.specs.View.{shape_of, size_range_of, fields_seen}
use Rattle.asn_values.proofs.InnerTypes.{element_of_profile}
use Rattle.asn_values.proofs.Parts.{components_of_profile}
use Rattle.asn_values.proofs.Views.{list_of_elements}
use Rattle.asn_walk.proofs.ChoicesRead.{choice_few}
use Rattle.asn_walk.proofs.Listing.{list_size}
use Rattle.asn_walk.proofs.Parts.{few_components, marked_type, closed_type, added_of_profile, few_added, some_root, roots_good, additions_good}
use Rattle.asn_explain.proofs.finding.place_in.Goals as goal

pub in_sequence-requires-clause-of_profile : goal.in_sequence-requires-clause-of_profile
in_sequence-requires-clause-of_profile g c =
    let is = closed_type c.args.ty.now c.in-Seq.root c.in-Seq.ext c.as_slice-root.result.now c.in-Seq.is c.in_default.is c.as_slice-root.ensures.value in
    let good : InProfile (sequence (fields_seen c.as_slice-root.result.now) closed) = rw is at c.requires.of_profile in
    components_of_profile (fields_seen c.as_slice-root.result.now) closed good

pub in_sequence-requires-clause-few : goal.in_sequence-requires-clause-few
in_sequence-requires-clause-few g c =
    let is = closed_type c.args.ty.now c.in-Seq.root c.in-Seq.ext c.as_slice-root.result.now c.in-Seq.is c.in_default.is c.as_slice-root.ensures.value in
    few_components c.as_slice-root.result.now is c.requires.of_profile

pub in_sequence-requires-in-Seq-clause-of_profile : goal.in_sequence-requires-in-Seq-clause-of_profile
in_sequence-requires-in-Seq-clause-of_profile g c =
    let is = marked_type c.args.ty.now c.in-Seq.root c.in-Seq.ext c.in-Some.additions c.as_slice-root.result.now c.as_slice-additions.result.now c.in-Seq.is c.in-Some.is c.as_slice-root.ensures.value c.as_slice-additions.ensures.value in
    let good : InProfile (sequence (fields_seen c.as_slice-root.result.now) (marked (fields_seen c.as_slice-additions.result.now))) = rw is at c.requires.of_profile in
    components_of_profile (fields_seen c.as_slice-root.result.now) (marked (fields_seen c.as_slice-additions.result.now)) good

pub in_sequence-requires-in-Seq-clause-few : goal.in_sequence-requires-in-Seq-clause-few
in_sequence-requires-in-Seq-clause-few g c =
    let is = marked_type c.args.ty.now c.in-Seq.root c.in-Seq.ext c.in-Some.additions c.as_slice-root.result.now c.as_slice-additions.result.now c.in-Seq.is c.in-Some.is c.as_slice-root.ensures.value c.as_slice-additions.ensures.value in
    few_components c.as_slice-root.result.now is c.requires.of_profile

pub in_sequence-requires-in-Seq-clause-added : goal.in_sequence-requires-in-Seq-clause-added
in_sequence-requires-in-Seq-clause-added g c =
    let is = marked_type c.args.ty.now c.in-Seq.root c.in-Seq.ext c.in-Some.additions c.as_slice-root.result.now c.as_slice-additions.result.now c.in-Seq.is c.in-Some.is c.as_slice-root.ensures.value c.as_slice-additions.ensures.value in
    added_of_profile c.as_slice-additions.result.now is c.requires.of_profile

pub in_sequence-requires-in-Seq-clause-few_added : goal.in_sequence-requires-in-Seq-clause-few_added
in_sequence-requires-in-Seq-clause-few_added g c =
    let is = marked_type c.args.ty.now c.in-Seq.root c.in-Seq.ext c.in-Some.additions c.as_slice-root.result.now c.as_slice-additions.result.now c.in-Seq.is c.in-Some.is c.as_slice-root.ensures.value c.as_slice-additions.ensures.value in
    few_added c.as_slice-additions.result.now is c.requires.of_profile

pub in_list-requires-clause-of_profile : goal.in_list-requires-clause-of_profile
in_list-requires-clause-of_profile g c =
    let element = shape_of c.deref.result.now in
    let s = size_range_of c.in-SeqOf.size in
    let is = list_of_elements c.args.ty.now c.deref.result.now c.in-SeqOf.element c.in-SeqOf.size c.in-SeqOf.is c.deref.ensures in
    let good : InProfile (sequence_of element s) = rw is at c.requires.of_profile in
    element_of_profile element s good

pub in_list-requires-clause-size : goal.in_list-requires-clause-size
in_list-requires-clause-size g c =
    let element = shape_of c.deref.result.now in
    let s = size_range_of c.in-SeqOf.size in
    let is = list_of_elements c.args.ty.now c.deref.result.now c.in-SeqOf.element c.in-SeqOf.size c.in-SeqOf.is c.deref.ensures in
    let good : InProfile (sequence_of element s) = rw is at c.requires.of_profile in
    list_size element s good

pub read_index-requires-clause-some : goal.read_index-requires-clause-some
read_index-requires-clause-some g c =
    some_root c.args.ty.now c.in-Choice.root c.in-Choice.ext c.in-Choice.is c.requires.of_profile c.len-known.result c.len-known.ensures

pub read_index-requires-clause-few : goal.read_index-requires-clause-few
read_index-requires-clause-few g c =
    choice_few g.R.ReadLeaves.rules c.keep_laws.ensures c.args.ty.now c.in-Choice.root c.in-Choice.ext c.in-Choice.is c.requires.of_profile c.len-known.result c.len-known.ensures c.added_count.result c.added_count.ensures (g.R.ReadLeaves.rules.to_units c.args.units.now)

pub in_alternative-requires-clause-of_profile : goal.in_alternative-requires-clause-of_profile
in_alternative-requires-clause-of_profile g c =
    roots_good c.args.ty.now c.in-Choice.root c.in-Choice.ext c.in-Choice.is c.requires.of_profile c.deref-in-Ok-Root.result.now c.deref-in-Ok-Root.ensures.value

pub in_added_alternative-requires-clause-of_profile : goal.in_added_alternative-requires-clause-of_profile
in_added_alternative-requires-clause-of_profile g c =
    additions_good c.args.ty.now c.in-Choice.root c.in-Choice.ext c.in-Choice.is c.requires.of_profile c.in-Some-ext.additions c.deref-in-Ok-Added.result.now c.in-Some-ext.is c.deref-in-Ok-Added.ensures.value
