use Rattle.std.proofs.Common.{rules, ◌≡◌, ◌∙◌, length, List, Vec, Global, Option, sym, ap, Some}
use Rattle.std.proofs.lemmas.Result.{IfOk-weaker}
use Rattle.asn_values.specs.declared.types.Alt.{Alt}
use Rattle.asn_values.specs.declared.types.AsnType.{AsnType, the_lemmas}
use Rattle.asn_values.specs.declared.types.AsnType as asn_type
use Rattle.asn_values.specs.Profile.{InProfile}
use Rattle.asn_values.specs.Shape.{sequence, marked, sequence_of, MoreAlternatives, choice, marked_choice}
use Rattle.asn_values.specs.View.{shape_of, fields_seen, part_of_field, branch_of, size_range_of, more_fields_of, more_alternatives_of, alternatives_seen}
use Rattle.asn_values.proofs.Alternatives.{count-of, shape_of_branch}
use Rattle.asn_values.proofs.Components.{shape_of_part}
use Rattle.asn_values.proofs.InnerTypes.{element_of_profile}
use Rattle.asn_values.proofs.Parts.{components_of_profile}
use Rattle.asn_values.proofs.Views.{sequence_of_fields, list_of_elements, choice_of_alternatives}
use Rattle.asn_walk.specs.Coding.{added, added_alternatives}
use Rattle.asn_walk.proofs.Listing.{list_size}
use Rattle.asn_walk.proofs.Parts.{marked_type, few_components, added_of_profile, count_of_fields, good_at, roots_good, additions_good}
use Rattle.asn_plan.specs.Plans.{IsPlan, ArePlans, ArePlansOfEach}
use Rattle.asn_plan.proofs.Growing.{plans_more, planned_more, seen_next, field_good, each_more, each_further, branch_next}
use Rattle.asn_plan.proofs.of.+plan.Goals as goal

pub components_of-kind_of-requires : goal.components_of-kind_of-requires
components_of-kind_of-requires t c =
    let good : InProfile (part_of_field c.index-fields-place.result).shape = rw (← c.index-fields-place.is) at (field_good c.args.fields.now c.loop-place.place c.index-fields-place.result c.loop-place-test.true c.requires.of_profile).0 in
    (search (rules, the_lemmas), rw shape_of_part at good)

pub components_of-presence_of-requires-clause-of_profile : goal.components_of-presence_of-requires-clause-of_profile
components_of-presence_of-requires-clause-of_profile t c =
    rw (← c.index-fields-place.is) at (field_good c.args.fields.now c.loop-place.place c.index-fields-place.result c.loop-place-test.true c.requires.of_profile).0

pub components_of-presence_of-requires-clause-good : goal.components_of-presence_of-requires-clause-good
components_of-presence_of-requires-clause-good t c =
    rw (← c.index-fields-place.is) at (field_good c.args.fields.now c.loop-place.place c.index-fields-place.result c.loop-place-test.true c.requires.of_profile).1

pub components_of-loop-place-preserved : goal.components_of-loop-place-preserved
components_of-loop-place-preserved t c =
    let x = c.index-fields-place.result in
    let os = c.kind_of.new.nodes.items in
    let add = c.in_ok-kind.ensures.added in
    let plan : IsPlan os (part_of_field x).shape c.in_ok-kind.kind = rw shape_of_part c.in_ok-kind.ensures.plan in
    rw (seen_next c.args.fields.now c.loop-place.place x c.loop-place-test.true c.index-fields-place.is, c.in_ok-push.ensures.items) (planned_more c.loop-place.invariant (part_of_field x) (record { presence = c.in_ok-presence.presence; kind = c.in_ok-kind.kind; run = c.run_of-run.result }) os add.0 add.1 c.in_ok-presence.ensures plan)

pub kind_of-components_of-requires : goal.kind_of-components_of-requires
kind_of-components_of-requires t c =
    let fs = c.as_slice-root.result.now in
    let is = sequence_of_fields c.args.ty.now c.in-Seq.root c.in-Seq.ext fs c.in-Seq.is c.as_slice-root.ensures.value in
    let good : InProfile (sequence (fields_seen fs) (more_fields_of c.in-Seq.ext)) = rw is at c.requires.of_profile in
    (search (rules, the_lemmas), components_of_profile (fields_seen fs) (more_fields_of c.in-Seq.ext) good)

pub kind_of-bitmap_width-width-requires : goal.kind_of-bitmap_width-width-requires
kind_of-bitmap_width-width-requires t c =
    let fs = c.as_slice-root.result.now in
    let is = sequence_of_fields c.args.ty.now c.in-Seq.root c.in-Seq.ext fs c.in-Seq.is c.as_slice-root.ensures.value in
    few_components fs is c.requires.of_profile

pub kind_of-components_of-requires-in-Seq : goal.kind_of-components_of-requires-in-Seq
kind_of-components_of-requires-in-Seq t c =
    let is = marked_type c.args.ty.now c.in-Seq.root c.in-Seq.ext c.in-Some.additions c.as_slice-root.result.now c.as_slice-additions.result.now c.in-Seq.is c.in-Some.is c.as_slice-root.ensures.value c.as_slice-additions.ensures.value in
    (search (rules, the_lemmas), added_of_profile c.as_slice-additions.result.now is c.requires.of_profile)

pub kind_of-returns-in_ok-rest-in-Seq-clause-plan : goal.kind_of-returns-in_ok-rest-in-Seq-clause-plan
kind_of-returns-in_ok-rest-in-Seq-clause-plan t c =
    let fs = fields_seen c.as_slice-root.result.now in
    let gs = fields_seen c.as_slice-additions.result.now in
    let is = marked_type c.args.ty.now c.in-Seq.root c.in-Seq.ext c.in-Some.additions c.as_slice-root.result.now c.as_slice-additions.result.now c.in-Seq.is c.in-Some.is c.as_slice-root.ensures.value c.as_slice-additions.ensures.value in
    let add = c.in_ok-rest-in-Seq.ensures.added in
    let first : ArePlans c.components_of-in-Seq.new.nodes.items c.in_ok-first-in-Seq.first.items fs = rw add.1 (plans_more c.components_of.new.nodes.items add.0 c.in_ok-first-in-Seq.first.items fs c.in_ok-first-in-Seq.ensures.plans) in
    let count : Some (length c.as_slice-additions.result.now) ≡ added (marked gs) = ap Some (sym (count_of_fields c.as_slice-additions.result.now)) in
    IfOk-weaker c.place_components-in-Seq.result _ _ (λ k h. rw is (h fs (marked gs) first c.in_ok-rest-in-Seq.ensures.plans c.bitmap_width-width.ensures.count count)) c.place_components-in-Seq.ensures.plan

-- ---- SEQUENCE OF

pub kind_of-kind_of-requires : goal.kind_of-kind_of-requires
kind_of-kind_of-requires t c =
    let element = shape_of c.deref.result.now in
    let s = size_range_of c.in-SeqOf.size in
    let is = list_of_elements c.args.ty.now c.deref.result.now c.in-SeqOf.element c.in-SeqOf.size c.in-SeqOf.is c.deref.ensures in
    let good : InProfile (sequence_of element s) = rw is at c.requires.of_profile in
    (search (rules, the_lemmas), element_of_profile element s good)

pub kind_of-place_element-requires : goal.kind_of-place_element-requires
kind_of-place_element-requires t c =
    let element = shape_of c.deref.result.now in
    let s = size_range_of c.in-SeqOf.size in
    let is = list_of_elements c.args.ty.now c.deref.result.now c.in-SeqOf.element c.in-SeqOf.size c.in-SeqOf.is c.deref.ensures in
    let good : InProfile (sequence_of element s) = rw is at c.requires.of_profile in
    record { of_profile = list_size element s good }

pub kind_of-returns-in_ok-kind-in-SeqOf-clause-plan : goal.kind_of-returns-in_ok-kind-in-SeqOf-clause-plan
kind_of-returns-in_ok-kind-in-SeqOf-clause-plan t c =
    let is = list_of_elements c.args.ty.now c.deref.result.now c.in-SeqOf.element c.in-SeqOf.size c.in-SeqOf.is c.deref.ensures in
    IfOk-weaker c.place_element.result _ _ (λ k h. rw is (h (shape_of c.deref.result.now) c.in_ok-kind-in-SeqOf.ensures.plan)) c.place_element.ensures.plan

-- ---- CHOICE

pub alternatives_of-kind_of-requires : goal.alternatives_of-kind_of-requires
alternatives_of-kind_of-requires t c =
    let good : InProfile (shape_of c.alternative-item.result.ty) = rw (← c.alternative-item.is) at (good_at c.args.alternatives.now c.loop-alternative.alternative-index c.alternative-item.result c.requires.of_profile c.loop-alternative-test.true) in
    (search (rules, the_lemmas), good)

pub alternatives_of-loop-alternative-preserved : goal.alternatives_of-loop-alternative-preserved
alternatives_of-loop-alternative-preserved t c =
    let x = c.alternative-item.result in
    let os = c.kind_of.new.nodes.items in
    let add = c.in_ok-kind.ensures.added in
    let plan : IsPlan os (branch_of x).shape c.in_ok-kind.kind = rw shape_of_branch c.in_ok-kind.ensures.plan in
    rw (branch_next c.args.alternatives.now c.loop-alternative.alternative-index x c.loop-alternative-test.true c.alternative-item.is, c.in_ok-push.ensures.items) (each_further c.loop-alternative.invariant (branch_of x) _ os add.0 add.1 plan)

pub kind_of-alternatives_of-requires : goal.kind_of-alternatives_of-requires
kind_of-alternatives_of-requires t c =
    (search (rules, the_lemmas), roots_good c.args.ty.now c.in-Choice.root c.in-Choice.ext c.in-Choice.is c.requires.of_profile c.as_slice-root-in-Choice.result.now c.as_slice-root-in-Choice.ensures.value)

pub kind_of-alternatives_of-requires-in-Choice : goal.kind_of-alternatives_of-requires-in-Choice
kind_of-alternatives_of-requires-in-Choice t c =
    (search (rules, the_lemmas), additions_good c.args.ty.now c.in-Choice.root c.in-Choice.ext c.in-Choice.is c.requires.of_profile c.in-Some-ext.additions c.as_slice-additions-in-Choice.result.now c.in-Some-ext.is c.as_slice-additions-in-Choice.ensures.value)

-- a CHOICE with an extension mark, as its parts are seen
marked_is : (t : AsnType) (root : Vec Alt Global) (ext : Option (Vec Alt Global)) (more : Vec Alt Global) (xs ys : List Alt)
    → t ≡ asn_type.Choice root ext → ext ≡ Some more → xs ≡ root.items → ys ≡ more.items
    → shape_of t ≡ choice (alternatives_seen xs) (marked_choice (alternatives_seen ys))
marked_is t root ext more xs ys e f g h = choice_of_alternatives t root ext xs e g ∙ ap (λ (m : MoreAlternatives). choice (alternatives_seen xs) m) (ap more_alternatives_of f ∙ ap (λ (l : List Alt). marked_choice (alternatives_seen l)) (sym h))

pub kind_of-returns-in_ok-rest-in-Choice-clause-plan : goal.kind_of-returns-in_ok-rest-in-Choice-clause-plan
kind_of-returns-in_ok-rest-in-Choice-clause-plan t c =
    let xs = alternatives_seen c.as_slice-root-in-Choice.result.now in
    let ys = alternatives_seen c.as_slice-additions-in-Choice.result.now in
    let is = marked_is c.args.ty.now c.in-Choice.root c.in-Choice.ext c.in-Some-ext.additions c.as_slice-root-in-Choice.result.now c.as_slice-additions-in-Choice.result.now c.in-Choice.is c.in-Some-ext.is c.as_slice-root-in-Choice.ensures.value c.as_slice-additions-in-Choice.ensures.value in
    let add = c.in_ok-rest-in-Choice.ensures.added in
    let first : ArePlansOfEach c.alternatives_of-in-Choice.new.nodes.items c.in_ok-first-in-Choice.first.items xs = rw add.1 (each_more c.alternatives_of.new.nodes.items add.0 c.in_ok-first-in-Choice.first.items xs c.in_ok-first-in-Choice.ensures.plans) in
    let listed : Some (length c.as_slice-additions-in-Choice.result.now) ≡ added_alternatives (marked_choice ys) = ap Some (sym (count-of c.as_slice-additions-in-Choice.result.now)) in
    IfOk-weaker c.place_alternatives-in-Choice.result _ _ (λ k h. rw is (h xs (marked_choice ys) first c.in_ok-rest-in-Choice.ensures.plans listed)) c.place_alternatives-in-Choice.ensures.plan
