use Rattle.std.proofs.Common.{rules, ◌≡◌, ◌<◌, ◌≤◌, ◌-◌, ◌∙◌, ◌≢◌, ℕ, [], length, map, take, drop, Option, Some, None, option_map, string_bytes, sym, ap, refl, true, arith}
use Rattle.std.proofs.lemmas.Result.{IfOk-weaker}
use Rattle.serde_json.specs.Data.{Data, object, member, no_members}
use Rattle.serde_json.specs.View.{view, members_view}
use Rattle.asn_values.specs.declared.types.AsnType.{the_lemmas}
use Rattle.asn_values.specs.Fits.{FitsLength}
use Rattle.asn_values.specs.Received.{FitsReceived, FitsAlternativeBy}
use Rattle.asn_values.specs.Shape.{Shape, MoreFields, sequence, sequence_of, closed, marked, MoreAlternatives, choice, closed_choice, marked_choice}
use Rattle.asn_values.specs.View.{shape_of, fields_of, part_of_field, more_fields_of, alternatives_of, branch_of, more_alternatives_of, size_range_of}
use Rattle.asn_values.proofs.Received.{fits_at, fits_nowhere}
use Rattle.asn_values.proofs.Views.{sequence_of_fields, list_of_elements, choice_of_alternatives}
use Rattle.asn_values.proofs.Alternatives.{no_truth}
use Rattle.asn_json.specs.Written.{Told, json_of, json_alternative}
use Rattle.asn_json.proofs.WrittenParts.{closed_told, root_wrong, marked_told, list_told, other_length, elements_wrong, alternative_told, root_told, added_told, no_alternative, right_length}
use Rattle.asn_json.proofs.write.+json.Goals as goal

-- ---- a SEQUENCE

pub with_members-returns-then-fields-count_entries : goal.with_members-returns-then-fields-count_entries
with_members-returns-then-fields-count_entries g t c =
    λ h. c.if-fields-count_entries.true (right_length c.args.fields.now (g.V.Source.entries_left c.args.entries) h ∙ sym c.count_entries.ensures)

pub json_of-returns-in_ok-members-in-None : goal.json_of-returns-in_ok-members-in-None
json_of-returns-in_ok-members-in-None g t c =
    let fs = c.deref.result.now in
    let es = g.V.Source.entries_left c.in-Some.entries in
    let type : shape_of c.args.ty.now ≡ sequence (fields_of (map part_of_field fs)) closed =
    sequence_of_fields c.args.ty.now c.in-Seq.root c.in-Seq.ext fs c.in-Seq.is c.deref.ensures.value
    ∙ ap (λ (m : MoreFields). sequence (fields_of (map part_of_field fs)) m) (ap more_fields_of c.in-None.is) in
    let none : members_view c.new.result.entries ≡ no_members = ap members_view c.new.ensures.empty in
    closed_told (shape_of c.args.ty.now) (g.V.Source.datum c.args.value) (fields_of (map part_of_field fs)) es
    (option_map (λ m. members_view m.entries) c.in_ok-members-in-None.members) (option_map view c.object_json.result) type c.in-Some.ensures.some
    c.object_json.ensures (rw none at c.in_ok-members-in-None.ensures)

pub json_of-returns-in_default-2 : goal.json_of-returns-in_default-2
json_of-returns-in_default-2 g t c =
    let fs = c.deref-in-Some-ext.result.now in
    let es = g.V.Source.entries_left c.in-Some.entries in
    let more = c.in-Some-ext.more.items in
    let type : shape_of c.args.ty.now ≡ sequence (fields_of (map part_of_field fs)) (marked (fields_of (map part_of_field more))) =
    sequence_of_fields c.args.ty.now c.in-Seq.root c.in-Seq.ext fs c.in-Seq.is c.deref-in-Some-ext.ensures.value
    ∙ ap (λ (m : MoreFields). sequence (fields_of (map part_of_field fs)) m) (ap more_fields_of c.in-Some-ext.is) in
    let many : c.len.result ≡ length fs = omega (arith, c.len.ensures, c.deref-in-Some-ext.ensures.len) in
    root_wrong (shape_of c.args.ty.now) (g.V.Source.datum c.args.value) fs (fields_of (map part_of_field more)) es (g.V.Source.entries_left c.split_entries-first.result.0) type c.in-Some.ensures.some
    (c.split_entries-first.ensures.first ∙ ap (λ (n : ℕ). take n es) many) (rw c.in_default-2.is at c.in_ok-object-in-Some-ext.ensures)

pub json_of-with_members-requires-in-Some-ext-2 : goal.json_of-with_members-requires-in-Some-ext-2
json_of-with_members-requires-in-Some-ext-2 g t c κs within = (search (rules, the_lemmas), (within.0, (within.1.0, within.1.1)))

pub json_of-returns-in_ok-members-in-Some-ext : goal.json_of-returns-in_ok-members-in-Some-ext
json_of-returns-in_ok-members-in-Some-ext g t c =
    let fs = c.deref-in-Some-ext.result.now in
    let es = g.V.Source.entries_left c.in-Some.entries in
    let more = c.deref-in-Some-ext-2.result.now in
    let items : more ≡ c.in-Some-ext.more.items = c.deref-in-Some-ext-2.ensures.value in
    let type : shape_of c.args.ty.now ≡ sequence (fields_of (map part_of_field fs)) (marked (fields_of (map part_of_field more))) =
    sequence_of_fields c.args.ty.now c.in-Seq.root c.in-Seq.ext fs c.in-Seq.is c.deref-in-Some-ext.ensures.value
    ∙ ap (λ (m : MoreFields). sequence (fields_of (map part_of_field fs)) m) (rw items (ap more_fields_of c.in-Some-ext.is)) in
    let many : c.len.result ≡ length fs = omega (arith, c.len.ensures, c.deref-in-Some-ext.ensures.len) in
    let none : members_view c.new-in-Some-ext.result.entries ≡ no_members = ap members_view c.new-in-Some-ext.ensures.empty in
    let root = rw (c.in-Some-2.is, none) at c.in_ok-object-in-Some-ext.ensures in
    marked_told (shape_of c.args.ty.now) (g.V.Source.datum c.args.value) fs (fields_of (map part_of_field more)) es (g.V.Source.entries_left c.split_entries-first.result.0) (g.V.Source.entries_left c.split_entries-first.result.1)
    (members_view c.in-Some-2.object.entries) (option_map (λ m. members_view m.entries) c.in_ok-members-in-Some-ext.members) (option_map view c.object_json-in-Some-ext.result)
    type c.in-Some.ensures.some
    (c.split_entries-first.ensures.first ∙ ap (λ (n : ℕ). take n es) many) (c.split_entries-first.ensures.others ∙ ap (λ (n : ℕ). drop n es) many)
    c.object_json-in-Some-ext.ensures root.0 root.1 c.in_ok-members-in-Some-ext.ensures

-- ---- a SEQUENCE OF

pub json_of-returns-then-not-length_fits : goal.json_of-returns-then-not-length_fits
json_of-returns-then-not-length_fits g t c =
    let ds = g.V.Source.elements_left c.in-Some-elements.elements in
    let s = size_range_of c.in-SeqOf.size in
    let type = list_of_elements c.args.ty.now c.in-SeqOf.element.value c.in-SeqOf.element c.in-SeqOf.size c.in-SeqOf.is refl in
    let count : c.count_elements-count.result ≡ length ds = c.count_elements-count.ensures in
    other_length (shape_of c.args.ty.now) (shape_of c.in-SeqOf.element.value) s (g.V.Source.datum c.args.value) ds type c.in-Some-elements.ensures.some
    (λ few. no_truth (c.if-not-length_fits.ensures.1 (rw count few)))

pub json_of-returns-in_default-3 : goal.json_of-returns-in_default-3
json_of-returns-in_default-3 g t c =
    let ds = g.V.Source.elements_left c.in-Some-elements.elements in
    let e = c.deref-in-SeqOf.result.now in
    let type = list_of_elements c.args.ty.now e c.in-SeqOf.element c.in-SeqOf.size c.in-SeqOf.is c.deref-in-SeqOf.ensures in
    let never = rw c.in_default-3.is at c.in_ok-all-in-SeqOf.ensures in
    elements_wrong (shape_of c.args.ty.now) (shape_of e) (size_range_of c.in-SeqOf.size) (g.V.Source.datum c.args.value) ds type c.in-Some-elements.ensures.some never

pub json_of-returns-in-Some-3 : goal.json_of-returns-in-Some-3
json_of-returns-in-Some-3 g t c =
    let ds = g.V.Source.elements_left c.in-Some-elements.elements in
    let e = c.deref-in-SeqOf.result.now in
    let s = size_range_of c.in-SeqOf.size in
    let type = list_of_elements c.args.ty.now e c.in-SeqOf.element c.in-SeqOf.size c.in-SeqOf.is c.deref-in-SeqOf.ensures in
    let count : c.count_elements-count.result ≡ length ds = c.count_elements-count.ensures in
    let few : FitsLength s (length ds) = rw (← count) (c.if-not-length_fits.ensures.0 refl) in
    let told = rw c.in-Some-3.is at c.in_ok-all-in-SeqOf.ensures in
    list_told (shape_of c.args.ty.now) (shape_of e) s (g.V.Source.datum c.args.value) ds (Some (map view c.in-Some-3.all.items)) (Some (view c.from.result)) type c.in-Some-elements.ensures.some
    few (ap (λ (j : Data). Some j) c.from.ensures) told

-- ---- a CHOICE

pub alternative_json-returns-then-index-alternatives : goal.alternative_json-returns-then-index-alternatives
alternative_json-returns-then-index-alternatives g t c =
    fits_nowhere true c.args.alternatives.now c.args.index (g.V.Source.datum c.args.value) c.if-index-alternatives.true

pub alternative_json-returns-in_default : goal.alternative_json-returns-in_default
alternative_json-returns-in_default g t c =
    let x = c.index-alternatives-index.result in
    let both = fits_at true c.args.alternatives.now c.args.index x (g.V.Source.datum c.args.value) c.if-index-alternatives.false c.index-alternatives-index.is in
    let never = rw c.in_default.is at c.in_ok-json.ensures in
    λ h. never (both.0 h)

pub alternative_json-returns : goal.alternative_json-returns
alternative_json-returns g t c =
    let x = c.index-alternatives-index.result in
    let told = rw c.in-Some.is at c.in_ok-json.ensures in
    let name : string_bytes c.in_ok-clone.field-0 ≡ string_bytes x.name = search rules in
    let empty : members_view c.new.result.entries ≡ no_members = ap members_view c.new.ensures.empty in
    let written : view c.from.result ≡ object (member (string_bytes x.name) (view c.in-Some.json) no_members) =
    c.from.ensures ∙ ap object c.in_ok-object.ensures ∙ rw (empty, name) refl in
    alternative_told c.args.alternatives.now c.args.index x (g.V.Source.datum c.args.value) (Some (view c.in-Some.json)) (Some (view c.from.result))
    c.if-index-alternatives.false c.index-alternatives-index.is (ap (λ (j : Data). Some j) written) told

pub json_of-returns-then-index-len : goal.json_of-returns-then-index-len
json_of-returns-then-index-len g t c =
    let ty = c.args.ty.now in
    let alts = c.deref-then-index-len.result.now in
    let tag = c.in-Some-chosen.choice.0 in
    let d = g.V.Source.datum c.args.value in
    let e = g.V.Source.datum c.in-Some-chosen.choice.1 in
    let type = choice_of_alternatives ty c.in-Choice.root c.in-Choice.ext alts c.in-Choice.is c.deref-then-index-len.ensures.value in
    let inside : tag < length alts = omega (arith, c.if-index-len.true, c.len-in-Choice.ensures, c.deref-then-index-len.ensures.len) in
    IfOk-weaker c.alternative_json.result
    (λ o. Told (FitsAlternativeBy true (alternatives_of (map branch_of alts)) tag e) (json_alternative (alternatives_of (map branch_of alts)) tag e) (option_map view o))
    (λ o. Told (FitsReceived (shape_of ty) d) (json_of (shape_of ty) d) (option_map view o))
    (λ o h. root_told (shape_of ty) d e alts (more_alternatives_of c.in-Choice.ext) tag (option_map view o) type c.in-Some-chosen.ensures.some inside h)
    c.alternative_json.ensures

pub json_of-returns-in-None-ext : goal.json_of-returns-in-None-ext
json_of-returns-in-None-ext g t c =
    let alts = c.in-Choice.root.items in
    let type : shape_of c.args.ty.now ≡ choice (alternatives_of (map branch_of alts)) closed_choice =
    choice_of_alternatives c.args.ty.now c.in-Choice.root c.in-Choice.ext alts c.in-Choice.is refl
    ∙ ap (λ (m : MoreAlternatives). choice (alternatives_of (map branch_of alts)) m) (ap more_alternatives_of c.in-None-ext.is) in
    no_alternative (shape_of c.args.ty.now) (g.V.Source.datum c.args.value) (g.V.Source.datum c.in-Some-chosen.choice.1) alts c.in-Some-chosen.choice.0 type c.in-Some-chosen.ensures.some
    (omega (arith, c.if-index-len.false, c.len-in-Choice.ensures))

pub json_of-returns-in-Some-ext-2 : goal.json_of-returns-in-Some-ext-2
json_of-returns-in-Some-ext-2 g t c =
    let ty = c.args.ty.now in
    let alts = c.in-Choice.root.items in
    let more = c.deref-in-Some-ext-2-2.result.now in
    let items : more ≡ c.in-Some-ext-2.more.items = c.deref-in-Some-ext-2-2.ensures.value in
    let tag = c.in-Some-chosen.choice.0 in
    let n = tag - c.len-in-Some-ext-2.result in
    let d = g.V.Source.datum c.args.value in
    let e = g.V.Source.datum c.in-Some-chosen.choice.1 in
    let type : shape_of ty ≡ choice (alternatives_of (map branch_of alts)) (marked_choice (alternatives_of (map branch_of more))) =
    choice_of_alternatives ty c.in-Choice.root c.in-Choice.ext alts c.in-Choice.is refl
    ∙ ap (λ (m : MoreAlternatives). choice (alternatives_of (map branch_of alts)) m) (rw items (ap more_alternatives_of c.in-Some-ext-2.is)) in
    IfOk-weaker c.alternative_json-in-Some-ext-2.result
    (λ o. Told (FitsAlternativeBy true (alternatives_of (map branch_of more)) n e) (json_alternative (alternatives_of (map branch_of more)) n e) (option_map view o))
    (λ o. Told (FitsReceived (shape_of ty) d) (json_of (shape_of ty) d) (option_map view o))
    (λ o h. added_told (shape_of ty) d e alts more tag n (option_map view o) type c.in-Some-chosen.ensures.some (omega (arith, c.len-in-Some-ext-2.ensures)) (omega (arith, c.if-index-len.false, c.len-in-Choice.ensures)) h)
    c.alternative_json-in-Some-ext-2.ensures
