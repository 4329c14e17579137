use Rattle.std.proofs.Common.{rules, ℕ, false, ◌^◌, subst, take, drop, true, ◌≡◌, ◌∷◌, map, min, Some, None, [], ◌⊎◌, inr, refl, sym, ap, ◌∙◌, arith, ◌<◌, length, ◌-◌, inl}
use mir.Syntax.{w128}
use mir.Val.{to_z, of_z}
use Rattle.std.specs.Option.{option_map}
use Rattle.std.proofs.lemmas.List.{length-map}
use Rattle.std.proofs.lemmas.Result.{on_ok_weaker}
use Rattle.asn_values.specs.declared.types.AsnType.{the_lemmas}
use Rattle.asn_values.specs.Shape.{Shape, integer, MoreFields, sequence, marked, optional}
use Rattle.asn_values.specs.Datum.{number, components, components_of}
use Rattle.asn_values.specs.Fits.{Fits, FitsLength, FitsNumber}
use Rattle.asn_values.specs.View.{shape_of, datum_of, range_of, fields_of, part_of_field, demand_of, more_fields_of, size_range_of}
use Rattle.asn_values.proofs.Views.{shape_of-Int, sequence_of_fields}
use Rattle.asn_values.proofs.Alternatives.{fits_at, no_truth}
use Rattle.asn_values.proofs.Components.{shape_of_part}
use Rattle.asn_values.proofs.InnerTypes.{element_of_profile}
use Rattle.asn_bits.specs.Numbers.{bits}
use Rattle.asn_sinks.specs.Sink.{Begins, Ends}
use Rattle.asn_sinks.specs.declared.sink.Framing.{Framing}
use Rattle.asn_sinks.proofs.Pushing.{pushed_same}
use Rattle.asn_rules.specs.Components.{is_spelled}
use Rattle.asn_walk.specs.Composites.{in_open_field}
use Rattle.asn_walk.specs.Writing.{written, Writes, TakesAt, mark_bits, Advances}
use Rattle.asn_walk.proofs.Parts.{few_components, marked_fields, added_of_profile, few_added, good_at, few_root, few_all, roots_good, additions_good}
use Rattle.asn_walk.proofs.Widths.{demand_of_part, datum_of-Int}
use Rattle.asn_walk_write.proofs.WriteChoices.{root_fits, added_fits, past_root, past_additions, spelled_there, root_written as choice_root_written, added_written as choice_added_written}
use Rattle.asn_walk_write.proofs.WriteComponents.{each_bits, each_ends, no_items, both_tests, written_starts, written_passes, spelt_unless_default, spelt_sequence, written_more, written_absent}
use Rattle.asn_walk_write.proofs.WriteEntries.{of_sequence, parts_of_profile, unmarked_fits, marked_fits as fits_marked, other_number, added_optional}
use Rattle.asn_walk_write.proofs.Levels.{root_deep, additions_deep, roots_deep, added_deep, deep_at}
use Rattle.asn_walk_write.proofs.Taking.{takes_laws, takes_pushed, pushed_at, field_taken, open_bits_are, complete_taken}
use Rattle.asn_walk_write.proofs.WriteLists.{leaves_at, advances_at, fragments_start, elements_start, list_fits, other_count, list_written, elements_next, next_value, fewer_left, parts_fit, fragments_next, fragments_end, fragments_fit}
use Rattle.asn_walk_write.proofs.WriteSequences.{none_fit, some_bits_there, opened_starts, opened_more, root_written, none_written, additions_written, sequence_written, unmarked_written}
use Rattle.asn_walk_write.proofs.WriteTells.{tells_by, tells_err, written_by}
use Rattle.asn_walk_write.proofs.+writer.Goals as goal
use Rattle.asn_walk_write.proofs.+writer.Goals.{components::write_components-in-Optional, components::write_components-in_default-matches, components::write_components-in-Default, components::write_components-in_default-matches-2, writer::write-in_default-ext-via-in-Some-ext+else-index-known-2, writer::write-in_default-ext-via-in_default-ext}

-- ---- complete encodings and open type fields

pub writer::write_complete-returns-clause-written : goal.writer::write_complete-returns-clause-written
writer::write_complete-returns-clause-written g t c =
    complete_taken g.S.Sink.stands g.S.Sink.wants_lengths c.args.level c.keep_open_laws.ensures c.args.sink.now c.write.new.sink c.complete.new.sink
    (shape_of c.args.ty.now) (g.V.Source.datum c.args.value) c.requires.of_profile c.in_ok-write.ensures.of_type c.in_ok-write.ensures.written c.in_ok-complete.ensures

pub writer::write_open_field-returns-clause-written : goal.writer::write_open_field-returns-clause-written
writer::write_open_field-returns-clause-written g t c =
    let r = g.R.WriteLeaves.rules in
    let ty = shape_of c.args.ty.now in
    let v = g.V.Source.datum c.args.value in
    let cs = r.code ty v in
    let n = c.in-Some.length in
    let old = c.args.sink.now in
    let mid = c.begin_field.new.self in
    let then = c.write_complete.new.sink in
    let new = c.end_field.new.self in
    let outer = c.in_ok-outer.outer in
    let stands = g.S.Sink.stands in
    let keeps = g.S.Sink.keeps in
    let wants = g.S.Sink.wants_lengths in
    let octets = c.keep_open_laws.ensures.octets ty v c.requires.of_profile c.in_ok-write_complete.ensures.of_type in
    let long : (wants ≡ true → n ≡ min (length (r.complete cs)) (2 ^ 61 - 1)) = rw c.in-Some.is at c.field_length.ensures.some in
    let begun = subst (λ (f : Framing). Begins stands keeps wants c.args.level f n old mid outer) c.framing.ensures c.in_ok-outer.ensures in
    let ends = subst (λ (f : Framing). Ends stands keeps f then outer new) c.framing-2.ensures c.in_ok-end_field.ensures in
    pushed_same (TakesAt g.S.Sink.stands g.S.Sink.wants_lengths c.args.level) old new (open_bits_are c.keep_open_laws.ensures cs)
    (field_taken stands keeps wants c.args.level g.R.WriteLeaves.framed_by n old mid then new outer (r.complete cs) octets long begun
    (λ k coming at short s. c.in_ok-write_complete.ensures.written k coming (omega (arith, at)) short s) ends)

-- ---- SEQUENCE

pub writer::write-write_sequence-requires : goal.writer::write-write_sequence-requires
writer::write-write_sequence-requires g t c κs within =
    (search (rules, the_lemmas), (within.0, (within.1.0, (within.1.1.0, (within.1.1.1.0, (within.1.1.1.1.0, (within.1.1.1.1.1.0, (within.1.1.1.1.1.1.0, (within.1.1.1.1.1.1.1.0, (within.1.1.1.1.1.1.1.1, (record { root = c.in-Seq.root; ext = c.in-Seq.ext; is = c.in-Seq.is }, (c.requires.of_profile, c.requires.deep))))))))))))

pub components::write_sequence-write_entries-requires : goal.components::write_sequence-write_entries-requires
components::write_sequence-write_entries-requires g t c κs within =
    (search (rules, the_lemmas), (within.0, (within.1.0, (within.1.1.0, (within.1.1.1.0, (within.1.1.1.1.0, (within.1.1.1.1.1.0, (within.1.1.1.1.1.1.0, (within.1.1.1.1.1.1.1.0, (within.1.1.1.1.1.1.1.1, (c.requires.sequence, (c.requires.of_profile, c.requires.deep))))))))))))

pub components::write_entries_apart-write_entries-requires : goal.components::write_entries_apart-write_entries-requires
components::write_entries_apart-write_entries-requires g t c κs within =
    (search (rules, the_lemmas), (within.0, (within.1.0, (within.1.1.0, (within.1.1.1.0, (within.1.1.1.1.0, (within.1.1.1.1.1.0, (within.1.1.1.1.1.1.0, (within.1.1.1.1.1.1.1.0, (within.1.1.1.1.1.1.1.1, (c.requires.sequence, (c.requires.of_profile, c.requires.deep))))))))))))

pub components::write_inner-write_entries_apart-requires : goal.components::write_inner-write_entries_apart-requires
components::write_inner-write_entries_apart-requires g t c κs within =
    (search (rules, the_lemmas), (within.0, (within.1.0, (within.1.1.0, (within.1.1.1.0, (within.1.1.1.1.0, (within.1.1.1.1.1.0, (within.1.1.1.1.1.1.0, (within.1.1.1.1.1.1.1.0, (within.1.1.1.1.1.1.1.1, (record { root = c.in-Seq.root; ext = c.in-Seq.ext; is = c.in-Seq.is }, (c.requires.of_profile, c.requires.deep))))))))))))

pub components::write_entries-unreachable-unreachable : goal.components::write_entries-unreachable-unreachable
components::write_entries-unreachable-unreachable g t c = absurd (c.in_default.not-Seq c.requires.sequence.root c.requires.sequence.ext c.requires.sequence.is)

pub components::write_entries-write_plain-requires : goal.components::write_entries-write_plain-requires
components::write_entries-write_plain-requires g t c κs within =
    let fs = c.deref.result.now in
    let vs = g.V.Source.entries_left c.args.entries in
    let s = of_sequence c.args.ty.now (components (components_of vs)) c.in-Seq.root c.in-Seq.ext fs vs c.in-Seq.is refl c.deref.ensures.value in
    (search (rules, the_lemmas), (within.0, (within.1.0, (within.1.1.0, (within.1.1.1.0, (within.1.1.1.1.0, (within.1.1.1.1.1.0, (within.1.1.1.1.1.1.0, (within.1.1.1.1.1.1.1.0, (within.1.1.1.1.1.1.1.1, (parts_of_profile s c.requires.of_profile, (few_components fs s.shape c.requires.of_profile, root_deep c.args.level s.shape c.requires.deep))))))))))))

pub components::write_entries-write_marked-requires : goal.components::write_entries-write_marked-requires
components::write_entries-write_marked-requires g t c κs within =
    let fs = c.deref-2.result.now in
    let vs = g.V.Source.entries_left c.args.entries in
    let s = of_sequence c.args.ty.now (components (components_of vs)) c.in-Seq.root c.in-Seq.ext fs vs c.in-Seq.is refl c.deref-2.ensures.value in
    (search (rules, the_lemmas), (within.0, (within.1.0, (within.1.1.0, (within.1.1.1.0, (within.1.1.1.1.0, (within.1.1.1.1.1.0, (within.1.1.1.1.1.1.0, (within.1.1.1.1.1.1.1.0, (within.1.1.1.1.1.1.1.1, (parts_of_profile s c.requires.of_profile, (few_components fs s.shape c.requires.of_profile, root_deep c.args.level s.shape c.requires.deep))))))))))))

pub components::write_entries-write_additions-requires : goal.components::write_entries-write_additions-requires
components::write_entries-write_additions-requires g t c κs within =
    let fs = c.deref-2.result.now in
    let vs = g.V.Source.entries_left c.args.entries in
    let s = of_sequence c.args.ty.now (components (components_of vs)) c.in-Seq.root c.in-Seq.ext fs vs c.in-Seq.is refl c.deref-2.ensures.value in
    let gs = c.deref-then-extended.result.now in
    let more : more_fields_of c.in-Seq.ext ≡ marked (fields_of (map part_of_field gs)) = marked_fields c.in-Seq.ext c.in-Some.additions gs c.in-Some.is c.deref-then-extended.ensures.value in
    let type : shape_of c.args.ty.now ≡ sequence (fields_of (map part_of_field fs)) (marked (fields_of (map part_of_field gs))) = s.shape ∙ ap (λ (m : MoreFields). sequence (fields_of (map part_of_field fs)) m) more in
    (search (rules, the_lemmas), (within.0, (within.1.0, (within.1.1.0, (within.1.1.1.0, (within.1.1.1.1.0, (within.1.1.1.1.1.0, (within.1.1.1.1.1.1.0, (within.1.1.1.1.1.1.1.0, (within.1.1.1.1.1.1.1.1, (added_of_profile gs type c.requires.of_profile, (added_optional gs type c.requires.of_profile, (few_added gs type c.requires.of_profile, additions_deep c.args.level type c.requires.deep)))))))))))))

pub components::write_entries-returns-in_default-ext-clause-of_type : goal.components::write_entries-returns-in_default-ext-clause-of_type
components::write_entries-returns-in_default-ext-clause-of_type g t c =
    let fs = c.deref.result.now in
    let vs = g.V.Source.entries_left c.args.entries in
    let s = of_sequence c.args.ty.now (components (components_of vs)) c.in-Seq.root c.in-Seq.ext fs vs c.in-Seq.is refl c.deref.ensures.value in
    tells_by c.write_plain.result (unmarked_fits s (ap more_fields_of c.in_default-ext.is)) c.write_plain.ensures.of_type

pub components::write_entries-returns-in_default-ext-clause-written : goal.components::write_entries-returns-in_default-ext-clause-written
components::write_entries-returns-in_default-ext-clause-written g t c =
    let fs = c.deref.result.now in
    let vs = g.V.Source.entries_left c.args.entries in
    let s = of_sequence c.args.ty.now (components (components_of vs)) c.in-Seq.root c.in-Seq.ext fs vs c.in-Seq.is refl c.deref.ensures.value in
    let none = ap more_fields_of c.in_default-ext.is in
    written_by c.write_plain.result c.write_plain.ensures.of_type
    (λ each e. unmarked_written (takes_laws g.S.Sink.stands g.S.Sink.wants_lengths c.args.level) c.keep_write_laws.ensures c.args.sink.now c.write_plain.new.sink fs (more_fields_of c.in-Seq.ext) vs s c.requires.of_profile ((unmarked_fits s none).0 each) none each e)
    c.write_plain.ensures.written

pub components::write_entries-returns-in_err-write_marked-clause-of_type : goal.components::write_entries-returns-in_err-write_marked-clause-of_type
components::write_entries-returns-in_err-write_marked-clause-of_type g t c =
    let fs = c.deref-2.result.now in
    let vs = g.V.Source.entries_left c.args.entries in
    let s = of_sequence c.args.ty.now (components (components_of vs)) c.in-Seq.root c.in-Seq.ext fs vs c.in-Seq.is refl c.deref-2.ensures.value in
    let gs = c.in-Some.additions.items in
    let more : more_fields_of c.in-Seq.ext ≡ marked (fields_of (map part_of_field gs)) = marked_fields c.in-Seq.ext c.in-Some.additions gs c.in-Some.is refl in
    let front : g.V.Source.entries_left c.split_entries-root_entries.result.0 ≡ take (length fs) vs = c.split_entries-root_entries.ensures.first ∙ ap (λ (n : ℕ). take n vs) (omega (arith, c.len.ensures, c.deref-2.ensures.len)) in
    let back : g.V.Source.entries_left c.split_entries-root_entries.result.1 ≡ drop (length fs) vs = c.split_entries-root_entries.ensures.others ∙ ap (λ (n : ℕ). drop n vs) (omega (arith, c.len.ensures, c.deref-2.ensures.len)) in
    let both = fits_marked fs vs gs s more (g.V.Source.entries_left c.split_entries-root_entries.result.0) (g.V.Source.entries_left c.split_entries-root_entries.result.1) front back in
    tells_err c.from_residual.result c.in_err-write_marked.field-0.0 c.from_residual.ensures.1 (λ f. (both.1 f).0) c.in_err-write_marked.ensures.of_type

pub components::write_entries-returns-then-extended-clause-of_type : goal.components::write_entries-returns-then-extended-clause-of_type
components::write_entries-returns-then-extended-clause-of_type g t c =
    let fs = c.deref-2.result.now in
    let vs = g.V.Source.entries_left c.args.entries in
    let s = of_sequence c.args.ty.now (components (components_of vs)) c.in-Seq.root c.in-Seq.ext fs vs c.in-Seq.is refl c.deref-2.ensures.value in
    let gs = c.deref-then-extended.result.now in
    let more : more_fields_of c.in-Seq.ext ≡ marked (fields_of (map part_of_field gs)) = marked_fields c.in-Seq.ext c.in-Some.additions gs c.in-Some.is c.deref-then-extended.ensures.value in
    let front : g.V.Source.entries_left c.split_entries-root_entries.result.0 ≡ take (length fs) vs = c.split_entries-root_entries.ensures.first ∙ ap (λ (n : ℕ). take n vs) (omega (arith, c.len.ensures, c.deref-2.ensures.len)) in
    let back : g.V.Source.entries_left c.split_entries-root_entries.result.1 ≡ drop (length fs) vs = c.split_entries-root_entries.ensures.others ∙ ap (λ (n : ℕ). drop n vs) (omega (arith, c.len.ensures, c.deref-2.ensures.len)) in
    let both = fits_marked fs vs gs s more (g.V.Source.entries_left c.split_entries-root_entries.result.0) (g.V.Source.entries_left c.split_entries-root_entries.result.1) front back in
    tells_by c.write_additions.result (λ f. both.0 (c.in_ok-write_marked.ensures.of_type, f), λ f. (both.1 f).1) c.write_additions.ensures.of_type

pub components::write_entries-returns-then-extended-clause-written : goal.components::write_entries-returns-then-extended-clause-written
components::write_entries-returns-then-extended-clause-written g t c =
    let fs = c.deref-2.result.now in
    let vs = g.V.Source.entries_left c.args.entries in
    let s = of_sequence c.args.ty.now (components (components_of vs)) c.in-Seq.root c.in-Seq.ext fs vs c.in-Seq.is refl c.deref-2.ensures.value in
    let gs = c.deref-then-extended.result.now in
    let more : more_fields_of c.in-Seq.ext ≡ marked (fields_of (map part_of_field gs)) = marked_fields c.in-Seq.ext c.in-Some.additions gs c.in-Some.is c.deref-then-extended.ensures.value in
    let front : g.V.Source.entries_left c.split_entries-root_entries.result.0 ≡ take (length fs) vs = c.split_entries-root_entries.ensures.first ∙ ap (λ (n : ℕ). take n vs) (omega (arith, c.len.ensures, c.deref-2.ensures.len)) in
    let back : g.V.Source.entries_left c.split_entries-root_entries.result.1 ≡ drop (length fs) vs = c.split_entries-root_entries.ensures.others ∙ ap (λ (n : ℕ). drop n vs) (omega (arith, c.len.ensures, c.deref-2.ensures.len)) in
    let both = fits_marked fs vs gs s more (g.V.Source.entries_left c.split_entries-root_entries.result.0) (g.V.Source.entries_left c.split_entries-root_entries.result.1) front back in
    written_by c.write_additions.result c.write_additions.ensures.of_type
    (λ each e. sequence_written (takes_laws g.S.Sink.stands g.S.Sink.wants_lengths c.args.level) c.keep_write_laws.ensures c.args.sink.now c.write_marked.new.sink c.write_additions.new.sink fs gs c.in-Seq.ext vs (g.V.Source.entries_left c.split_entries-root_entries.result.0) (g.V.Source.entries_left c.split_entries-root_entries.result.1)
    c.is_any_present-extended.result s c.requires.of_profile (both.0 (c.in_ok-write_marked.ensures.of_type, each)) more front back c.is_any_present-extended.ensures c.in_ok-write_marked.ensures.written e)
    c.write_additions.ensures.written

pub components::write_entries-returns-then-len-count_entries-clause-of_type : goal.components::write_entries-returns-then-len-count_entries-clause-of_type
components::write_entries-returns-then-len-count_entries-clause-of_type g t c =
    let fs = c.deref-2.result.now in
    let vs = g.V.Source.entries_left c.args.entries in
    let s = of_sequence c.args.ty.now (components (components_of vs)) c.in-Seq.root c.in-Seq.ext fs vs c.in-Seq.is refl c.deref-2.ensures.value in
    let gs = c.in-Some.additions.items in
    let more : more_fields_of c.in-Seq.ext ≡ marked (fields_of (map part_of_field gs)) = marked_fields c.in-Seq.ext c.in-Some.additions gs c.in-Some.is refl in
    let front : g.V.Source.entries_left c.split_entries-root_entries.result.0 ≡ take (length fs) vs = c.split_entries-root_entries.ensures.first ∙ ap (λ (n : ℕ). take n vs) (omega (arith, c.len.ensures, c.deref-2.ensures.len)) in
    let back : g.V.Source.entries_left c.split_entries-root_entries.result.1 ≡ drop (length fs) vs = c.split_entries-root_entries.ensures.others ∙ ap (λ (n : ℕ). drop n vs) (omega (arith, c.len.ensures, c.deref-2.ensures.len)) in
    let both = fits_marked fs vs gs s more (g.V.Source.entries_left c.split_entries-root_entries.result.0) (g.V.Source.entries_left c.split_entries-root_entries.result.1) front back in
    λ f. other_number gs (g.V.Source.entries_left c.split_entries-root_entries.result.1) (λ e. c.if-len-count_entries.true (omega (arith, e, c.len-2.ensures, c.count_entries.ensures, c.in-Some.additions.ok))) (both.1 f).1

pub components::write_entries-returns-clause-of_type : goal.components::write_entries-returns-clause-of_type
components::write_entries-returns-clause-of_type g t c =
    let fs = c.deref-2.result.now in
    let vs = g.V.Source.entries_left c.args.entries in
    let s = of_sequence c.args.ty.now (components (components_of vs)) c.in-Seq.root c.in-Seq.ext fs vs c.in-Seq.is refl c.deref-2.ensures.value in
    let gs = c.in-Some.additions.items in
    let more : more_fields_of c.in-Seq.ext ≡ marked (fields_of (map part_of_field gs)) = marked_fields c.in-Seq.ext c.in-Some.additions gs c.in-Some.is refl in
    let front : g.V.Source.entries_left c.split_entries-root_entries.result.0 ≡ take (length fs) vs = c.split_entries-root_entries.ensures.first ∙ ap (λ (n : ℕ). take n vs) (omega (arith, c.len.ensures, c.deref-2.ensures.len)) in
    let back : g.V.Source.entries_left c.split_entries-root_entries.result.1 ≡ drop (length fs) vs = c.split_entries-root_entries.ensures.others ∙ ap (λ (n : ℕ). drop n vs) (omega (arith, c.len.ensures, c.deref-2.ensures.len)) in
    let both = fits_marked fs vs gs s more (g.V.Source.entries_left c.split_entries-root_entries.result.0) (g.V.Source.entries_left c.split_entries-root_entries.result.1) front back in
    let type : shape_of c.args.ty.now ≡ sequence (fields_of (map part_of_field fs)) (marked (fields_of (map part_of_field gs))) = s.shape ∙ ap (λ (m : MoreFields). sequence (fields_of (map part_of_field fs)) m) more in
    let none = sym c.is_any_present-extended.ensures ∙ c.if-extended.false in
    both.0 (c.in_ok-write_marked.ensures.of_type, none_fit (map part_of_field gs) (g.V.Source.entries_left c.split_entries-root_entries.result.1) (added_optional gs type c.requires.of_profile) (omega (arith, length-map gs part_of_field, c.if-len-count_entries.false, c.len-2.ensures, c.count_entries.ensures, c.in-Some.additions.ok)) none)

pub components::write_entries-returns-clause-written : goal.components::write_entries-returns-clause-written
components::write_entries-returns-clause-written g t c =
    let fs = c.deref-2.result.now in
    let vs = g.V.Source.entries_left c.args.entries in
    let s = of_sequence c.args.ty.now (components (components_of vs)) c.in-Seq.root c.in-Seq.ext fs vs c.in-Seq.is refl c.deref-2.ensures.value in
    let gs = c.in-Some.additions.items in
    let more : more_fields_of c.in-Seq.ext ≡ marked (fields_of (map part_of_field gs)) = marked_fields c.in-Seq.ext c.in-Some.additions gs c.in-Some.is refl in
    let front : g.V.Source.entries_left c.split_entries-root_entries.result.0 ≡ take (length fs) vs = c.split_entries-root_entries.ensures.first ∙ ap (λ (n : ℕ). take n vs) (omega (arith, c.len.ensures, c.deref-2.ensures.len)) in
    let back : g.V.Source.entries_left c.split_entries-root_entries.result.1 ≡ drop (length fs) vs = c.split_entries-root_entries.ensures.others ∙ ap (λ (n : ℕ). drop n vs) (omega (arith, c.len.ensures, c.deref-2.ensures.len)) in
    let both = fits_marked fs vs gs s more (g.V.Source.entries_left c.split_entries-root_entries.result.0) (g.V.Source.entries_left c.split_entries-root_entries.result.1) front back in
    let type : shape_of c.args.ty.now ≡ sequence (fields_of (map part_of_field fs)) (marked (fields_of (map part_of_field gs))) = s.shape ∙ ap (λ (m : MoreFields). sequence (fields_of (map part_of_field fs)) m) more in
    let none = sym c.is_any_present-extended.ensures ∙ c.if-extended.false in
    let all = none_fit (map part_of_field gs) (g.V.Source.entries_left c.split_entries-root_entries.result.1) (added_optional gs type c.requires.of_profile) (omega (arith, length-map gs part_of_field, c.if-len-count_entries.false, c.len-2.ensures, c.count_entries.ensures, c.in-Some.additions.ok)) none in
    let laws = takes_laws g.S.Sink.stands g.S.Sink.wants_lengths c.args.level in
    let new = c.write_marked.new.sink in
    sequence_written laws c.keep_write_laws.ensures c.args.sink.now new new fs gs c.in-Seq.ext vs (g.V.Source.entries_left c.split_entries-root_entries.result.0) (g.V.Source.entries_left c.split_entries-root_entries.result.1)
    c.is_any_present-extended.result s c.requires.of_profile (both.0 (c.in_ok-write_marked.ensures.of_type, all)) more front back c.is_any_present-extended.ensures c.in_ok-write_marked.ensures.written
    (none_written laws c.keep_write_laws.ensures new (fields_of (map part_of_field gs)) (g.V.Source.entries_left c.split_entries-root_entries.result.1) none)

-- ---- its root

pub components::write_root-returns-then-fields-count_entries-clause-of_type : goal.components::write_root-returns-then-fields-count_entries-clause-of_type
components::write_root-returns-then-fields-count_entries-clause-of_type g t c = λ h. other_number c.args.fields.now (g.V.Source.entries_left c.args.entries) (λ e. c.if-fields-count_entries.true (e ∙ sym c.count_entries.ensures)) h

pub components::write_root-returns-clause-written : goal.components::write_root-returns-clause-written
components::write_root-returns-clause-written g t c =
    on_ok_weaker c.write_components.result
    (λ e. root_written (takes_laws g.S.Sink.stands g.S.Sink.wants_lengths c.args.level) c.keep_write_laws.ensures c.args.sink.now c.write_preamble.new.sink c.write_components.new.sink (mark_bits c.args.extended) (bits c.presence_bitmap-count.result.0 c.presence_bitmap-count.result.1)
    (fields_of (map part_of_field c.args.fields.now)) (g.V.Source.entries_left c.args.entries) c.presence_bitmap-count.ensures.bitmap (pushed_at g.S.Sink.stands g.S.Sink.wants_lengths c.args.level g.met.S.Sink.pushes_stand c.in_ok-write_preamble.ensures) e)
    c.write_components.ensures.written

-- ---- its components

pub components::write_components-loop-field-init : goal.components::write_components-loop-field-init
components::write_components-loop-field-init g t c =
    let e : c.into_iter-field-iterator.result.a.rest.now ≡ c.args.fields.now = search (rules, the_lemmas) in
    let f : g.V.Source.each_left c.into_iter-field-iterator.result.b ≡ g.V.Source.entries_left c.args.entries = search (rules, the_lemmas) in
    rw (e, f)
    (written_starts (takes_laws g.S.Sink.stands g.S.Sink.wants_lengths c.args.level) (each_bits g.R.WriteLeaves.rules) c.args.sink.now (map part_of_field c.args.fields.now) (g.V.Source.entries_left c.args.entries) (record { of_profile = c.requires.of_profile; each = length-map c.args.fields.now part_of_field ∙ c.requires.each }))

pub components::write_components-loop-field-preserved : goal.components::write_components-loop-field-preserved
components::write_components-loop-field-preserved g t c =
    let e : c.loop-field.field-iterator.a.rest.now ≡ c.in-Some.field.now ∷ c.next.new.self.a.rest.now = c.in-Some.ensures.steps.0 in
    let f = g.met.V.Source.each_gives c.loop-field.field-iterator.b (Some c.in-Some.entry) c.next.new.self.b c.in-Some.ensures.steps.1 in
    let some : option_map g.V.Source.datum c.in-Some.entry ≡ Some (g.V.Source.datum c.in-Some-entry.value) = ap (option_map g.V.Source.datum) c.in-Some-entry.is in
    written_passes g.R.WriteLeaves.rules (rw (e, f, some) at c.loop-field.invariant) (sym c.is_encoded.ensures ∙ c.if-is_encoded.false)

pub components::write_components-loop-field-preserved-then-matches : goal.components::write_components-loop-field-preserved-then-matches
components::write_components-loop-field-preserved-then-matches g t c =
    let e : c.loop-field.field-iterator.a.rest.now ≡ c.in-Some.field.now ∷ c.next.new.self.a.rest.now = c.in-Some.ensures.steps.0 in
    let f = g.met.V.Source.each_gives c.loop-field.field-iterator.b (Some c.in-Some.entry) c.next.new.self.b c.in-Some.ensures.steps.1 in
    let none : option_map g.V.Source.datum c.in-Some.entry ≡ None = ap (option_map g.V.Source.datum) c.in_default.is in
    let may : (part_of_field c.in-Some.field.now).demand ≡ optional = elim c.match-matches.branch [
      | components::write_components-in-Optional w ↦ demand_of_part c.in-Some.field.now ∙ ap demand_of w.in-Optional.is
      | components::write_components-in_default-matches w ↦ absurd (let m : c.match-matches.matches ≡ false = w.matches-is in cc)
    ] in
    written_absent g.R.WriteLeaves.rules (rw (e, f, none) at c.loop-field.invariant) may

pub components::write_components-returns-in_err-write_number-clause-of_type : goal.components::write_components-returns-in_err-write_number-clause-of_type
components::write_components-returns-in_err-write_number-clause-of_type g t c =
    let e : c.loop-field.field-iterator.a.rest.now ≡ c.in-Some.field.now ∷ c.next.new.self.a.rest.now = c.in-Some.ensures.steps.0 in
    let f = g.met.V.Source.each_gives c.loop-field.field-iterator.b (Some c.in-Some.entry) c.next.new.self.b c.in-Some.ensures.steps.1 in
    let i = c.in-Int-Some in
    let n = c.in-Int.number in
    let is : g.V.Source.datum c.in-Some-entry.value ≡ number n = sym i.ensures.some ∙ ap datum_of c.in-Int.is ∙ datum_of-Int n in
    let some : option_map g.V.Source.datum c.in-Some.entry ≡ Some (number n) = ap (option_map g.V.Source.datum) c.in-Some-entry.is ∙ ap Some is in
    let shape : (part_of_field c.in-Some.field.now).shape ≡ integer (range_of i.bounds) = shape_of_part c.in-Some.field.now ∙ ap shape_of i.is-0 ∙ shape_of-Int i.bounds in
    let same : to_z w128 (of_z w128 n) ≡ n = search (rules, the_lemmas) in
    let h = rw (e, f, some) at c.loop-field.invariant in
    tells_err c.from_residual.result c.in_err-write_number.field-0.0 c.from_residual.ensures.1
    (λ all. subst (λ (x : Shape). Fits x (number n)) shape (h.fits.1 all).0)
    (rw same at c.in_err-write_number.ensures.of_type)

pub components::write_components-returns-in_err-write-clause-of_type : goal.components::write_components-returns-in_err-write-clause-of_type
components::write_components-returns-in_err-write-clause-of_type g t c =
    let e : c.loop-field.field-iterator.a.rest.now ≡ c.in-Some.field.now ∷ c.next.new.self.a.rest.now = c.in-Some.ensures.steps.0 in
    let f = g.met.V.Source.each_gives c.loop-field.field-iterator.b (Some c.in-Some.entry) c.next.new.self.b c.in-Some.ensures.steps.1 in
    let d = g.V.Source.datum c.in-Some-entry.value in
    let some : option_map g.V.Source.datum c.in-Some.entry ≡ Some d = ap (option_map g.V.Source.datum) c.in-Some-entry.is in
    let h = rw (e, f, some) at c.loop-field.invariant in
    tells_err c.from_residual-in_err-write.result c.in_err-write.field-0.0 c.from_residual-in_err-write.ensures.1
    (λ all. subst (λ (x : Shape). Fits x d) (shape_of_part c.in-Some.field.now) (h.fits.1 all).0)
    c.in_err-write.ensures.of_type

pub components::write_components-returns-clause-written : goal.components::write_components-returns-clause-written
components::write_components-returns-clause-written g t c =
    let over : (map part_of_field c.loop-field.field-iterator.a.rest.now ≡ []) ⊎ (g.V.Source.each_left c.loop-field.field-iterator.b ≡ []) = elim c.in-None.ensures.steps [
      | inl x ↦ inl (ap (map part_of_field) (no_items c.loop-field.field-iterator.a.rest.now x.1.0))
      | inr y ↦ inr (g.met.V.Source.each_gives c.loop-field.field-iterator.b None y.0 y.1).0
    ] in
    each_ends c.keep_write_laws.ensures c.loop-field.invariant over

pub components::write_components-loop-field-preserved-in-loop-field : goal.components::write_components-loop-field-preserved-in-loop-field
components::write_components-loop-field-preserved-in-loop-field g t c =
    let e : c.loop-field.field-iterator.a.rest.now ≡ c.in-Some.field.now ∷ c.next.new.self.a.rest.now = c.in-Some.ensures.steps.0 in
    let f = g.met.V.Source.each_gives c.loop-field.field-iterator.b (Some c.in-Some.entry) c.next.new.self.b c.in-Some.ensures.steps.1 in
    let i = c.in-Int-Some in
    let n = c.in-Int.number in
    let is : g.V.Source.datum c.in-Some-entry.value ≡ number n = sym i.ensures.some ∙ ap datum_of c.in-Int.is ∙ datum_of-Int n in
    let some : option_map g.V.Source.datum c.in-Some.entry ≡ Some (number n) = ap (option_map g.V.Source.datum) c.in-Some-entry.is ∙ ap Some is in
    let spelt : is_spelled (part_of_field c.in-Some.field.now).demand (Some (number n)) ≡ true = elim c.match-matches-2.branch [
      | components::write_components-in-Default w ↦ absurd (both_tests w.matches-is c.if-not-matches.true)
      | components::write_components-in_default-matches-2 w ↦ ap (λ d. is_spelled d (Some (number n))) (demand_of_part c.in-Some.field.now) ∙ spelt_unless_default c.in-Some.field.now.need (number n) w.in_default-matches-2.not-Default
    ] in
    let shape : (part_of_field c.in-Some.field.now).shape ≡ integer (range_of i.bounds) = shape_of_part c.in-Some.field.now ∙ ap shape_of i.is-0 ∙ shape_of-Int i.bounds in
    let same : to_z w128 (of_z w128 n) ≡ n = search (rules, the_lemmas) in
    let own : FitsNumber (range_of i.bounds) n = rw same at c.in_ok-write_number.ensures.of_type in
    let fits : Fits (part_of_field c.in-Some.field.now).shape (number n) = rw shape own in
    written_more c.keep_write_laws.ensures (rw (e, f, some) at c.loop-field.invariant) spelt fits
    (pushed_at g.S.Sink.stands g.S.Sink.wants_lengths c.args.level g.met.S.Sink.pushes_stand
    (subst (λ (x : Shape). g.S.Sink.pushes c.loop-field.sink c.write_number.new.sink (written g.R.WriteLeaves.rules (g.R.WriteLeaves.rules.code x (number n)))) (sym shape) (rw same at c.in_ok-write_number.ensures.written)))

pub components::write_components-loop-field-preserved-in_ok-write_inner : goal.components::write_components-loop-field-preserved-in_ok-write_inner
components::write_components-loop-field-preserved-in_ok-write_inner g t c =
    let e : c.loop-field.field-iterator.a.rest.now ≡ c.in-Some.field.now ∷ c.next.new.self.a.rest.now = c.in-Some.ensures.steps.0 in
    let f = g.met.V.Source.each_gives c.loop-field.field-iterator.b (Some c.in-Some.entry) c.next.new.self.b c.in-Some.ensures.steps.1 in
    let d = g.V.Source.datum c.in-Some-entry.value in
    let some : option_map g.V.Source.datum c.in-Some.entry ≡ Some d = ap (option_map g.V.Source.datum) c.in-Some-entry.is in
    let h = rw (e, f, some) at c.loop-field.invariant in
    let shape = shape_of_part c.in-Some.field.now in
    let fs = c.in-Seq.root.items in
    let seen : (part_of_field c.in-Some.field.now).shape ≡ sequence (fields_of (map part_of_field fs)) (more_fields_of c.in-Seq.ext) = shape ∙ sequence_of_fields c.in-Some.field.now.ty c.in-Seq.root c.in-Seq.ext fs c.in-Seq.is refl in
    let spelt = spelt_sequence (part_of_field c.in-Some.field.now).demand (part_of_field c.in-Some.field.now).shape (fields_of (map part_of_field fs)) (more_fields_of c.in-Seq.ext) d seen h.components.of_profile.1 in
    written_more c.keep_write_laws.ensures h spelt (subst (λ (x : Shape). Fits x d) (sym shape) c.in_ok-write_inner.ensures.of_type)
    (subst (λ (x : Shape). Writes (TakesAt g.S.Sink.stands g.S.Sink.wants_lengths c.args.level) g.R.WriteLeaves.rules c.loop-field.sink c.write_inner.new.sink (g.R.WriteLeaves.rules.code x d)) (sym shape) c.in_ok-write_inner.ensures.written)

pub components::write_components-loop-field-preserved-in_ok-write : goal.components::write_components-loop-field-preserved-in_ok-write
components::write_components-loop-field-preserved-in_ok-write g t c =
    let e : c.loop-field.field-iterator.a.rest.now ≡ c.in-Some.field.now ∷ c.next.new.self.a.rest.now = c.in-Some.ensures.steps.0 in
    let f = g.met.V.Source.each_gives c.loop-field.field-iterator.b (Some c.in-Some.entry) c.next.new.self.b c.in-Some.ensures.steps.1 in
    let d = g.V.Source.datum c.in-Some-entry.value in
    let some : option_map g.V.Source.datum c.in-Some.entry ≡ Some d = ap (option_map g.V.Source.datum) c.in-Some-entry.is in
    let shape = shape_of_part c.in-Some.field.now in
    written_more c.keep_write_laws.ensures (rw (e, f, some) at c.loop-field.invariant) (sym c.is_encoded.ensures ∙ c.if-is_encoded.true) (subst (λ (x : Shape). Fits x d) (sym shape) c.in_ok-write.ensures.of_type)
    (subst (λ (x : Shape). Writes (TakesAt g.S.Sink.stands g.S.Sink.wants_lengths c.args.level) g.R.WriteLeaves.rules c.loop-field.sink c.write.new.sink (g.R.WriteLeaves.rules.code x d)) (sym shape) c.in_ok-write.ensures.written)

-- ---- its additions

pub components::write_additions-returns-then-fields-count_entries-clause-of_type : goal.components::write_additions-returns-then-fields-count_entries-clause-of_type
components::write_additions-returns-then-fields-count_entries-clause-of_type g t c = λ h. other_number c.args.fields.now (g.V.Source.entries_left c.args.entries) (λ e. c.if-fields-count_entries.true (e ∙ sym c.count_entries.ensures)) h

pub components::write_additions-returns-then-not-is_any_present-clause-of_type : goal.components::write_additions-returns-then-not-is_any_present-clause-of_type
components::write_additions-returns-then-not-is_any_present-clause-of_type g t c =
    none_fit (map part_of_field c.args.fields.now) (g.V.Source.entries_left c.args.entries) c.requires.optional (length-map c.args.fields.now part_of_field ∙ c.if-fields-count_entries.false ∙ c.count_entries.ensures) (sym c.is_any_present.ensures ∙ c.if-not-is_any_present.true)

pub components::write_additions-write_addition_bitmap-requires-clause-some : goal.components::write_additions-write_addition_bitmap-requires-clause-some
components::write_additions-write_addition_bitmap-requires-clause-some g t c =
    some_bits_there (map part_of_field c.args.fields.now) (g.V.Source.entries_left c.args.entries) c.presence_bitmap-count.result.0 c.presence_bitmap-count.result.1 c.requires.optional
    (length-map c.args.fields.now part_of_field ∙ c.if-fields-count_entries.false ∙ c.count_entries.ensures) (sym c.is_any_present.ensures ∙ c.if-not-is_any_present.false) c.presence_bitmap-count.ensures.bitmap

pub components::write_additions-returns-clause-written : goal.components::write_additions-returns-clause-written
components::write_additions-returns-clause-written g t c =
    on_ok_weaker c.write_open_components.result
    (λ e. additions_written (takes_laws g.S.Sink.stands g.S.Sink.wants_lengths c.args.level) c.keep_write_laws.ensures c.args.sink.now c.write_addition_bitmap.new.sink c.write_open_components.new.sink (bits c.presence_bitmap-count.result.0 c.presence_bitmap-count.result.1)
    (fields_of (map part_of_field c.args.fields.now)) (g.V.Source.entries_left c.args.entries) (sym c.is_any_present.ensures ∙ c.if-not-is_any_present.false) c.presence_bitmap-count.ensures.bitmap (pushed_at g.S.Sink.stands g.S.Sink.wants_lengths c.args.level g.met.S.Sink.pushes_stand c.in_ok-write_addition_bitmap.ensures) e)
    c.write_open_components.ensures.written

pub components::write_open_components-loop-field-init : goal.components::write_open_components-loop-field-init
components::write_open_components-loop-field-init g t c =
    let e : c.into_iter-field-iterator.result.a.rest.now ≡ c.args.fields.now = search (rules, the_lemmas) in
    let f : g.V.Source.each_left c.into_iter-field-iterator.result.b ≡ g.V.Source.entries_left c.args.entries = search (rules, the_lemmas) in
    rw (e, f)
    (opened_starts (takes_laws g.S.Sink.stands g.S.Sink.wants_lengths c.args.level) g.R.WriteLeaves.rules c.args.sink.now (map part_of_field c.args.fields.now) (g.V.Source.entries_left c.args.entries) (record { of_profile = c.requires.of_profile; each = length-map c.args.fields.now part_of_field ∙ c.requires.each }) c.requires.optional)

pub components::write_open_components-loop-field-preserved : goal.components::write_open_components-loop-field-preserved
components::write_open_components-loop-field-preserved g t c =
    let e : c.loop-field.field-iterator.a.rest.now ≡ c.in-Some.field.now ∷ c.next.new.self.a.rest.now = c.in-Some.ensures.steps.0 in
    let f = g.met.V.Source.each_gives c.loop-field.field-iterator.b (Some c.in-Some.entry) c.next.new.self.b c.in-Some.ensures.steps.1 in
    let d = g.V.Source.datum c.in-Some-entry.value in
    let some : option_map g.V.Source.datum c.in-Some.entry ≡ Some d = ap (option_map g.V.Source.datum) c.in-Some-entry.is in
    let shape = shape_of_part c.in-Some.field.now in
    let r = g.R.WriteLeaves.rules in
    opened_more c.keep_write_laws.ensures (rw (e, f, some) at c.loop-field.invariant) (subst (λ (x : Shape). Fits x d) (sym shape) c.in_ok-write_open_field.ensures.of_type)
    (subst (λ (x : Shape). Writes (TakesAt g.S.Sink.stands g.S.Sink.wants_lengths c.args.level) r c.loop-field.sink c.write_open_field.new.sink (in_open_field r (r.code x d))) (sym shape) c.in_ok-write_open_field.ensures.written)

-- ---- SEQUENCE OF

pub lists::write_list-returns-then-not-length_fits-clause-of_type : goal.lists::write_list-returns-then-not-length_fits-clause-of_type
lists::write_list-returns-then-not-length_fits-clause-of_type g t c =
    let element = shape_of c.args.element.now in
    let s = size_range_of c.args.size.now in
    let ds = g.V.Source.elements_left c.args.elements in
    other_count element s ds (λ few. no_truth (rw c.if-not-length_fits.true at (c.length_fits.ensures.1 (rw c.count_elements-count.ensures few))))

pub lists::write_list-write_elements-requires : goal.lists::write_list-write_elements-requires
lists::write_list-write_elements-requires g t c κs within = (search (rules, the_lemmas), (within.0, (within.1.0, (within.1.1.0, (within.1.1.1.0, (within.1.1.1.1.0, (within.1.1.1.1.1.0, (within.1.1.1.1.1.1.0, (within.1.1.1.1.1.1.1.0, (within.1.1.1.1.1.1.1.1, (element_of_profile (shape_of c.args.element.now) (size_range_of c.args.size.now) c.requires.of_profile, omega (arith, c.requires.deep))))))))))))

pub lists::write_list-returns-in_err-write_elements-clause-of_type : goal.lists::write_list-returns-in_err-write_elements-clause-of_type
lists::write_list-returns-in_err-write_elements-clause-of_type g t c =
    let element = shape_of c.args.element.now in
    let s = size_range_of c.args.size.now in
    let ds = g.V.Source.elements_left c.args.elements in
    let few : FitsLength s (length ds) = rw c.count_elements-count.ensures at c.length_fits.ensures.0 (rw c.if-not-length_fits.false refl) in
    let both = parts_fit element c.in-Some.next (g.V.Source.elements_left c.loop-fragments.left) (g.V.Source.elements_left c.split_elements-front.result.0) (g.V.Source.elements_left c.split_elements-front.result.1) c.split_elements-front.ensures.first c.split_elements-front.ensures.others in
    tells_err c.from_residual-in_err-write_elements.result c.in_err-write_elements.field-0.0 c.from_residual-in_err-write_elements.ensures.1
    (λ f. (both.1 (c.loop-fragments.invariant.up_to.fits.1 ((list_fits element s ds few).1 f))).0)
    c.in_err-write_elements.ensures.of_type

pub lists::write_list-loop-fragments-init : goal.lists::write_list-loop-fragments-init
lists::write_list-loop-fragments-init g t c =
    record {
      up_to = fragments_start (takes_laws g.S.Sink.stands g.S.Sink.wants_lengths c.args.level) g.R.WriteLeaves.rules (shape_of c.args.element.now) (g.R.WriteLeaves.rest c.in_ok-fragments.fragments) (g.V.Source.elements_left c.args.elements) c.start_list.new.sink;
      count = c.count_elements-count.ensures;
    }

pub lists::write_list-loop-fragments-preserved : goal.lists::write_list-loop-fragments-preserved
lists::write_list-loop-fragments-preserved g t c =
    let h = c.loop-fragments.invariant in
    let next : Advances (TakesAt g.S.Sink.stands g.S.Sink.wants_lengths c.args.level) g.R.WriteLeaves.rules (g.R.WriteLeaves.rest c.loop-fragments.fragments) c.loop-fragments.many c.loop-fragments.sink (g.R.WriteLeaves.rest c.next_fragment.new.fragments) c.next_fragment.new.sink (Some c.in-Some.next) =
    advances_at (λ a b xs p. takes_pushed g.S.Sink.stands g.S.Sink.wants_lengths c.args.level a b xs (g.met.S.Sink.pushes_stand a b xs p)) g.R.WriteLeaves.rules (g.R.WriteLeaves.rest c.loop-fragments.fragments) (g.R.WriteLeaves.rest c.next_fragment.new.fragments) c.loop-fragments.many c.loop-fragments.sink c.next_fragment.new.sink (Some c.in-Some.next) (rw c.in-Some.is at c.in_ok-next.ensures) in
    record {
      up_to = fragments_next c.keep_write_laws.ensures (g.R.WriteLeaves.rest c.next_fragment.new.fragments) c.in-Some.next c.loop-fragments.many c.next_fragment.new.sink c.write_elements.new.sink (g.V.Source.elements_left c.split_elements-front.result.0) (g.V.Source.elements_left c.split_elements-front.result.1)
          h.up_to h.count next c.split_elements-front.ensures.first c.split_elements-front.ensures.others c.in_ok-write_elements.ensures.of_type c.in_ok-write_elements.ensures.written;
      count = fewer_left (g.V.Source.elements_left c.loop-fragments.left) (g.V.Source.elements_left c.split_elements-front.result.1) c.loop-fragments.many c.in-Some.next h.count c.split_elements-front.ensures.others;
    }

pub lists::write_list-returns-clause-of_type : goal.lists::write_list-returns-clause-of_type
lists::write_list-returns-clause-of_type g t c =
    let element = shape_of c.args.element.now in
    let s = size_range_of c.args.size.now in
    let ds = g.V.Source.elements_left c.args.elements in
    let few : FitsLength s (length ds) = rw c.count_elements-count.ensures at c.length_fits.ensures.0 (rw c.if-not-length_fits.false refl) in
    let end : Advances (TakesAt g.S.Sink.stands g.S.Sink.wants_lengths c.args.level) g.R.WriteLeaves.rules (g.R.WriteLeaves.rest c.loop-fragments.fragments) c.loop-fragments.many c.loop-fragments.sink (g.R.WriteLeaves.rest c.next_fragment.new.fragments) c.next_fragment.new.sink None =
    advances_at (λ a b xs p. takes_pushed g.S.Sink.stands g.S.Sink.wants_lengths c.args.level a b xs (g.met.S.Sink.pushes_stand a b xs p)) g.R.WriteLeaves.rules (g.R.WriteLeaves.rest c.loop-fragments.fragments) (g.R.WriteLeaves.rest c.next_fragment.new.fragments) c.loop-fragments.many c.loop-fragments.sink c.next_fragment.new.sink None (rw c.in_default.is at c.in_ok-next.ensures) in
    (list_fits element s ds few).0 (fragments_fit c.loop-fragments.many c.loop-fragments.invariant.up_to c.loop-fragments.invariant.count end.0)

pub lists::write_list-returns-clause-written : goal.lists::write_list-returns-clause-written
lists::write_list-returns-clause-written g t c =
    let element = shape_of c.args.element.now in
    let s = size_range_of c.args.size.now in
    let ds = g.V.Source.elements_left c.args.elements in
    let end : Advances (TakesAt g.S.Sink.stands g.S.Sink.wants_lengths c.args.level) g.R.WriteLeaves.rules (g.R.WriteLeaves.rest c.loop-fragments.fragments) c.loop-fragments.many c.loop-fragments.sink (g.R.WriteLeaves.rest c.next_fragment.new.fragments) c.next_fragment.new.sink None =
    advances_at (λ a b xs p. takes_pushed g.S.Sink.stands g.S.Sink.wants_lengths c.args.level a b xs (g.met.S.Sink.pushes_stand a b xs p)) g.R.WriteLeaves.rules (g.R.WriteLeaves.rest c.loop-fragments.fragments) (g.R.WriteLeaves.rest c.next_fragment.new.fragments) c.loop-fragments.many c.loop-fragments.sink c.next_fragment.new.sink None (rw c.in_default.is at c.in_ok-next.ensures) in
    list_written (takes_laws g.S.Sink.stands g.S.Sink.wants_lengths c.args.level) c.keep_write_laws.ensures element s (g.R.WriteLeaves.rest c.in_ok-fragments.fragments) ds c.args.sink.now c.start_list.new.sink c.next_fragment.new.sink c.count_elements-count.result
    (λ items n. leaves_at (λ a b xs p. takes_pushed g.S.Sink.stands g.S.Sink.wants_lengths c.args.level a b xs (g.met.S.Sink.pushes_stand a b xs p)) (c.in_ok-fragments.ensures items n)) c.count_elements-count.ensures
    (fragments_end (g.R.WriteLeaves.rest c.next_fragment.new.fragments) c.loop-fragments.many c.next_fragment.new.sink c.loop-fragments.invariant.up_to c.loop-fragments.invariant.count end)

pub lists::write_elements-loop-value-init : goal.lists::write_elements-loop-value-init
lists::write_elements-loop-value-init g t c =
    elements_start (takes_laws g.S.Sink.stands g.S.Sink.wants_lengths c.args.level) g.R.WriteLeaves.rules (shape_of c.args.element.now) (g.V.Source.elements_left c.args.elements) c.args.sink.now

pub lists::write_elements-loop-value-preserved : goal.lists::write_elements-loop-value-preserved
lists::write_elements-loop-value-preserved g t c =
    let d = g.V.Source.datum c.in-Some.value in
    let some : option_map g.V.Source.datum c.next_element.result ≡ Some d = ap (option_map g.V.Source.datum) c.in-Some.is in
    let both = next_value (g.V.Source.elements_left c.loop-value.left) (g.V.Source.elements_left c.next_element.new.elements) d (sym some ∙ c.next_element.ensures.first) c.next_element.ensures.others in
    elements_next c.keep_write_laws.ensures (rw both at c.loop-value.invariant) c.in_ok-write.ensures.of_type c.in_ok-write.ensures.written

-- ---- CHOICE

pub writer::write-write_index-requires-clause-few : goal.writer::write-write_index-requires-clause-few
writer::write-write_index-requires-clause-few g t c =
    few_root c.args.ty.now c.in-Choice.root c.in-Choice.ext c.in-Choice.is c.requires.of_profile c.len-known.result c.len-known.ensures

pub writer::write-write_alternative-requires : goal.writer::write-write_alternative-requires
writer::write-write_alternative-requires g t c κs within =
    let alts = c.deref.result.now in
    let inside : c.in-Some.chosen.0 < length alts = omega (arith, c.if-index-known.true, c.len-known.ensures, c.deref.ensures.len) in
    (search (rules, the_lemmas), (within.0, (within.1.0, (within.1.1.0, (within.1.1.1.0, (within.1.1.1.1.0, (within.1.1.1.1.1.0, (within.1.1.1.1.1.1.0, (within.1.1.1.1.1.1.1.0, (within.1.1.1.1.1.1.1.1, (roots_good c.args.ty.now c.in-Choice.root c.in-Choice.ext c.in-Choice.is c.requires.of_profile alts c.deref.ensures.value, (inside, roots_deep c.args.level c.args.ty.now c.in-Choice.root c.in-Choice.ext c.in-Choice.is c.requires.deep alts c.deref.ensures.value))))))))))))

pub writer::write-returns-then-index-known-clause-of_type : goal.writer::write-returns-then-index-known-clause-of_type
writer::write-returns-then-index-known-clause-of_type g t c =
    tells_by c.write_alternative.result
    (root_fits c.args.ty.now (g.V.Source.datum c.args.value) c.in-Choice.root c.in-Choice.ext c.in-Some.chosen.0 (g.V.Source.datum c.in-Some.chosen.1) c.in-Choice.is c.in-Some.ensures.some c.len-known.result c.len-known.ensures
    c.if-index-known.true c.deref.result.now c.deref.ensures.value)
    c.write_alternative.ensures.of_type

pub writer::write-returns-then-index-known-clause-written : goal.writer::write-returns-then-index-known-clause-written
writer::write-returns-then-index-known-clause-written g t c =
    on_ok_weaker c.write_alternative.result
    (λ e. choice_root_written c.args.ty.now (g.V.Source.datum c.args.value) c.in-Choice.root c.in-Choice.ext c.in-Some.chosen.0 (g.V.Source.datum c.in-Some.chosen.1) c.in-Choice.is c.in-Some.ensures.some c.len-known.result c.len-known.ensures (takes_laws g.S.Sink.stands g.S.Sink.wants_lengths c.args.level) c.keep_write_laws.ensures
    c.if-index-known.true c.deref.result.now c.args.sink.now c.write_index.new.sink c.write_alternative.new.sink c.is_some.result c.deref.ensures.value c.is_some.ensures (pushed_at g.S.Sink.stands g.S.Sink.wants_lengths c.args.level g.met.S.Sink.pushes_stand c.in_ok-write_index-in-Choice.ensures) e)
    c.write_alternative.ensures.written

pub writer::write-write_index-requires-in-Some-ext-clause-few : goal.writer::write-write_index-requires-in-Some-ext-clause-few
writer::write-write_index-requires-in-Some-ext-clause-few g t c =
    few_root c.args.ty.now c.in-Choice.root c.in-Choice.ext c.in-Choice.is c.requires.of_profile c.len-known.result c.len-known.ensures

pub writer::write-write_index-requires-in-Some-ext-clause-within : goal.writer::write-write_index-requires-in-Some-ext-clause-within
writer::write-write_index-requires-in-Some-ext-clause-within g t c =
    let few = few_all c.args.ty.now c.in-Choice.root c.in-Choice.ext c.in-Choice.is c.requires.of_profile c.len-known.result c.len-known.ensures c.in-Some-ext.additions c.in-Some-ext.is in
    omega (arith, c.if-index-known-2.true, few)

pub writer::write-write_added_alternative-requires : goal.writer::write-write_added_alternative-requires
writer::write-write_added_alternative-requires g t c κs within =
    let more = c.deref-in-Some-ext.result.now in
    let inside : c.in-Some.chosen.0 - c.len-known.result < length more = omega (arith, c.if-index-known-2.true, c.deref-in-Some-ext.ensures.len) in
    (search (rules, the_lemmas), (within.0, (within.1.0, (within.1.1.0, (within.1.1.1.0, (within.1.1.1.1.0, (within.1.1.1.1.1.0, (within.1.1.1.1.1.1.0, (within.1.1.1.1.1.1.1.0, (within.1.1.1.1.1.1.1.1, (additions_good c.args.ty.now c.in-Choice.root c.in-Choice.ext c.in-Choice.is c.requires.of_profile c.in-Some-ext.additions more c.in-Some-ext.is c.deref-in-Some-ext.ensures.value, (inside, added_deep c.args.level c.args.ty.now c.in-Choice.root c.in-Choice.ext c.in-Choice.is c.requires.deep c.in-Some-ext.additions more c.in-Some-ext.is c.deref-in-Some-ext.ensures.value))))))))))))

pub writer::write-returns-in_ok-write_index-in-Some-ext-clause-of_type : goal.writer::write-returns-in_ok-write_index-in-Some-ext-clause-of_type
writer::write-returns-in_ok-write_index-in-Some-ext-clause-of_type g t c =
    tells_by c.write_added_alternative.result
    (added_fits c.args.ty.now (g.V.Source.datum c.args.value) c.in-Choice.root c.in-Choice.ext c.in-Some.chosen.0 (g.V.Source.datum c.in-Some.chosen.1) c.in-Choice.is c.in-Some.ensures.some c.len-known.result c.len-known.ensures
    c.if-index-known.false c.in-Some-ext.additions c.deref-in-Some-ext.result.now c.in-Some-ext.is c.deref-in-Some-ext.ensures.value)
    c.write_added_alternative.ensures.of_type

pub writer::write-returns-in_ok-write_index-in-Some-ext-clause-written : goal.writer::write-returns-in_ok-write_index-in-Some-ext-clause-written
writer::write-returns-in_ok-write_index-in-Some-ext-clause-written g t c =
    on_ok_weaker c.write_added_alternative.result
    (λ e. choice_added_written c.args.ty.now (g.V.Source.datum c.args.value) c.in-Choice.root c.in-Choice.ext c.in-Some.chosen.0 (g.V.Source.datum c.in-Some.chosen.1) c.in-Choice.is c.in-Some.ensures.some c.len-known.result c.len-known.ensures (takes_laws g.S.Sink.stands g.S.Sink.wants_lengths c.args.level) c.keep_write_laws.ensures
    c.if-index-known.false c.in-Some-ext.additions c.deref-in-Some-ext.result.now c.args.sink.now c.write_index-in-Some-ext.new.sink c.write_added_alternative.new.sink c.in-Some-ext.is c.deref-in-Some-ext.ensures.value (pushed_at g.S.Sink.stands g.S.Sink.wants_lengths c.args.level g.met.S.Sink.pushes_stand c.in_ok-write_index-in-Some-ext.ensures) e)
    c.write_added_alternative.ensures.written

pub writer::write-returns-in_default-ext-clause-of_type : goal.writer::write-returns-in_default-ext-clause-of_type
writer::write-returns-in_default-ext-clause-of_type g t c = elim c.in_default-ext.branch [
  | writer::write-in_default-ext-via-in-Some-ext+else-index-known-2 w ↦
      past_additions c.args.ty.now (g.V.Source.datum c.args.value) c.in-Choice.root c.in-Choice.ext c.in-Some.chosen.0 (g.V.Source.datum c.in-Some.chosen.1) c.in-Choice.is c.in-Some.ensures.some c.len-known.result c.len-known.ensures
      c.if-index-known.false w.in-Some-ext.additions w.in-Some-ext.is (omega (arith, w.if-index-known-2.false))
  | writer::write-in_default-ext-via-in_default-ext w ↦
      past_root c.args.ty.now (g.V.Source.datum c.args.value) c.in-Choice.root c.in-Choice.ext c.in-Some.chosen.0 (g.V.Source.datum c.in-Some.chosen.1) c.in-Choice.is c.in-Some.ensures.some c.len-known.result c.len-known.ensures
      c.if-index-known.false w.in_default-ext.is
]

pub writer::write_alternative-write-requires : goal.writer::write_alternative-write-requires
writer::write_alternative-write-requires g t c κs within =
    (search (rules, the_lemmas), (within.0, (within.1.0, (within.1.1.0, (within.1.1.1.0, (within.1.1.1.1.0, (within.1.1.1.1.1.0, (within.1.1.1.1.1.1.0, (within.1.1.1.1.1.1.1.0, (within.1.1.1.1.1.1.1.1, (good_at c.args.alternatives.now c.args.index c.index-alternatives-index.result c.requires.of_profile c.requires.inside, (let d = deep_at c.args.alternatives.now c.args.index c.index-alternatives-index.result c.requires.inside in omega (arith, d, c.requires.deep)))))))))))))

pub writer::write_alternative-returns-clause-of_type : goal.writer::write_alternative-returns-clause-of_type
writer::write_alternative-returns-clause-of_type g t c =
    let both = fits_at c.args.alternatives.now c.args.index c.index-alternatives-index.result (g.V.Source.datum c.args.value) c.requires.inside c.index-alternatives-index.is in
    tells_by c.write.result (λ f. both.1 f, λ f. both.0 f) (rw (← c.index-alternatives-index.is) at c.write.ensures.of_type)

pub writer::write_alternative-returns-clause-written : goal.writer::write_alternative-returns-clause-written
writer::write_alternative-returns-clause-written g t c =
    rw (spelled_there g.R.WriteLeaves.rules c.args.alternatives.now c.args.index c.index-alternatives-index.result (g.V.Source.datum c.args.value) c.requires.inside) c.write.ensures.written

pub writer::write_added_alternative-write_open_field-requires : goal.writer::write_added_alternative-write_open_field-requires
writer::write_added_alternative-write_open_field-requires g t c κs within =
    (search (rules, the_lemmas), (within.0, (within.1.0, (within.1.1.0, (within.1.1.1.0, (within.1.1.1.1.0, (within.1.1.1.1.1.0, (within.1.1.1.1.1.1.0, (within.1.1.1.1.1.1.1.0, (within.1.1.1.1.1.1.1.1, (good_at c.args.alternatives.now c.args.index c.index-alternatives-index.result c.requires.of_profile c.requires.inside, (let d = deep_at c.args.alternatives.now c.args.index c.index-alternatives-index.result c.requires.inside in omega (arith, d, c.requires.deep)))))))))))))

pub writer::write_added_alternative-returns-clause-of_type : goal.writer::write_added_alternative-returns-clause-of_type
writer::write_added_alternative-returns-clause-of_type g t c =
    let both = fits_at c.args.alternatives.now c.args.index c.index-alternatives-index.result (g.V.Source.datum c.args.value) c.requires.inside c.index-alternatives-index.is in
    tells_by c.write_open_field.result (λ f. both.1 f, λ f. both.0 f) (rw (← c.index-alternatives-index.is) at c.write_open_field.ensures.of_type)

pub writer::write_added_alternative-returns-clause-written : goal.writer::write_added_alternative-returns-clause-written
writer::write_added_alternative-returns-clause-written g t c =
    rw (spelled_there g.R.WriteLeaves.rules c.args.alternatives.now c.args.index c.index-alternatives-index.result (g.V.Source.datum c.args.value) c.requires.inside) c.write_open_field.ensures.written
