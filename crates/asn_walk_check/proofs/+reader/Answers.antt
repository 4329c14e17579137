use Rattle.std.proofs.Common.{◌≡◌, ◌<◌, ◌≤◌, ◌⊎◌, inl, inr, ◌∷◌, [], ◌++◌, ◌∙◌, true, false, map, Some, None, rules, sym, ap, ◌+◌, ◌-◌, ◌/◌, ◌%◌, ◌^◌, length, vec_len, vec_capacity, refl, arith}
use Rattle.std.specs.Option.{option_map}
use Rattle.std.proofs.lemmas.List.{map-append}
use Rattle.std.proofs.lemmas.Result.{err_from_is_err_and, IfOk-weaker, IfErr-weaker}
use Rattle.asn_values.specs.declared.types.AsnType.{the_lemmas}
use Rattle.asn_values.specs.Datum.{number, components, components_of}
use Rattle.asn_values.specs.declared.types.Need.{Need}
use Rattle.asn_values.specs.declared.types.Need.TheVariants as needs
use Rattle.asn_values.specs.Shape.{sequence, closed, marked, sequence_of}
use Rattle.asn_values.specs.View.{shape_of, datum_of, part_of_field, size_range_of, demand_of, fields_seen, entries_seen}
use Rattle.asn_values.proofs.Components.{shape_of_part}
use Rattle.asn_values.proofs.Parts.{components_of_profile}
use Rattle.asn_values.proofs.InnerTypes.{element_of_profile}
use Rattle.asn_values.proofs.Views.{datum_of-Seq, list_of_elements, datum_of-List}
use Rattle.asn_values.specs.Profile.{InProfile}
use Rattle.asn_bits.specs.Sink.{bit_of}
use Rattle.asn_rules.specs.Languages.{Spells, Row}
use Rattle.asn_rules.specs.Listed.{default_of, Spelt}
use Rattle.asn_rules.proofs.Languages.Leads.{stops_by}
use Rattle.asn_rules.proofs.Components.Listed.{spelt_inhabited, spelt_lawful}
use Rattle.asn_rules.proofs.Components.ListedReading.{nothing_read}
use Rattle.asn_rules.specs.Laws.{AreOctets}
use Rattle.asn_rules.specs.Listed.{bitmap_length}
use Rattle.asn_walk.specs.Ahead.{Next}
use Rattle.asn_walk.specs.Coding.{IsIndexWithin, PreambleOf, added}
use Rattle.asn_walk.specs.Reading.{After, ReadsRoot, absent_additions}
use Rattle.asn_walk.specs.Views.{index_seen, preamble_seen}
use Rattle.asn_walk.proofs.AdditionsRead.{presence_stops_at, open_fields_lead, added_starts, addition_stops, addition_present, addition_absent, added_ends, after_leads, after_nothing}
use Rattle.asn_walk.proofs.ChoicesRead.{choice_few, leads_at_place, open_leads_at_place, choice_stops, root_value_leads, added_value_leads}
use Rattle.asn_walk.proofs.ComponentsRead.{read_starts, next_must, next_either, read_ends, entry_leads}
use Rattle.asn_walk.proofs.Decoding.{units_fill}
use Rattle.asn_walk.proofs.Listing.{appends_none, appends_more, appends_one, appends_end, appends_stops_next, row_appends, start_stops, start_leads, fragments_start, fragments_further, fragments_end, going_stops, going_row_stops, going_nearer, list_size, list_leads}
use Rattle.asn_walk.proofs.OpenRead.{content_of, length_none, octets_stop, value_held, more_held, none_held, value_stops, fill_leads}
use Rattle.asn_walk.proofs.Parts.{fields_part_of, count_of_fields, few_components, marked_type, closed_type, added_of_profile, few_added, good_at, some_root, few_root, few_all, roots_good, additions_good, added_inside}
use Rattle.asn_walk.proofs.SequencesRead.{preamble_stops, some_listed, closed_done, components_stop, none_added, additions_stop, additions_done}
use Rattle.asn_walk.proofs.Widths.{next_part, no_part, demand_of_part, datum_of-Int}
use Rattle.asn_walk_check.proofs.Leading.{some_led, after_others}
use Rattle.asn_walk_check.proofs.+reader.Goals as goal
use Rattle.asn_walk_check.proofs.+reader.Goals.{components::read_open_fields-then-next+in_ok-read_open_field, components::read_open_fields-else-next}

pub reader::read_alternative-read_value-requires : goal.reader::read_alternative-read_value-requires
reader::read_alternative-read_value-requires g t c κs within =
    (search (rules, the_lemmas), (within.0, (within.1, (c.requires.at_unit, good_at c.args.root.now c.args.index c.index-root-index.result c.requires.of_profile c.requires.inside))))

pub reader::read_alternative-returns-clause-done : goal.reader::read_alternative-returns-clause-done
reader::read_alternative-returns-clause-done g t c =
    let lead = leads_at_place g.R.ReadLeaves.rules c.args.root.now c.args.index c.index-root-index.result (g.R.ReadLeaves.rules.to_units c.args.units.now) c.requires.inside in
    IfOk-weaker c.read_value.result _ _ (λ _ s. some_led lead s) c.read_value.ensures.done

pub reader::read_alternative-returns-clause-stop : goal.reader::read_alternative-returns-clause-stop
reader::read_alternative-returns-clause-stop g t c =
    let lead = leads_at_place g.R.ReadLeaves.rules c.args.root.now c.args.index c.index-root-index.result (g.R.ReadLeaves.rules.to_units c.args.units.now) c.requires.inside in
    IfErr-weaker c.read_value.result _ _ (λ why s. stops_by why lead.stops s) c.read_value.ensures.stop

pub reader::read_added_alternative-read_open_field-requires : goal.reader::read_added_alternative-read_open_field-requires
reader::read_added_alternative-read_open_field-requires g t c κs within =
    (search (rules, the_lemmas), (within.0, (within.1, (c.requires.at_unit, good_at c.args.added.now c.args.index c.index-added-index.result c.requires.of_profile c.requires.inside))))

pub reader::read_added_alternative-returns-clause-done : goal.reader::read_added_alternative-returns-clause-done
reader::read_added_alternative-returns-clause-done g t c =
    let lead = open_leads_at_place g.R.ReadLeaves.rules c.args.added.now c.args.index c.index-added-index.result (g.R.ReadLeaves.rules.to_units c.args.units.now) c.requires.inside in
    IfOk-weaker c.read_open_field.result _ _ (λ _ s. some_led lead s) c.read_open_field.ensures.done

pub reader::read_added_alternative-returns-clause-stop : goal.reader::read_added_alternative-returns-clause-stop
reader::read_added_alternative-returns-clause-stop g t c =
    let lead = open_leads_at_place g.R.ReadLeaves.rules c.args.added.now c.args.index c.index-added-index.result (g.R.ReadLeaves.rules.to_units c.args.units.now) c.requires.inside in
    IfErr-weaker c.read_open_field.result _ _ (λ why s. stops_by why lead.stops s) c.read_open_field.ensures.stop

pub reader::read_value-read_list-requires : goal.reader::read_value-read_list-requires
reader::read_value-read_list-requires g t c κs within =
    let element = shape_of c.deref.result.now in
    let s = size_range_of c.in-SeqOf.size in
    let is = list_of_elements c.args.ty.now c.deref.result.now c.in-SeqOf.element c.in-SeqOf.size c.in-SeqOf.is c.deref.ensures in
    let good : InProfile (sequence_of element s) = rw is at c.requires.of_profile in
    (search (rules, the_lemmas), (within.0, (within.1, (c.requires.at_unit, (element_of_profile element s good, list_size element s good)))))

pub reader::read_value-returns-in_err-read_list-in-SeqOf-clause-stop : goal.reader::read_value-returns-in_err-read_list-in-SeqOf-clause-stop
reader::read_value-returns-in_err-read_list-in-SeqOf-clause-stop g t c =
    let element = shape_of c.deref.result.now in
    let s = size_range_of c.in-SeqOf.size in
    let is = list_of_elements c.args.ty.now c.deref.result.now c.in-SeqOf.element c.in-SeqOf.size c.in-SeqOf.is c.deref.ensures in
    let good : InProfile (sequence_of element s) = rw is at c.requires.of_profile in
    let p = err_from_is_err_and c.from_residual-in_err-read_list-in-SeqOf.result c.from_residual-in_err-read_list-in-SeqOf.ensures.1 in
    rw (p.1, p.2, is) (stops_by _ (list_leads g.R.ReadLeaves.rules c.keep_laws.ensures element s (g.R.ReadLeaves.rules.to_units c.args.units.now) good).stops c.in_err-read_list-in-SeqOf.ensures.stop)

pub reader::read_value-returns-in_ok-read_list-in-SeqOf-clause-done : goal.reader::read_value-returns-in_ok-read_list-in-SeqOf-clause-done
reader::read_value-returns-in_ok-read_list-in-SeqOf-clause-done g t c =
    let element = shape_of c.deref.result.now in
    let s = size_range_of c.in-SeqOf.size in
    let is = list_of_elements c.args.ty.now c.deref.result.now c.in-SeqOf.element c.in-SeqOf.size c.in-SeqOf.is c.deref.ensures in
    let good : InProfile (sequence_of element s) = rw is at c.requires.of_profile in
    rw is (some_led (list_leads g.R.ReadLeaves.rules c.keep_laws.ensures element s (g.R.ReadLeaves.rules.to_units c.args.units.now) good) c.in_ok-read_list-in-SeqOf.ensures.done)

pub reader::read_list-returns-in_err-fragments-clause-stop : goal.reader::read_list-returns-in_err-fragments-clause-stop
reader::read_list-returns-in_err-fragments-clause-stop g t c =
    let p = err_from_is_err_and c.from_residual.result c.from_residual.ensures.1 in
    rw (p.1, p.2) (stops_by _ (start_stops g.R.ReadLeaves.rules c.keep_laws.ensures (Spelt g.R.ReadLeaves.rules.code None (shape_of c.args.element.now)) (size_range_of c.args.size.now) (g.R.ReadLeaves.rules.to_units c.args.units.now) c.requires.size (spelt_inhabited g.R.ReadLeaves.rules.code (shape_of c.args.element.now) c.requires.of_profile)) c.in_err-fragments.ensures.stop)

pub reader::read_list-returns-in_err-read_fragments-clause-stop : goal.reader::read_list-returns-in_err-read_fragments-clause-stop
reader::read_list-returns-in_err-read_fragments-clause-stop g t c =
    let p = err_from_is_err_and c.from_residual-in_err-read_fragments.result c.from_residual-in_err-read_fragments.ensures.1 in
    rw (p.1, p.2) (stops_by _ (start_leads g.R.ReadLeaves.rules c.keep_laws.ensures (Spelt g.R.ReadLeaves.rules.code None (shape_of c.args.element.now)) (size_range_of c.args.size.now) c.requires.size c.in_ok-fragments.ensures.done).stops c.in_err-read_fragments.ensures.stop)

pub reader::read_list-returns-clause-done : goal.reader::read_list-returns-clause-done
reader::read_list-returns-clause-done g t c =
    some_led (start_leads g.R.ReadLeaves.rules c.keep_laws.ensures (Spelt g.R.ReadLeaves.rules.code None (shape_of c.args.element.now)) (size_range_of c.args.size.now) c.requires.size c.in_ok-fragments.ensures.done) c.in_ok-read_fragments.ensures.done

pub reader::read_fragments-loop-fragments-init : goal.reader::read_fragments-loop-fragments-init
reader::read_fragments-loop-fragments-init g t c =
    ([], fragments_start g.R.ReadLeaves.rules (Spelt g.R.ReadLeaves.rules.code None (shape_of c.args.element.now)) (g.R.ReadLeaves.rules.to_units c.args.units.now) [] (g.R.ReadLeaves.ahead c.args.fragments), c.requires.between, c.requires.at_unit)

pub reader::read_fragments-returns-in_err-count-clause-stop : goal.reader::read_fragments-returns-in_err-count-clause-stop
reader::read_fragments-returns-in_err-count-clause-stop g t c =
    let p = err_from_is_err_and c.from_residual.result c.from_residual.ensures.1 in
    rw (p.1, p.2) (going_stops _ (spelt_inhabited g.R.ReadLeaves.rules.code (shape_of c.args.element.now) c.requires.of_profile) c.in_err-count.ensures.stop c.loop-fragments.invariant.1.going)

pub reader::read_fragments-loop-fragments-preserved : goal.reader::read_fragments-loop-fragments-preserved
reader::read_fragments-loop-fragments-preserved g t c =
    let next : Next g.R.ReadLeaves.rules.ruling.fielding (g.R.ReadLeaves.ahead c.loop-fragments.fragments) (Some c.in-Some.count) (g.R.ReadLeaves.ahead c.next_fragment.new.fragments) (g.R.ReadLeaves.rules.to_units c.loop-fragments.units) (g.R.ReadLeaves.rules.to_units c.next_fragment.new.units) = rw c.in-Some.is at c.in_ok-count.ensures.done in
    let row = after_others c.loop-fragments.invariant.0 c.in_ok-read_elements.ensures.done.read in
    (c.loop-fragments.invariant.0 ++ c.in_ok-read_elements.ensures.done.value, fragments_further g.R.ReadLeaves.rules c.keep_laws.ensures (spelt_inhabited g.R.ReadLeaves.rules.code (shape_of c.args.element.now) c.requires.of_profile) (spelt_lawful g.R.ReadLeaves.rules.code c.keep_laws.ensures.part None (shape_of c.args.element.now) c.requires.of_profile) next row c.loop-fragments.invariant.1, c.in_ok-count.ensures.between, c.in_ok-read_elements.ensures.at_unit)

pub reader::read_fragments-loop-fragments-smaller : goal.reader::read_fragments-loop-fragments-smaller
reader::read_fragments-loop-fragments-smaller g t c =
    let next : Next g.R.ReadLeaves.rules.ruling.fielding (g.R.ReadLeaves.ahead c.loop-fragments.fragments) (Some c.in-Some.count) (g.R.ReadLeaves.ahead c.next_fragment.new.fragments) (g.R.ReadLeaves.rules.to_units c.loop-fragments.units) (g.R.ReadLeaves.rules.to_units c.next_fragment.new.units) = rw c.in-Some.is at c.in_ok-count.ensures.done in
    let row = after_others c.loop-fragments.invariant.0 c.in_ok-read_elements.ensures.done.read in
    going_nearer next (row_appends row)

pub reader::read_fragments-returns-in_err-read_elements-clause-stop : goal.reader::read_fragments-returns-in_err-read_elements-clause-stop
reader::read_fragments-returns-in_err-read_elements-clause-stop g t c =
    let next : Next g.R.ReadLeaves.rules.ruling.fielding (g.R.ReadLeaves.ahead c.loop-fragments.fragments) (Some c.in-Some.count) (g.R.ReadLeaves.ahead c.next_fragment.new.fragments) (g.R.ReadLeaves.rules.to_units c.loop-fragments.units) (g.R.ReadLeaves.rules.to_units c.next_fragment.new.units) = rw c.in-Some.is at c.in_ok-count.ensures.done in
    let p = err_from_is_err_and c.from_residual-in_err-read_elements.result c.from_residual-in_err-read_elements.ensures.1 in
    rw (p.1, p.2) (stops_by _ (going_row_stops g.R.ReadLeaves.rules c.keep_laws.ensures (spelt_inhabited g.R.ReadLeaves.rules.code (shape_of c.args.element.now) c.requires.of_profile) next c.loop-fragments.invariant.1.going) c.in_err-read_elements.ensures.stop)

pub reader::read_fragments-returns-clause-done : goal.reader::read_fragments-returns-clause-done
reader::read_fragments-returns-clause-done g t c =
    let next : Next g.R.ReadLeaves.rules.ruling.fielding (g.R.ReadLeaves.ahead c.loop-fragments.fragments) None (g.R.ReadLeaves.ahead c.next_fragment.new.fragments) (g.R.ReadLeaves.rules.to_units c.loop-fragments.units) (g.R.ReadLeaves.rules.to_units c.next_fragment.new.units) = rw c.in_default.is at c.in_ok-count.ensures.done in
    record { value = c.loop-fragments.invariant.0; read = after_nothing (fragments_end next c.loop-fragments.invariant.1) }

pub reader::read_elements-loop-i-init : goal.reader::read_elements-loop-i-init
reader::read_elements-loop-i-init g t c =
    ([], appends_none g.R.ReadLeaves.rules.ruling.fielding (Spelt g.R.ReadLeaves.rules.code None (shape_of c.args.element.now)) [] (g.R.ReadLeaves.rules.to_units c.args.units.now), c.requires.at_unit)

pub reader::read_elements-returns-in_err-read_value-clause-stop : goal.reader::read_elements-returns-in_err-read_value-clause-stop
reader::read_elements-returns-in_err-read_value-clause-stop g t c =
    let p = err_from_is_err_and c.from_residual.result c.from_residual.ensures.1 in
    rw (p.1, p.2) (stops_by _ (appends_stops_next c.loop-i.i (c.args.count - (c.loop-i.i + 1)) c.args.count (fields_part_of g.R.ReadLeaves.rules c.keep_laws.ensures) (spelt_lawful g.R.ReadLeaves.rules.code c.keep_laws.ensures.part None (shape_of c.args.element.now) c.requires.of_profile) (spelt_inhabited g.R.ReadLeaves.rules.code (shape_of c.args.element.now) c.requires.of_profile) (omega (arith, c.loop-i-test.true)) c.loop-i.invariant.1) c.in_err-read_value.ensures.stop)

pub reader::read_elements-loop-i-preserved : goal.reader::read_elements-loop-i-preserved
reader::read_elements-loop-i-preserved g t c =
    let one = c.in_ok-read_value.ensures.done in
    (c.loop-i.invariant.0 ++ one.value ∷ [], appends_more c.loop-i.i 1 (c.loop-i.i + 1) refl c.loop-i.invariant.1 (appends_one refl one.read), c.in_ok-read_value.ensures.at_unit)

pub reader::read_elements-returns-clause-done : goal.reader::read_elements-returns-clause-done
reader::read_elements-returns-clause-done g t c =
    let all : c.loop-i.i ≡ c.args.count = omega (arith, c.loop-i-test.false, c.loop-i.auto.i-end) in
    record { value = c.loop-i.invariant.0; read = after_nothing (appends_end (rw all at c.loop-i.invariant.1)) }

pub reader::read_complete-returns-in_err-read_value-clause-stop : goal.reader::read_complete-returns-in_err-read_value-clause-stop
reader::read_complete-returns-in_err-read_value-clause-stop g t c =
    let p = err_from_is_err_and c.from_residual.result c.from_residual.ensures.1 in
    rw (p.1, p.2) (stops_by _ (value_stops g.R.ReadLeaves.rules c.keep_laws.ensures (shape_of c.args.ty.now) c.requires.of_profile (g.R.ReadLeaves.rules.to_units c.args.units.now)) c.in_err-read_value.ensures.stop)

pub reader::read_complete-returns-in_err-read_padding-clause-stop : goal.reader::read_complete-returns-in_err-read_padding-clause-stop
reader::read_complete-returns-in_err-read_padding-clause-stop g t c =
    let p = err_from_is_err_and c.from_residual-in_err-read_padding.result c.from_residual-in_err-read_padding.ensures.1 in
    let lead = fill_leads g.R.ReadLeaves.rules c.keep_laws.ensures (shape_of c.args.ty.now) c.requires.of_profile c.in_ok-read_value.ensures.done.value (g.R.ReadLeaves.rules.to_units c.args.units.now) (g.R.ReadLeaves.rules.to_units c.read_value.new.units) c.in_ok-read_value.ensures.done.read in
    rw (p.1, p.2) (stops_by _ lead.stops (rw c.units_left-given.ensures at c.in_err-read_padding.ensures.stop))

pub reader::read_complete-returns-clause-done : goal.reader::read_complete-returns-clause-done
reader::read_complete-returns-clause-done g t c =
    let lead = fill_leads g.R.ReadLeaves.rules c.keep_laws.ensures (shape_of c.args.ty.now) c.requires.of_profile c.in_ok-read_value.ensures.done.value (g.R.ReadLeaves.rules.to_units c.args.units.now) (g.R.ReadLeaves.rules.to_units c.read_value.new.units) c.in_ok-read_value.ensures.done.read in
    record { value = c.in_ok-read_value.ensures.done.value; read = lead.done c.in_ok-read_padding.field-0 (g.R.ReadLeaves.rules.to_units c.read_padding.new.units) (rw c.units_left-given.ensures at c.in_ok-read_padding.ensures.done) }

pub reader::read_complete-read_padding-requires-clause-octets : goal.reader::read_complete-read_padding-requires-clause-octets
reader::read_complete-read_padding-requires-clause-octets g t c = rw c.units_left-given.ensures c.requires.octets

pub reader::read_open_field-returns-in_err-octets-clause-stop : goal.reader::read_open_field-returns-in_err-octets-clause-stop
reader::read_open_field-returns-in_err-octets-clause-stop g t c =
    let p = err_from_is_err_and c.from_residual.result c.from_residual.ensures.1 in
    rw (p.1, p.2) (stops_by _ (octets_stop g.R.ReadLeaves.rules c.keep_laws.ensures (shape_of c.args.ty.now) c.requires.of_profile (g.R.ReadLeaves.rules.to_units c.args.units.now)) c.in_err-octets.ensures.stop)

pub reader::read_open_field-read_complete-requires : goal.reader::read_open_field-read_complete-requires
reader::read_open_field-read_complete-requires g t c κs within =
    let os = c.in_ok-octets.octets.now in
    let held : AreOctets os = (content_of c.in_ok-octets.ensures.done).2 in
    let over : g.R.ReadLeaves.rules.to_units c.over-content.result ≡ g.R.ReadLeaves.rules.ruling.units os = ap g.R.ReadLeaves.rules.to_units c.over-content.ensures ∙ c.keep_laws.ensures.over os held in
    (search (rules, the_lemmas), (within.0, (within.1, (rw c.over-content.ensures (c.keep_laws.ensures.begin os held), (c.requires.of_profile, rw over (units_fill g.R.ReadLeaves.rules c.keep_laws.ensures os))))))

pub reader::read_open_field-returns-in-Ok-clause-done : goal.reader::read_open_field-returns-in-Ok-clause-done
reader::read_open_field-returns-in-Ok-clause-done g t c =
    let os = c.in_ok-octets.octets.now in
    let held : AreOctets os = (content_of c.in_ok-octets.ensures.done).2 in
    let over : g.R.ReadLeaves.rules.to_units c.over-content.result ≡ g.R.ReadLeaves.rules.ruling.units os = ap g.R.ReadLeaves.rules.to_units c.over-content.ensures ∙ c.keep_laws.ensures.over os held in
    let read = rw over at c.in-Ok.ensures.done.read in
    let none : (g.R.ReadLeaves.rules.to_units c.read_complete.new.units) ≡ [] = length_none _ (sym c.units_left-in-Ok-1.ensures ∙ c.if-units_left-eq0.true) in
    record { value = c.in-Ok.ensures.done.value; read = value_held g.R.ReadLeaves.rules c.keep_laws.ensures (shape_of c.args.ty.now) c.requires.of_profile c.in_ok-octets.ensures.done read none }

pub reader::read_open_field-returns-in-Ok-2-clause-stop : goal.reader::read_open_field-returns-in-Ok-2-clause-stop
reader::read_open_field-returns-in-Ok-2-clause-stop g t c =
    let os = c.in_ok-octets.octets.now in
    let held : AreOctets os = (content_of c.in_ok-octets.ensures.done).2 in
    let over : g.R.ReadLeaves.rules.to_units c.over-content.result ≡ g.R.ReadLeaves.rules.ruling.units os = ap g.R.ReadLeaves.rules.to_units c.over-content.ensures ∙ c.keep_laws.ensures.over os held in
    let read = rw over at c.in-Ok-2.ensures.done.read in
    let more : (g.R.ReadLeaves.rules.to_units c.read_complete.new.units) ≡ [] → ⊥ = λ e. c.if-units_left-eq0.false (c.units_left-in-Ok-1.ensures ∙ ap length e) in
    rw c.units_left.ensures (record { told = more_held g.R.ReadLeaves.rules c.keep_laws.ensures (shape_of c.args.ty.now) c.requires.of_profile c.in_ok-octets.ensures.done read more })

pub reader::read_open_field-returns-in-Err-Short-clause-stop : goal.reader::read_open_field-returns-in-Err-Short-clause-stop
reader::read_open_field-returns-in-Err-Short-clause-stop g t c =
    let os = c.in_ok-octets.octets.now in
    let held : AreOctets os = (content_of c.in_ok-octets.ensures.done).2 in
    let over : g.R.ReadLeaves.rules.to_units c.over-content.result ≡ g.R.ReadLeaves.rules.ruling.units os = ap g.R.ReadLeaves.rules.to_units c.over-content.ensures ∙ c.keep_laws.ensures.over os held in
    let stopped = rw over at c.in-Err-Short.ensures.stop in
    let told = none_held g.R.ReadLeaves.rules c.keep_laws.ensures (shape_of c.args.ty.now) c.requires.of_profile c.in-Err-Short.field-0 (λ e. cc) c.in_ok-octets.ensures.done stopped in
    rw c.units_left.ensures (record { told = told })

pub reader::read_open_field-returns-in-Err-Refused-clause-stop : goal.reader::read_open_field-returns-in-Err-Refused-clause-stop
reader::read_open_field-returns-in-Err-Refused-clause-stop g t c =
    let os = c.in_ok-octets.octets.now in
    let held : AreOctets os = (content_of c.in_ok-octets.ensures.done).2 in
    let over : g.R.ReadLeaves.rules.to_units c.over-content.result ≡ g.R.ReadLeaves.rules.ruling.units os = ap g.R.ReadLeaves.rules.to_units c.over-content.ensures ∙ c.keep_laws.ensures.over os held in
    let stopped = rw over at c.in-Err-Refused.ensures.stop in
    let told = none_held g.R.ReadLeaves.rules c.keep_laws.ensures (shape_of c.args.ty.now) c.requires.of_profile c.in-Err-Refused.field-0 (λ e. cc) c.in_ok-octets.ensures.done stopped in
    rw c.units_left.ensures (record { told = told })

pub components::read_components-loop-field-init : goal.components::read_components-loop-field-init
components::read_components-loop-field-init g t c =
    ([], read_starts g.R.ReadLeaves.rules [] (map part_of_field c.args.fields.now) c.args.presence.left c.args.presence.bitmap (g.R.ReadLeaves.rules.to_units c.args.units.now) c.requires.of_profile c.requires.width c.requires.few, refl, c.requires.at_unit)

pub components::read_components-loop-field-preserved-in-Some : goal.components::read_components-loop-field-preserved-in-Some
components::read_components-loop-field-preserved-in-Some g t c =
    let h = rw (next_part c.args.fields.now c.loop-field.field-index c.field-item.result c.loop-field-test.true c.field-item.is) at c.loop-field.invariant.1 in
    let n = next_must g.R.ReadLeaves.rules c.keep_laws.ensures h (c.in-Some.ensures.must refl) in
    let e = Some (number c.in-Some.field-0) in
    (c.loop-field.invariant.0 ++ e ∷ [], n.more e (g.R.ReadLeaves.rules.to_units c.try_bounded.new.units) c.in-Some.ensures.some, c.loop-field.invariant.2, c.try_bounded.ensures.at_unit)

pub components::read_components-returns-in_err-read_entry-clause-stop : goal.components::read_components-returns-in_err-read_entry-clause-stop
components::read_components-returns-in_err-read_entry-clause-stop g t c =
    let h = rw (next_part c.args.fields.now c.loop-field.field-index c.field-item.result c.loop-field-test.true c.field-item.is) at c.loop-field.invariant.1 in
    let n = next_either g.R.ReadLeaves.rules c.keep_laws.ensures h c.next_of-present.result c.next_of-present.new.self.left c.next_of-present.ensures.must (λ e. (let b = c.next_of-present.ensures.bit e in (b.0, b.1 ∙ ap (λ m. m / 2 ^ c.next_of-present.new.self.left % 2) c.loop-field.invariant.2))) in
    let still : c.try_bounded.new.units ≡ c.loop-field.units = c.in_default.ensures.none refl in
    let p = err_from_is_err_and c.from_residual.result c.from_residual.ensures.1 in
    rw (p.1, p.2) (stops_by _ n.stops (rw still at c.in_err-read_entry.ensures.stop))

pub components::read_components-loop-field-preserved : goal.components::read_components-loop-field-preserved
components::read_components-loop-field-preserved g t c =
    let h = rw (next_part c.args.fields.now c.loop-field.field-index c.field-item.result c.loop-field-test.true c.field-item.is) at c.loop-field.invariant.1 in
    let n = next_either g.R.ReadLeaves.rules c.keep_laws.ensures h c.next_of-present.result c.next_of-present.new.self.left c.next_of-present.ensures.must (λ e. (let b = c.next_of-present.ensures.bit e in (b.0, b.1 ∙ ap (λ m. m / 2 ^ c.next_of-present.new.self.left % 2) c.loop-field.invariant.2))) in
    let still : c.try_bounded.new.units ≡ c.loop-field.units = c.in_default.ensures.none refl in
    let one = c.in_ok-read_entry.ensures.done in
    (c.loop-field.invariant.0 ++ one.value ∷ [], n.more one.value (g.R.ReadLeaves.rules.to_units c.read_entry.new.units) (rw still at one.read), c.next_of-present.ensures.bitmap ∙ c.loop-field.invariant.2, c.in_ok-read_entry.ensures.at_unit)

pub components::read_components-returns-clause-done : goal.components::read_components-returns-clause-done
components::read_components-returns-clause-done g t c =
    record { value = c.loop-field.invariant.0; read = after_nothing (read_ends c.loop-field.invariant.1 (no_part c.args.fields.now c.loop-field.field-index c.loop-field-test.false)) }

pub components::read_entry-returns-then-not-present-clause-done : goal.components::read_entry-returns-then-not-present-clause-done
components::read_entry-returns-then-not-present-clause-done g t c =
    let e : c.args.present ≡ false = c.if-not-present.true in
    let d = default_of (part_of_field c.args.field.now).demand in
    rw e (record { value = d; read = nothing_read g.R.ReadLeaves.rules.ruling.fielding d (g.R.ReadLeaves.rules.to_units c.args.units.now) })

pub components::read_entry-returns-in_err-read_other-in-Default-clause-stop : goal.components::read_entry-returns-in_err-read_other-in-Default-clause-stop
components::read_entry-returns-in_err-read_other-in-Default-clause-stop g t c =
    let e : c.args.present ≡ true = c.if-not-present.false in
    let d : default_of (part_of_field c.args.field.now).demand ≡ Some (datum_of c.in-Default.default) = ap default_of (demand_of_part c.args.field.now ∙ ap demand_of c.in-Default.is) in
    let p = err_from_is_err_and c.from_residual.result c.from_residual.ensures.1 in
    rw (p.1, p.2) (stops_by _ (entry_leads g.R.ReadLeaves.rules c.args.field.now c.args.present _ (g.R.ReadLeaves.rules.to_units c.args.units.now) e d).stops c.in_err-read_other-in-Default.ensures.stop)

pub components::read_entry-returns-in_ok-read_other-in-Default-clause-done : goal.components::read_entry-returns-in_ok-read_other-in-Default-clause-done
components::read_entry-returns-in_ok-read_other-in-Default-clause-done g t c =
    let e : c.args.present ≡ true = c.if-not-present.false in
    let d : default_of (part_of_field c.args.field.now).demand ≡ Some (datum_of c.in-Default.default) = ap default_of (demand_of_part c.args.field.now ∙ ap demand_of c.in-Default.is) in
    record { value = Some (datum_of c.in_ok-read_other-in-Default.field-0); read = (entry_leads g.R.ReadLeaves.rules c.args.field.now c.args.present _ (g.R.ReadLeaves.rules.to_units c.args.units.now) e d).done (datum_of c.in_ok-read_other-in-Default.field-0) (g.R.ReadLeaves.rules.to_units c.read_other.new.units) c.in_ok-read_other-in-Default.ensures.done }

-- a component without a DEFAULT
no_default : (need : Need) → (need ≡ needs.Must) ⊎ (need ≡ needs.Optional) → default_of (demand_of need) ≡ None
no_default need (inl e) = ap (λ n. default_of (demand_of n)) e
no_default need (inr e) = ap (λ n. default_of (demand_of n)) e

pub components::read_entry-returns-in-Some-clause-done : goal.components::read_entry-returns-in-Some-clause-done
components::read_entry-returns-in-Some-clause-done g t c =
    let e : c.args.present ≡ true = c.if-not-present.false in
    let d : default_of (part_of_field c.args.field.now).demand ≡ None = ap default_of (demand_of_part c.args.field.now) ∙ no_default c.args.field.now.need c.in-Must.is in
    record { value = Some (datum_of c.in-Some.field-0); read = (entry_leads g.R.ReadLeaves.rules c.args.field.now c.args.present None (g.R.ReadLeaves.rules.to_units c.args.units.now) e d).done (datum_of c.in-Some.field-0) (g.R.ReadLeaves.rules.to_units c.try_simple.new._units) c.in-Some.ensures.some }

pub components::read_entry-returns-in_default-clause-stop : goal.components::read_entry-returns-in_default-clause-stop
components::read_entry-returns-in_default-clause-stop g t c =
    let e : c.args.present ≡ true = c.if-not-present.false in
    let d : default_of (part_of_field c.args.field.now).demand ≡ None = ap default_of (demand_of_part c.args.field.now) ∙ no_default c.args.field.now.need c.in-Must.is in
    let still : c.try_simple.new._units ≡ c.args.units.now = c.in_default.ensures.none refl in
    IfErr-weaker c.read_value.result _ _ (λ why s. stops_by why (entry_leads g.R.ReadLeaves.rules c.args.field.now c.args.present None (g.R.ReadLeaves.rules.to_units c.args.units.now) e d).stops (rw still at s)) c.read_value.ensures.stop

pub components::read_entry-returns-in_default-clause-done : goal.components::read_entry-returns-in_default-clause-done
components::read_entry-returns-in_default-clause-done g t c =
    let e : c.args.present ≡ true = c.if-not-present.false in
    let d : default_of (part_of_field c.args.field.now).demand ≡ None = ap default_of (demand_of_part c.args.field.now) ∙ no_default c.args.field.now.need c.in-Must.is in
    let still : c.try_simple.new._units ≡ c.args.units.now = c.in_default.ensures.none refl in
    IfOk-weaker c.read_value.result _ _ (λ _ s. some_led (entry_leads g.R.ReadLeaves.rules c.args.field.now c.args.present None (g.R.ReadLeaves.rules.to_units c.args.units.now) e d) (rw still at s)) c.read_value.ensures.done

pub components::read_additions-returns-in_err-bitmap-clause-stop : goal.components::read_additions-returns-in_err-bitmap-clause-stop
components::read_additions-returns-in_err-bitmap-clause-stop g t c =
    let p = err_from_is_err_and c.from_residual.result c.from_residual.ensures.1 in
    rw (p.1, p.2) (stops_by _ (presence_stops_at g.R.ReadLeaves.rules c.keep_laws.ensures c.args.fields.now c.requires.of_profile (g.R.ReadLeaves.rules.to_units c.args.units.now)) c.in_err-bitmap.ensures.stop)

pub components::read_additions-returns-clause-done : goal.components::read_additions-returns-clause-done
components::read_additions-returns-clause-done g t c =
    let lead = open_fields_lead g.R.ReadLeaves.rules c.keep_laws.ensures c.args.fields.now c.requires.of_profile c.in_ok-bitmap.bitmap (g.R.ReadLeaves.rules.to_units c.args.units.now) (g.R.ReadLeaves.rules.to_units c.read_addition_bitmap.new.units) c.in_ok-bitmap.ensures.done in
    IfOk-weaker c.read_open_fields.result _ _ (λ _ s. some_led lead s) c.read_open_fields.ensures.done

pub components::read_additions-returns-clause-stop : goal.components::read_additions-returns-clause-stop
components::read_additions-returns-clause-stop g t c =
    let lead = open_fields_lead g.R.ReadLeaves.rules c.keep_laws.ensures c.args.fields.now c.requires.of_profile c.in_ok-bitmap.bitmap (g.R.ReadLeaves.rules.to_units c.args.units.now) (g.R.ReadLeaves.rules.to_units c.read_addition_bitmap.new.units) c.in_ok-bitmap.ensures.done in
    IfErr-weaker c.read_open_fields.result _ _ (λ why s. stops_by why lead.stops s) c.read_open_fields.ensures.stop

pub components::read_open_fields-loop-field-init : goal.components::read_open_fields-loop-field-init
components::read_open_fields-loop-field-init g t c =
    ([], added_starts g.R.ReadLeaves.rules [] c.args.fields.now c.args.presence.left c.args.presence.bitmap (g.R.ReadLeaves.rules.to_units c.args.units.now) c.requires.of_profile c.requires.width c.requires.few, refl, c.requires.at_unit)

pub components::read_open_fields-returns-in_err-read_open_field-clause-stop : goal.components::read_open_fields-returns-in_err-read_open_field-clause-stop
components::read_open_fields-returns-in_err-read_open_field-clause-stop g t c =
    let h = rw (next_part c.args.fields.now c.loop-field.field-index c.field-item.result c.loop-field-test.true c.field-item.is) at c.loop-field.invariant.1 in
    let after : c.next.new.self.left + 1 ≡ c.loop-field.presence.left = c.next.ensures.bit.0 in
    let bit : 1 ≡ c.args.presence.bitmap / 2 ^ c.next.new.self.left % 2 = ap bit_of (sym c.if-next.true) ∙ c.next.ensures.bit.1 ∙ ap (λ m. m / 2 ^ c.next.new.self.left % 2) c.loop-field.invariant.2 in
    let p = err_from_is_err_and c.from_residual.result c.from_residual.ensures.1 in
    rw (p.1, p.2) (stops_by _ (addition_stops g.R.ReadLeaves.rules c.keep_laws.ensures h c.next.new.self.left after bit) (rw (← shape_of_part c.field-item.result) at c.in_err-read_open_field.ensures.stop))

pub components::read_open_fields-loop-field-preserved : goal.components::read_open_fields-loop-field-preserved
components::read_open_fields-loop-field-preserved g t c =
    let h = rw (next_part c.args.fields.now c.loop-field.field-index c.field-item.result c.loop-field-test.true c.field-item.is) at c.loop-field.invariant.1 in
    let after : c.next.new.self.left + 1 ≡ c.loop-field.presence.left = c.next.ensures.bit.0 in
    let same : c.next.new.self.bitmap ≡ c.args.presence.bitmap = c.next.ensures.bitmap ∙ c.loop-field.invariant.2 in
    elim c.if-next.branch [
      | components::read_open_fields-then-next+in_ok-read_open_field w ↦
          let bit : 1 ≡ c.args.presence.bitmap / 2 ^ c.next.new.self.left % 2 = ap bit_of (sym w.if-next.true) ∙ c.next.ensures.bit.1 ∙ ap (λ m. m / 2 ^ c.next.new.self.left % 2) c.loop-field.invariant.2 in
          let one = w.in_ok-read_open_field.ensures.done in
          rw w.units-is (c.loop-field.invariant.0 ++ Some one.value ∷ [], addition_present g.R.ReadLeaves.rules c.keep_laws.ensures h c.next.new.self.left after bit one.value (g.R.ReadLeaves.rules.to_units w.read_open_field.new.units) (rw (← shape_of_part c.field-item.result) at one.read), same, w.in_ok-read_open_field.ensures.at_unit)
      | components::read_open_fields-else-next w ↦
          let bit : 0 ≡ c.args.presence.bitmap / 2 ^ c.next.new.self.left % 2 = ap bit_of (sym w.if-next.false) ∙ c.next.ensures.bit.1 ∙ ap (λ m. m / 2 ^ c.next.new.self.left % 2) c.loop-field.invariant.2 in
          rw w.units-is (c.loop-field.invariant.0 ++ None ∷ [], addition_absent g.R.ReadLeaves.rules c.keep_laws.ensures h c.next.new.self.left after bit, same, c.loop-field.invariant.3)
    ]

pub components::read_open_fields-returns-clause-done : goal.components::read_open_fields-returns-clause-done
components::read_open_fields-returns-clause-done g t c =
    record { value = c.loop-field.invariant.0; read = after_nothing (added_ends g.R.ReadLeaves.rules c.loop-field.invariant.1 (no_part c.args.fields.now c.loop-field.field-index c.loop-field-test.false)) }

pub reader::read_value-read_index-requires-clause-some : goal.reader::read_value-read_index-requires-clause-some
reader::read_value-read_index-requires-clause-some g t c =
    some_root c.args.ty.now c.in-Choice.root c.in-Choice.ext c.in-Choice.is c.requires.of_profile c.len-known.result c.len-known.ensures

pub reader::read_value-read_index-requires-clause-few : goal.reader::read_value-read_index-requires-clause-few
reader::read_value-read_index-requires-clause-few g t c = choice_few g.R.ReadLeaves.rules c.keep_laws.ensures c.args.ty.now c.in-Choice.root c.in-Choice.ext c.in-Choice.is c.requires.of_profile c.len-known.result c.len-known.ensures c.added_count.result c.added_count.ensures (g.R.ReadLeaves.rules.to_units c.args.units.now)

pub reader::read_value-returns-in_err-index-in-Choice-clause-stop : goal.reader::read_value-returns-in_err-index-in-Choice-clause-stop
reader::read_value-returns-in_err-index-in-Choice-clause-stop g t c =
    let p = err_from_is_err_and c.from_residual-in_err-index-in-Choice.result c.from_residual-in_err-index-in-Choice.ensures.1 in
    rw (p.1, p.2) (stops_by _ (choice_stops g.R.ReadLeaves.rules c.keep_laws.ensures c.args.ty.now c.in-Choice.root c.in-Choice.ext c.in-Choice.is c.requires.of_profile c.len-known.result c.len-known.ensures c.added_count.result c.added_count.ensures (g.R.ReadLeaves.rules.to_units c.args.units.now)) c.in_err-index-in-Choice.ensures.stop)

pub reader::read_value-read_alternative-requires : goal.reader::read_value-read_alternative-requires
reader::read_value-read_alternative-requires g t c κs lives =
    let within : IsIndexWithin c.len-known.result c.added_count.result (index_seen c.in_ok-index-in-Choice.field-0) = c.in_ok-index-in-Choice.ensures.done.spelt.fits in
    let inside : c.in-Root.index < c.len-known.result = rw c.in-Root.is at within in
    (search (rules, the_lemmas), (lives.0, (lives.1, (c.in_ok-index-in-Choice.ensures.at_unit, (roots_good c.args.ty.now c.in-Choice.root c.in-Choice.ext c.in-Choice.is c.requires.of_profile c.deref-in-Root.result.now c.deref-in-Root.ensures.value, omega (arith, inside, c.len-known.ensures, c.deref-in-Root.ensures.len))))))

pub reader::read_value-returns-in_err-read_alternative-in-Root-clause-stop : goal.reader::read_value-returns-in_err-read_alternative-in-Root-clause-stop
reader::read_value-returns-in_err-read_alternative-in-Root-clause-stop g t c =
    let p = err_from_is_err_and c.from_residual-in_err-read_alternative-in-Root.result c.from_residual-in_err-read_alternative-in-Root.ensures.1 in
    let lead = root_value_leads g.R.ReadLeaves.rules c.keep_laws.ensures c.args.ty.now c.in-Choice.root c.in-Choice.ext c.in-Choice.is c.requires.of_profile c.len-known.result c.len-known.ensures c.added_count.result c.added_count.ensures (g.R.ReadLeaves.rules.to_units c.args.units.now) c.in_ok-index-in-Choice.field-0 c.in-Root.index (g.R.ReadLeaves.rules.to_units c.read_index.new.units) c.in_ok-index-in-Choice.ensures.done c.deref-in-Root.result.now c.deref-in-Root.ensures.value c.in-Root.is in
    rw (p.1, p.2) (stops_by _ lead.stops c.in_err-read_alternative-in-Root.ensures.stop)

pub reader::read_value-returns-in_ok-read_alternative-in-Root-clause-done : goal.reader::read_value-returns-in_ok-read_alternative-in-Root-clause-done
reader::read_value-returns-in_ok-read_alternative-in-Root-clause-done g t c =
    let lead = root_value_leads g.R.ReadLeaves.rules c.keep_laws.ensures c.args.ty.now c.in-Choice.root c.in-Choice.ext c.in-Choice.is c.requires.of_profile c.len-known.result c.len-known.ensures c.added_count.result c.added_count.ensures (g.R.ReadLeaves.rules.to_units c.args.units.now) c.in_ok-index-in-Choice.field-0 c.in-Root.index (g.R.ReadLeaves.rules.to_units c.read_index.new.units) c.in_ok-index-in-Choice.ensures.done c.deref-in-Root.result.now c.deref-in-Root.ensures.value c.in-Root.is in
    some_led lead c.in_ok-read_alternative-in-Root.ensures.done

pub reader::read_value-read_added_alternative-requires : goal.reader::read_value-read_added_alternative-requires
reader::read_value-read_added_alternative-requires g t c κs lives =
    let within : IsIndexWithin c.len-known.result c.added_count.result (index_seen c.in_ok-index-in-Choice.field-0) = c.in_ok-index-in-Choice.ensures.done.spelt.fits in
    let inside = added_inside c.len-known.result c.added_count.result c.in-Choice.ext c.in-Some-ext.additions c.in_ok-index-in-Choice.field-0 c.in-Added.index c.added_count.ensures c.in-Some-ext.is c.in-Added.is within in
    (search (rules, the_lemmas), (lives.0, (lives.1, (c.in_ok-index-in-Choice.ensures.at_unit, (additions_good c.args.ty.now c.in-Choice.root c.in-Choice.ext c.in-Choice.is c.requires.of_profile c.in-Some-ext.additions c.deref-in-Added.result.now c.in-Some-ext.is c.deref-in-Added.ensures.value, rw c.deref-in-Added.ensures.len inside)))))

pub reader::read_value-returns-in_err-read_added_alternative-in-Added-clause-stop : goal.reader::read_value-returns-in_err-read_added_alternative-in-Added-clause-stop
reader::read_value-returns-in_err-read_added_alternative-in-Added-clause-stop g t c =
    let p = err_from_is_err_and c.from_residual-in_err-read_added_alternative-in-Added.result c.from_residual-in_err-read_added_alternative-in-Added.ensures.1 in
    let lead = added_value_leads g.R.ReadLeaves.rules c.keep_laws.ensures c.args.ty.now c.in-Choice.root c.in-Choice.ext c.in-Choice.is c.requires.of_profile c.len-known.result c.len-known.ensures c.added_count.result c.added_count.ensures (g.R.ReadLeaves.rules.to_units c.args.units.now) c.in_ok-index-in-Choice.field-0 c.in-Added.index (g.R.ReadLeaves.rules.to_units c.read_index.new.units) c.in_ok-index-in-Choice.ensures.done c.in-Some-ext.additions c.deref-in-Added.result.now c.in-Some-ext.is c.deref-in-Added.ensures.value c.in-Added.is in
    rw (p.1, p.2) (stops_by _ lead.stops c.in_err-read_added_alternative-in-Added.ensures.stop)

pub reader::read_value-returns-in_ok-read_added_alternative-in-Added-clause-done : goal.reader::read_value-returns-in_ok-read_added_alternative-in-Added-clause-done
reader::read_value-returns-in_ok-read_added_alternative-in-Added-clause-done g t c =
    let lead = added_value_leads g.R.ReadLeaves.rules c.keep_laws.ensures c.args.ty.now c.in-Choice.root c.in-Choice.ext c.in-Choice.is c.requires.of_profile c.len-known.result c.len-known.ensures c.added_count.result c.added_count.ensures (g.R.ReadLeaves.rules.to_units c.args.units.now) c.in_ok-index-in-Choice.field-0 c.in-Added.index (g.R.ReadLeaves.rules.to_units c.read_index.new.units) c.in_ok-index-in-Choice.ensures.done c.in-Some-ext.additions c.deref-in-Added.result.now c.in-Some-ext.is c.deref-in-Added.ensures.value c.in-Added.is in
    some_led lead c.in_ok-read_added_alternative-in-Added.ensures.done

pub components::read_root-returns-in_err-preamble-clause-stop : goal.components::read_root-returns-in_err-preamble-clause-stop
components::read_root-returns-in_err-preamble-clause-stop g t c =
    let p = err_from_is_err_and c.from_residual.result c.from_residual.ensures.1 in
    rw (p.1, p.2) (record { stops = λ more good e. stops_by _ (preamble_stops g.R.ReadLeaves.rules c.keep_laws.ensures (fields_seen c.args.root.now) more good (g.R.ReadLeaves.rules.to_units c.args.units.now)) (rw (c.bitmap_width-width.ensures.count, ← e) at c.in_err-preamble.ensures.stop) })

pub components::read_root-returns-in_err-read_components-clause-stop : goal.components::read_root-returns-in_err-read_components-clause-stop
components::read_root-returns-in_err-read_components-clause-stop g t c =
    let p = err_from_is_err_and c.from_residual-in_err-read_components.result c.from_residual-in_err-read_components.ensures.1 in
    rw (p.1, p.2) (record {
      stops = λ more good e.
          (let read : Spells g.R.ReadLeaves.rules.ruling.fielding (PreambleOf g.R.ReadLeaves.rules (bitmap_length (fields_seen c.args.root.now)) (added more)) (preamble_seen c.in_ok-preamble.preamble) (g.R.ReadLeaves.rules.to_units c.args.units.now) (g.R.ReadLeaves.rules.to_units c.read_preamble.new.units) = rw (c.bitmap_width-width.ensures.count, ← e) at c.in_ok-preamble.ensures.done in
          stops_by _ (components_stop g.R.ReadLeaves.rules c.keep_laws.ensures (fields_seen c.args.root.now) more good (preamble_seen c.in_ok-preamble.preamble) (g.R.ReadLeaves.rules.to_units c.args.units.now) (g.R.ReadLeaves.rules.to_units c.read_preamble.new.units) read) (rw c.bitmap_width-width.ensures.count at c.in_err-read_components.ensures.stop));
    })

pub components::read_root-returns-clause-done : goal.components::read_root-returns-clause-done
components::read_root-returns-clause-done g t c =
    let some = c.in_ok-read_components.ensures.done in
    record {
      entries = some.value;
      read = record {
        bitmap = c.in_ok-preamble.preamble.bitmap;
        between = g.R.ReadLeaves.rules.to_units c.read_preamble.new.units;
        preamble = rw c.bitmap_width-width.ensures.count at c.in_ok-preamble.ensures.done;
        components = rw c.bitmap_width-width.ensures.count at some.read;
      };
    }

pub reader::read_value-read_root-requires : goal.reader::read_value-read_root-requires
reader::read_value-read_root-requires g t c κs within =
    let is = closed_type c.args.ty.now c.in-Seq.root c.in-Seq.ext c.as_slice-root.result.now c.in-Seq.is c.in_default.is c.as_slice-root.ensures.value in
    let good : InProfile (sequence (fields_seen c.as_slice-root.result.now) closed) = rw is at c.requires.of_profile in
    (search (rules, the_lemmas), (within.0, (within.1, (c.requires.at_unit, (components_of_profile (fields_seen c.as_slice-root.result.now) closed good, (few_components c.as_slice-root.result.now is c.requires.of_profile, tt))))))

pub reader::read_value-returns-in_err-read_root-in-Seq-clause-stop : goal.reader::read_value-returns-in_err-read_root-in-Seq-clause-stop
reader::read_value-returns-in_err-read_root-in-Seq-clause-stop g t c =
    let is = closed_type c.args.ty.now c.in-Seq.root c.in-Seq.ext c.as_slice-root.result.now c.in-Seq.is c.in_default.is c.as_slice-root.ensures.value in
    let good : InProfile (sequence (fields_seen c.as_slice-root.result.now) closed) = rw is at c.requires.of_profile in
    let p = err_from_is_err_and c.from_residual.result c.from_residual.ensures.1 in
    rw (p.1, p.2, is) (c.in_err-read_root-in-Seq.ensures.stop.stops closed good refl)

pub reader::read_value-returns-in_default-clause-done : goal.reader::read_value-returns-in_default-clause-done
reader::read_value-returns-in_default-clause-done g t c =
    let is = closed_type c.args.ty.now c.in-Seq.root c.in-Seq.ext c.as_slice-root.result.now c.in-Seq.is c.in_default.is c.as_slice-root.ensures.value in
    let good : InProfile (sequence (fields_seen c.as_slice-root.result.now) closed) = rw is at c.requires.of_profile in
    let some = c.in_ok-read_root-in-Seq.ensures.done in
    let h = some.read in
    rw is (record { value = components (components_of some.entries); read = closed_done g.R.ReadLeaves.rules c.keep_laws.ensures (fields_seen c.as_slice-root.result.now) good (_, h.bitmap) (g.R.ReadLeaves.rules.to_units c.args.units.now) h.between h.preamble some.entries (g.R.ReadLeaves.rules.to_units c.read_root.new.units) h.components })

pub reader::read_value-read_root-requires-in-Seq : goal.reader::read_value-read_root-requires-in-Seq
reader::read_value-read_root-requires-in-Seq g t c κs within =
    let is = marked_type c.args.ty.now c.in-Seq.root c.in-Seq.ext c.in-Some.additions c.as_slice-root.result.now c.as_slice-additions.result.now c.in-Seq.is c.in-Some.is c.as_slice-root.ensures.value c.as_slice-additions.ensures.value in
    let good : InProfile (sequence (fields_seen c.as_slice-root.result.now) (marked (fields_seen c.as_slice-additions.result.now))) = rw is at c.requires.of_profile in
    (search (rules, the_lemmas), (within.0, (within.1, (c.requires.at_unit, (components_of_profile (fields_seen c.as_slice-root.result.now) (marked (fields_seen c.as_slice-additions.result.now)) good, (few_components c.as_slice-root.result.now is c.requires.of_profile, few_added c.as_slice-additions.result.now is c.requires.of_profile))))))

pub reader::read_value-returns-in_err-extended-in-Seq-clause-stop : goal.reader::read_value-returns-in_err-extended-in-Seq-clause-stop
reader::read_value-returns-in_err-extended-in-Seq-clause-stop g t c =
    let is = marked_type c.args.ty.now c.in-Seq.root c.in-Seq.ext c.in-Some.additions c.as_slice-root.result.now c.as_slice-additions.result.now c.in-Seq.is c.in-Some.is c.as_slice-root.ensures.value c.as_slice-additions.ensures.value in
    let good : InProfile (sequence (fields_seen c.as_slice-root.result.now) (marked (fields_seen c.as_slice-additions.result.now))) = rw is at c.requires.of_profile in
    let count : Some (length c.as_slice-additions.result.now) ≡ added (marked (fields_seen c.as_slice-additions.result.now)) = ap Some (sym (count_of_fields c.as_slice-additions.result.now)) in
    let p = err_from_is_err_and c.from_residual-in_err-extended-in-Seq.result c.from_residual-in_err-extended-in-Seq.ensures.1 in
    rw (p.1, p.2, is) (c.in_err-extended-in-Seq.ensures.stop.stops (marked (fields_seen c.as_slice-additions.result.now)) good (sym count))

pub reader::read_value-read_additions-requires : goal.reader::read_value-read_additions-requires
reader::read_value-read_additions-requires g t c κs within =
    let is = marked_type c.args.ty.now c.in-Seq.root c.in-Seq.ext c.in-Some.additions c.as_slice-root.result.now c.as_slice-additions.result.now c.in-Seq.is c.in-Some.is c.as_slice-root.ensures.value c.as_slice-additions.ensures.value in
    let good : InProfile (sequence (fields_seen c.as_slice-root.result.now) (marked (fields_seen c.as_slice-additions.result.now))) = rw is at c.requires.of_profile in
    let count : Some (length c.as_slice-additions.result.now) ≡ added (marked (fields_seen c.as_slice-additions.result.now)) = ap Some (sym (count_of_fields c.as_slice-additions.result.now)) in
    let some_root = c.in_ok-extended-in-Seq.ensures.done in
    let h : ReadsRoot g.R.ReadLeaves.rules (fields_seen c.as_slice-root.result.now) (Some (length c.as_slice-additions.result.now)) c.in_ok-extended-in-Seq.extended some_root.entries c.args.units.now c.read_root-in-Seq.new.units = some_root.read in
    let read : Spells g.R.ReadLeaves.rules.ruling.fielding (PreambleOf g.R.ReadLeaves.rules (bitmap_length (fields_seen c.as_slice-root.result.now)) (added (marked (fields_seen c.as_slice-additions.result.now)))) (c.in_ok-extended-in-Seq.extended, h.bitmap) (g.R.ReadLeaves.rules.to_units c.args.units.now) h.between = rw count at h.preamble in
    let some : 0 < length c.as_slice-additions.result.now = rw count_of_fields at (some_listed _ (read.spelt.fits.1 c.if-extended.true)) in
    (search (rules, the_lemmas), (within.0, (within.1, (c.in_ok-extended-in-Seq.ensures.at_unit, (added_of_profile c.as_slice-additions.result.now is c.requires.of_profile, (some, few_added c.as_slice-additions.result.now is c.requires.of_profile))))))

pub reader::read_value-returns-in_err-read_additions-in-Seq-clause-stop : goal.reader::read_value-returns-in_err-read_additions-in-Seq-clause-stop
reader::read_value-returns-in_err-read_additions-in-Seq-clause-stop g t c =
    let is = marked_type c.args.ty.now c.in-Seq.root c.in-Seq.ext c.in-Some.additions c.as_slice-root.result.now c.as_slice-additions.result.now c.in-Seq.is c.in-Some.is c.as_slice-root.ensures.value c.as_slice-additions.ensures.value in
    let good : InProfile (sequence (fields_seen c.as_slice-root.result.now) (marked (fields_seen c.as_slice-additions.result.now))) = rw is at c.requires.of_profile in
    let count : Some (length c.as_slice-additions.result.now) ≡ added (marked (fields_seen c.as_slice-additions.result.now)) = ap Some (sym (count_of_fields c.as_slice-additions.result.now)) in
    let some_root = c.in_ok-extended-in-Seq.ensures.done in
    let h : ReadsRoot g.R.ReadLeaves.rules (fields_seen c.as_slice-root.result.now) (Some (length c.as_slice-additions.result.now)) c.in_ok-extended-in-Seq.extended some_root.entries c.args.units.now c.read_root-in-Seq.new.units = some_root.read in
    let read : Spells g.R.ReadLeaves.rules.ruling.fielding (PreambleOf g.R.ReadLeaves.rules (bitmap_length (fields_seen c.as_slice-root.result.now)) (added (marked (fields_seen c.as_slice-additions.result.now)))) (c.in_ok-extended-in-Seq.extended, h.bitmap) (g.R.ReadLeaves.rules.to_units c.args.units.now) h.between = rw count at h.preamble in
    let p = err_from_is_err_and c.from_residual-in_err-read_additions-in-Seq.result c.from_residual-in_err-read_additions-in-Seq.ensures.1 in
    rw (p.1, p.2, is) (stops_by _ (additions_stop g.R.ReadLeaves.rules c.keep_laws.ensures (fields_seen c.as_slice-root.result.now) (marked (fields_seen c.as_slice-additions.result.now)) good (c.in_ok-extended-in-Seq.extended, h.bitmap) (g.R.ReadLeaves.rules.to_units c.args.units.now) h.between read some_root.entries (g.R.ReadLeaves.rules.to_units c.read_root-in-Seq.new.units) h.components c.if-extended.true) c.in_err-read_additions-in-Seq.ensures.stop)

pub reader::read_value-returns-in_ok-read_additions-in-Seq-clause-done : goal.reader::read_value-returns-in_ok-read_additions-in-Seq-clause-done
reader::read_value-returns-in_ok-read_additions-in-Seq-clause-done g t c =
    let is = marked_type c.args.ty.now c.in-Seq.root c.in-Seq.ext c.in-Some.additions c.as_slice-root.result.now c.as_slice-additions.result.now c.in-Seq.is c.in-Some.is c.as_slice-root.ensures.value c.as_slice-additions.ensures.value in
    let good : InProfile (sequence (fields_seen c.as_slice-root.result.now) (marked (fields_seen c.as_slice-additions.result.now))) = rw is at c.requires.of_profile in
    let count : Some (length c.as_slice-additions.result.now) ≡ added (marked (fields_seen c.as_slice-additions.result.now)) = ap Some (sym (count_of_fields c.as_slice-additions.result.now)) in
    let some_root = c.in_ok-extended-in-Seq.ensures.done in
    let h : ReadsRoot g.R.ReadLeaves.rules (fields_seen c.as_slice-root.result.now) (Some (length c.as_slice-additions.result.now)) c.in_ok-extended-in-Seq.extended some_root.entries c.args.units.now c.read_root-in-Seq.new.units = some_root.read in
    let read : Spells g.R.ReadLeaves.rules.ruling.fielding (PreambleOf g.R.ReadLeaves.rules (bitmap_length (fields_seen c.as_slice-root.result.now)) (added (marked (fields_seen c.as_slice-additions.result.now)))) (c.in_ok-extended-in-Seq.extended, h.bitmap) (g.R.ReadLeaves.rules.to_units c.args.units.now) h.between = rw count at h.preamble in
    let more = c.in_ok-read_additions-in-Seq.ensures.done in
    rw is (record {
      value = components (components_of (some_root.entries ++ more.value));
      read = additions_done g.R.ReadLeaves.rules c.keep_laws.ensures (fields_seen c.as_slice-root.result.now) (marked (fields_seen c.as_slice-additions.result.now)) good (c.in_ok-extended-in-Seq.extended, h.bitmap) (g.R.ReadLeaves.rules.to_units c.args.units.now) h.between read some_root.entries (g.R.ReadLeaves.rules.to_units c.read_root-in-Seq.new.units) h.components c.if-extended.true (some_root.entries ++ more.value) (g.R.ReadLeaves.rules.to_units c.read_additions.new.units) (after_others some_root.entries more.read);
    })

pub reader::read_value-returns-else-extended-clause-done : goal.reader::read_value-returns-else-extended-clause-done
reader::read_value-returns-else-extended-clause-done g t c =
    let is = marked_type c.args.ty.now c.in-Seq.root c.in-Seq.ext c.in-Some.additions c.as_slice-root.result.now c.as_slice-additions.result.now c.in-Seq.is c.in-Some.is c.as_slice-root.ensures.value c.as_slice-additions.ensures.value in
    let good : InProfile (sequence (fields_seen c.as_slice-root.result.now) (marked (fields_seen c.as_slice-additions.result.now))) = rw is at c.requires.of_profile in
    let count : Some (length c.as_slice-additions.result.now) ≡ added (marked (fields_seen c.as_slice-additions.result.now)) = ap Some (sym (count_of_fields c.as_slice-additions.result.now)) in
    let some_root = c.in_ok-extended-in-Seq.ensures.done in
    let h : ReadsRoot g.R.ReadLeaves.rules (fields_seen c.as_slice-root.result.now) (Some (length c.as_slice-additions.result.now)) c.in_ok-extended-in-Seq.extended some_root.entries c.args.units.now c.read_root-in-Seq.new.units = some_root.read in
    let read : Spells g.R.ReadLeaves.rules.ruling.fielding (PreambleOf g.R.ReadLeaves.rules (bitmap_length (fields_seen c.as_slice-root.result.now)) (added (marked (fields_seen c.as_slice-additions.result.now)))) (c.in_ok-extended-in-Seq.extended, h.bitmap) (g.R.ReadLeaves.rules.to_units c.args.units.now) h.between = rw count at h.preamble in
    rw is (record {
      value = components (components_of (some_root.entries ++ absent_additions c.as_slice-additions.result.now));
      read = none_added g.R.ReadLeaves.rules c.keep_laws.ensures (fields_seen c.as_slice-root.result.now) (marked (fields_seen c.as_slice-additions.result.now)) good (c.in_ok-extended-in-Seq.extended, h.bitmap) (g.R.ReadLeaves.rules.to_units c.args.units.now) h.between read some_root.entries (g.R.ReadLeaves.rules.to_units c.read_root-in-Seq.new.units) h.components c.if-extended.false;
    })

pub reader::read_value-returns-in_ok-read_simple-in-Bool-clause-done : goal.reader::read_value-returns-in_ok-read_simple-in-Bool-clause-done
reader::read_value-returns-in_ok-read_simple-in-Bool-clause-done g t c =
    record { value = datum_of c.in_ok-read_simple-in-Bool.field-0; read = c.in_ok-read_simple-in-Bool.ensures.done }
