use Rattle.std.proofs.Common.{take, ◌≡◌, ◌<◌, ◌⊎◌, inl, inr, ◌∷◌, [], ◌++◌, ◌∙◌, true, false, map, Some, None, rules, sym, ap, ◌+◌, ◌-◌, ◌/◌, ◌%◌, ◌^◌, length, refl, arith}
use Rattle.asn_walk_into.proofs.Overwritten.{entry_written, element_written}
use Rattle.std.specs.Option.{option_map}
use Rattle.std.proofs.lemmas.List.{map-append, take_all, length-set, with_items_is, length-append}
use Rattle.std.proofs.lemmas.Result.{err_from_is_err_and, IfOk-weaker, IfErr-weaker}
use Rattle.asn_values.specs.declared.types.AsnType.{the_lemmas}
use Rattle.asn_values.specs.declared.value.Value as views
use Rattle.asn_values.specs.declared.value.Value.TheVariants as value
use Rattle.asn_values.specs.declared.types.Need.{Need}
use Rattle.asn_values.specs.declared.types.Need.TheVariants as needs
use Rattle.asn_values.specs.Shape.{sequence, closed, marked, sequence_of}
use Rattle.asn_values.specs.View.{shape_of, datum_of, part_of_field, size_range_of, demand_of, alternatives_seen, fields_seen, entries_seen}
use Rattle.asn_values.proofs.Components.{shape_of_part}
use Rattle.asn_values.proofs.Parts.{components_of_profile}
use Rattle.asn_values.proofs.InnerTypes.{element_of_profile}
use Rattle.asn_values.proofs.Views.{datum_of-Seq, list_of_elements, datum_of-List, datum_of-Choice}
use Rattle.asn_values.specs.Parts.{IsGoodDemand}
use Rattle.asn_values.specs.Profile.{InProfile}
use Rattle.asn_bits.specs.Sink.{bit_of}
use Rattle.asn_rules.specs.Languages.{Spells, Row}
use Rattle.asn_rules.specs.Listed.{default_of, Spelt}
use Rattle.asn_rules.proofs.Languages.Leads.{stops_by, stops_on}
use Rattle.asn_rules.proofs.Languages.Parts.{map_spells}
use Rattle.std.specs.Vec.{with_items}
use Rattle.std.specs.Box.{with_value}
use Rattle.asn_walk.specs.Coding.{OpenOf, ChosenOf}
use Rattle.asn_rules.proofs.Components.Listed.{spelt_inhabited, spelt_lawful}
use Rattle.asn_rules.proofs.Components.ListedReading.{nothing_read}
use Rattle.asn_rules.specs.Laws.{AreOctets}
use Rattle.asn_rules.specs.Listed.{bitmap_length}
use Rattle.asn_walk.specs.Ahead.{Next}
use Rattle.asn_walk.specs.Coding.{IsIndexWithin, PreambleOf, added}
use Rattle.asn_walk.specs.Reading.{After, ReadsRoot}
use Rattle.asn_walk.specs.Views.{index_seen, preamble_seen}
use Rattle.asn_walk.proofs.AdditionsRead.{presence_stops_at, open_fields_lead, added_starts, addition_stops, addition_present, addition_absent, added_ends, after_nothing}
use Rattle.asn_walk.proofs.ChoicesRead.{choice_few, leads_at_place, open_leads_at_place, choice_stops, root_value_leads, added_value_leads}
use Rattle.asn_walk.proofs.ComponentsRead.{read_starts, next_either, read_ends, entry_leads}
use Rattle.asn_walk.proofs.Decoding.{units_fill}
use Rattle.asn_walk.proofs.Listing.{appends_none, appends_more, appends_one, appends_end, appends_stops_next, row_appends, start_stops, start_leads, fragments_start, fragments_further, fragments_end, going_stops, going_row_stops, going_nearer, list_size, list_leads}
use Rattle.asn_walk.proofs.OpenRead.{content_of, length_none, octets_stop, value_held, more_held, none_held, value_stops, fill_leads}
use Rattle.asn_walk.proofs.Parts.{fields_part_of, count_of_fields, few_components, marked_type, closed_type, added_of_profile, few_added, good_at, some_root, few_root, few_all, roots_good, additions_good, added_inside}
use Rattle.asn_walk.proofs.SequencesRead.{preamble_stops, some_listed, closed_done, components_stop, none_added, additions_stop, additions_done}
use Rattle.asn_walk.proofs.Widths.{next_part, no_part, demand_of_part}
use Rattle.asn_walk_into.proofs.+reader.Goals as goal

pub reader::read_alternative_into-read_into-requires : goal.reader::read_alternative_into-read_into-requires
reader::read_alternative_into-read_into-requires g t c κs within =
    (search (rules, the_lemmas), (within.0, (within.1, (c.requires.at_unit, good_at c.args.root.now c.args.index c.index-root-index.result c.requires.of_profile c.requires.inside))))

pub reader::read_alternative_into-returns-clause-done : goal.reader::read_alternative_into-returns-clause-done
reader::read_alternative_into-returns-clause-done g t c =
    let lead = leads_at_place g.R.ReadLeaves.rules c.args.root.now c.args.index c.index-root-index.result (g.R.ReadLeaves.rules.to_units c.args.units.now) c.requires.inside in
    IfOk-weaker c.read_into.result _ _ (λ _ s. lead.done (datum_of c.read_into.new.slot) (g.R.ReadLeaves.rules.to_units c.read_into.new.units) s) c.read_into.ensures.done

pub reader::read_alternative_into-returns-clause-stop : goal.reader::read_alternative_into-returns-clause-stop
reader::read_alternative_into-returns-clause-stop g t c =
    let lead = leads_at_place g.R.ReadLeaves.rules c.args.root.now c.args.index c.index-root-index.result (g.R.ReadLeaves.rules.to_units c.args.units.now) c.requires.inside in
    IfErr-weaker c.read_into.result _ _ (λ why s. stops_by why lead.stops s) c.read_into.ensures.stop

pub reader::read_added_alternative_into-read_open_into-requires : goal.reader::read_added_alternative_into-read_open_into-requires
reader::read_added_alternative_into-read_open_into-requires g t c κs within =
    (search (rules, the_lemmas), (within.0, (within.1, (c.requires.at_unit, good_at c.args.added.now c.args.index c.index-added-index.result c.requires.of_profile c.requires.inside))))

pub reader::read_added_alternative_into-returns-clause-done : goal.reader::read_added_alternative_into-returns-clause-done
reader::read_added_alternative_into-returns-clause-done g t c =
    let lead = open_leads_at_place g.R.ReadLeaves.rules c.args.added.now c.args.index c.index-added-index.result (g.R.ReadLeaves.rules.to_units c.args.units.now) c.requires.inside in
    IfOk-weaker c.read_open_into.result _ _ (λ _ s. lead.done (datum_of c.read_open_into.new.slot) (g.R.ReadLeaves.rules.to_units c.read_open_into.new.units) s) c.read_open_into.ensures.done

pub reader::read_added_alternative_into-returns-clause-stop : goal.reader::read_added_alternative_into-returns-clause-stop
reader::read_added_alternative_into-returns-clause-stop g t c =
    let lead = open_leads_at_place g.R.ReadLeaves.rules c.args.added.now c.args.index c.index-added-index.result (g.R.ReadLeaves.rules.to_units c.args.units.now) c.requires.inside in
    IfErr-weaker c.read_open_into.result _ _ (λ why s. stops_by why lead.stops s) c.read_open_into.ensures.stop

pub components::read_components_into-loop-field-init : goal.components::read_components_into-loop-field-init
components::read_components_into-loop-field-init g t c =
    (read_starts g.R.ReadLeaves.rules [] (map part_of_field c.args.fields.now) c.args.presence.left c.args.presence.bitmap (g.R.ReadLeaves.rules.to_units c.args.units.now) c.requires.of_profile c.requires.width c.requires.few, refl, refl, c.requires.each, c.requires.at_unit)

-- a component without a DEFAULT
no_default : (need : Need) → (need ≡ needs.Must) ⊎ (need ≡ needs.Optional) → default_of (demand_of need) ≡ None
no_default need (inl e) = ap (λ n. default_of (demand_of n)) e
no_default need (inr e) = ap (λ n. default_of (demand_of n)) e

pub components::read_components_into-loop-field-preserved-then-not-next_of : goal.components::read_components_into-loop-field-preserved-then-not-next_of
components::read_components_into-loop-field-preserved-then-not-next_of g t c =
    let h = rw (next_part c.args.fields.now c.loop-field.field-index c.field-item.result c.loop-field-test.true c.field-item.is) at c.loop-field.invariant.0 in
    let n = next_either g.R.ReadLeaves.rules c.keep_laws.ensures h c.next_of.result c.next_of.new.self.left c.next_of.ensures.must (λ e. (let b = c.next_of.ensures.bit e in (b.0, b.1 ∙ ap (λ m. m / 2 ^ c.next_of.new.self.left % 2) c.loop-field.invariant.1))) in
    let inside : c.loop-field.at < length c.loop-field.entries = omega (arith, c.loop-field-test.true, c.loop-field.invariant.2, c.loop-field.invariant.3) in
    let e : c.next_of.result ≡ false = c.if-not-next_of.true in
    let spell = nothing_read g.R.ReadLeaves.rules.ruling.fielding (default_of (part_of_field c.field-item.result).demand) (g.R.ReadLeaves.rules.to_units c.loop-field.units) in
    let items = entry_written c.loop-field.entries c.loop-field.at c.set_absent.new.entry inside in (
      rw items (n.more (option_map datum_of c.set_absent.new.entry) (g.R.ReadLeaves.rules.to_units c.loop-field.units) (rw (e, c.set_absent.ensures) spell)),
      c.next_of.ensures.bitmap ∙ c.loop-field.invariant.1,
      omega (arith, c.loop-field.invariant.2),
      length-set c.loop-field.entries c.loop-field.at _ ∙ c.loop-field.invariant.3,
      c.loop-field.invariant.4,
    )

pub components::read_components_into-loop-field-preserved-then-try_entry_into : goal.components::read_components_into-loop-field-preserved-then-try_entry_into
components::read_components_into-loop-field-preserved-then-try_entry_into g t c =
    let h = rw (next_part c.args.fields.now c.loop-field.field-index c.field-item.result c.loop-field-test.true c.field-item.is) at c.loop-field.invariant.0 in
    let n = next_either g.R.ReadLeaves.rules c.keep_laws.ensures h c.next_of.result c.next_of.new.self.left c.next_of.ensures.must (λ e. (let b = c.next_of.ensures.bit e in (b.0, b.1 ∙ ap (λ m. m / 2 ^ c.next_of.new.self.left % 2) c.loop-field.invariant.1))) in
    let inside : c.loop-field.at < length c.loop-field.entries = omega (arith, c.loop-field-test.true, c.loop-field.invariant.2, c.loop-field.invariant.3) in
    let e : c.next_of.result ≡ true = c.if-not-next_of.false in
    let items = entry_written c.loop-field.entries c.loop-field.at c.try_entry_into.new.entry inside in (
      rw items (n.more (option_map datum_of c.try_entry_into.new.entry) (g.R.ReadLeaves.rules.to_units c.try_entry_into.new.units) (rw e (c.try_entry_into.ensures.done c.if-try_entry_into.true))),
      c.next_of.ensures.bitmap ∙ c.loop-field.invariant.1,
      omega (arith, c.loop-field.invariant.2),
      length-set c.loop-field.entries c.loop-field.at _ ∙ c.loop-field.invariant.3,
      c.try_entry_into.ensures.at_unit,
    )

pub components::read_components_into-read_other_into-requires-clause-of_profile : goal.components::read_components_into-read_other_into-requires-clause-of_profile
components::read_components_into-read_other_into-requires-clause-of_profile g t c =
    let h = rw (next_part c.args.fields.now c.loop-field.field-index c.field-item.result c.loop-field-test.true c.field-item.is) at c.loop-field.invariant.0 in
    rw (← shape_of_part c.field-item.result) h.of_profile.0

pub components::read_components_into-read_other_into-requires-clause-good : goal.components::read_components_into-read_other_into-requires-clause-good
components::read_components_into-read_other_into-requires-clause-good g t c =
    let h = rw (next_part c.args.fields.now c.loop-field.field-index c.field-item.result c.loop-field-test.true c.field-item.is) at c.loop-field.invariant.0 in
    let d : (part_of_field c.field-item.result).demand ≡ demand_of (needs.Default c.in-Default.default) = demand_of_part c.field-item.result ∙ ap demand_of c.in-Default.is in
    let good : IsGoodDemand (demand_of (needs.Default c.in-Default.default)) (part_of_field c.field-item.result).shape = rw d at h.of_profile.1 in
    rw (← shape_of_part c.field-item.result) good

pub components::read_components_into-loop-field-preserved-in-Ok : goal.components::read_components_into-loop-field-preserved-in-Ok
components::read_components_into-loop-field-preserved-in-Ok g t c =
    let h = rw (next_part c.args.fields.now c.loop-field.field-index c.field-item.result c.loop-field-test.true c.field-item.is) at c.loop-field.invariant.0 in
    let n = next_either g.R.ReadLeaves.rules c.keep_laws.ensures h c.next_of.result c.next_of.new.self.left c.next_of.ensures.must (λ e. (let b = c.next_of.ensures.bit e in (b.0, b.1 ∙ ap (λ m. m / 2 ^ c.next_of.new.self.left % 2) c.loop-field.invariant.1))) in
    let inside : c.loop-field.at < length c.loop-field.entries = omega (arith, c.loop-field-test.true, c.loop-field.invariant.2, c.loop-field.invariant.3) in
    let e : c.next_of.result ≡ true = c.if-not-next_of.false in
    let still : c.try_entry_into.new.units ≡ c.loop-field.units = c.try_entry_into.ensures.none c.if-try_entry_into.false in
    let d : default_of (part_of_field c.field-item.result).demand ≡ Some (datum_of c.in-Default.default) = ap default_of (demand_of_part c.field-item.result ∙ ap demand_of c.in-Default.is) in
    let lead = entry_leads g.R.ReadLeaves.rules c.field-item.result c.next_of.result _ (g.R.ReadLeaves.rules.to_units c.loop-field.units) e d in
    let spell = lead.done (datum_of c.read_other_into.new.slot) (g.R.ReadLeaves.rules.to_units c.read_other_into.new.units) (rw still at c.in-Ok.ensures.done) in
    let items = entry_written c.loop-field.entries c.loop-field.at (Some c.read_other_into.new.slot) inside in (
      rw items (n.more (Some (datum_of c.read_other_into.new.slot)) (g.R.ReadLeaves.rules.to_units c.read_other_into.new.units) spell),
      c.next_of.ensures.bitmap ∙ c.loop-field.invariant.1,
      omega (arith, c.loop-field.invariant.2),
      length-set c.loop-field.entries c.loop-field.at _ ∙ c.loop-field.invariant.3,
      c.in-Ok.ensures.at_unit,
    )

pub components::read_components_into-returns-in-Err-clause-stop : goal.components::read_components_into-returns-in-Err-clause-stop
components::read_components_into-returns-in-Err-clause-stop g t c =
    let h = rw (next_part c.args.fields.now c.loop-field.field-index c.field-item.result c.loop-field-test.true c.field-item.is) at c.loop-field.invariant.0 in
    let n = next_either g.R.ReadLeaves.rules c.keep_laws.ensures h c.next_of.result c.next_of.new.self.left c.next_of.ensures.must (λ e. (let b = c.next_of.ensures.bit e in (b.0, b.1 ∙ ap (λ m. m / 2 ^ c.next_of.new.self.left % 2) c.loop-field.invariant.1))) in
    let e : c.next_of.result ≡ true = c.if-not-next_of.false in
    let still : c.try_entry_into.new.units ≡ c.loop-field.units = c.try_entry_into.ensures.none c.if-try_entry_into.false in
    let d : default_of (part_of_field c.field-item.result).demand ≡ Some (datum_of c.in-Default.default) = ap default_of (demand_of_part c.field-item.result ∙ ap demand_of c.in-Default.is) in
    let lead = entry_leads g.R.ReadLeaves.rules c.field-item.result c.next_of.result _ (g.R.ReadLeaves.rules.to_units c.loop-field.units) e d in
    stops_by _ n.stops (stops_by _ lead.stops (rw still at c.in-Err.ensures.stop))

pub components::read_components_into-loop-field-preserved : goal.components::read_components_into-loop-field-preserved
components::read_components_into-loop-field-preserved g t c =
    let h = rw (next_part c.args.fields.now c.loop-field.field-index c.field-item.result c.loop-field-test.true c.field-item.is) at c.loop-field.invariant.0 in
    let n = next_either g.R.ReadLeaves.rules c.keep_laws.ensures h c.next_of.result c.next_of.new.self.left c.next_of.ensures.must (λ e. (let b = c.next_of.ensures.bit e in (b.0, b.1 ∙ ap (λ m. m / 2 ^ c.next_of.new.self.left % 2) c.loop-field.invariant.1))) in
    let inside : c.loop-field.at < length c.loop-field.entries = omega (arith, c.loop-field-test.true, c.loop-field.invariant.2, c.loop-field.invariant.3) in
    let e : c.next_of.result ≡ true = c.if-not-next_of.false in
    let still : c.try_entry_into.new.units ≡ c.loop-field.units = c.try_entry_into.ensures.none c.if-try_entry_into.false in
    let d : default_of (part_of_field c.field-item.result).demand ≡ None = ap default_of (demand_of_part c.field-item.result) ∙ no_default c.field-item.result.need c.in-Must.is in
    let lead = entry_leads g.R.ReadLeaves.rules c.field-item.result c.next_of.result None (g.R.ReadLeaves.rules.to_units c.loop-field.units) e d in
    let spell = lead.done (datum_of c.read_into.new.slot) (g.R.ReadLeaves.rules.to_units c.read_into.new.units) (rw still at c.in-Ok-read_into.ensures.done) in
    let items = entry_written c.loop-field.entries c.loop-field.at (Some c.read_into.new.slot) inside in (
      rw items (n.more (Some (datum_of c.read_into.new.slot)) (g.R.ReadLeaves.rules.to_units c.read_into.new.units) spell),
      c.next_of.ensures.bitmap ∙ c.loop-field.invariant.1,
      omega (arith, c.loop-field.invariant.2),
      length-set c.loop-field.entries c.loop-field.at _ ∙ c.loop-field.invariant.3,
      c.in-Ok-read_into.ensures.at_unit,
    )

pub components::read_components_into-returns-in-Err-read_into-clause-stop : goal.components::read_components_into-returns-in-Err-read_into-clause-stop
components::read_components_into-returns-in-Err-read_into-clause-stop g t c =
    let h = rw (next_part c.args.fields.now c.loop-field.field-index c.field-item.result c.loop-field-test.true c.field-item.is) at c.loop-field.invariant.0 in
    let n = next_either g.R.ReadLeaves.rules c.keep_laws.ensures h c.next_of.result c.next_of.new.self.left c.next_of.ensures.must (λ e. (let b = c.next_of.ensures.bit e in (b.0, b.1 ∙ ap (λ m. m / 2 ^ c.next_of.new.self.left % 2) c.loop-field.invariant.1))) in
    let e : c.next_of.result ≡ true = c.if-not-next_of.false in
    let still : c.try_entry_into.new.units ≡ c.loop-field.units = c.try_entry_into.ensures.none c.if-try_entry_into.false in
    let d : default_of (part_of_field c.field-item.result).demand ≡ None = ap default_of (demand_of_part c.field-item.result) ∙ no_default c.field-item.result.need c.in-Must.is in
    let lead = entry_leads g.R.ReadLeaves.rules c.field-item.result c.next_of.result None (g.R.ReadLeaves.rules.to_units c.loop-field.units) e d in
    stops_by _ n.stops (stops_by _ lead.stops (rw still at c.in-Err-read_into.ensures.stop))

pub components::read_components_into-returns-clause-done : goal.components::read_components_into-returns-clause-done
components::read_components_into-returns-clause-done g t c =
    let all : take c.loop-field.at c.loop-field.entries ≡ c.loop-field.entries = take_all c.loop-field.at c.loop-field.entries (omega (arith, c.loop-field-test.false, c.loop-field.invariant.2, c.loop-field.invariant.3)) in
    let read = read_ends c.loop-field.invariant.0 (no_part c.args.fields.now c.loop-field.field-index c.loop-field-test.false) in
    after_nothing (rw all at read)

pub reader::read_complete_into-returns-in_err-read_into-clause-stop : goal.reader::read_complete_into-returns-in_err-read_into-clause-stop
reader::read_complete_into-returns-in_err-read_into-clause-stop g t c =
    let p = err_from_is_err_and c.from_residual.result c.from_residual.ensures.1 in
    rw (p.1, p.2) (stops_by _ (value_stops g.R.ReadLeaves.rules c.keep_laws.ensures (shape_of c.args.ty.now) c.requires.of_profile (g.R.ReadLeaves.rules.to_units c.args.units.now)) c.in_err-read_into.ensures.stop)

pub reader::read_complete_into-returns-clause-stop : goal.reader::read_complete_into-returns-clause-stop
reader::read_complete_into-returns-clause-stop g t c =
    let lead = fill_leads g.R.ReadLeaves.rules c.keep_laws.ensures (shape_of c.args.ty.now) c.requires.of_profile (datum_of c.read_into.new.slot) (g.R.ReadLeaves.rules.to_units c.args.units.now) (g.R.ReadLeaves.rules.to_units c.read_into.new.units) c.in_ok-read_into.ensures.done in
    IfErr-weaker c.read_padding.result _ _ (λ why s. stops_by why lead.stops (rw c.units_left-given.ensures at s)) c.read_padding.ensures.stop

pub reader::read_complete_into-returns-clause-done : goal.reader::read_complete_into-returns-clause-done
reader::read_complete_into-returns-clause-done g t c =
    let lead = fill_leads g.R.ReadLeaves.rules c.keep_laws.ensures (shape_of c.args.ty.now) c.requires.of_profile (datum_of c.read_into.new.slot) (g.R.ReadLeaves.rules.to_units c.args.units.now) (g.R.ReadLeaves.rules.to_units c.read_into.new.units) c.in_ok-read_into.ensures.done in
    IfOk-weaker c.read_padding.result _ _ (λ v s. lead.done v (g.R.ReadLeaves.rules.to_units c.read_padding.new.units) (rw c.units_left-given.ensures at s)) c.read_padding.ensures.done

pub reader::read_complete_into-read_padding-requires-clause-octets : goal.reader::read_complete_into-read_padding-requires-clause-octets
reader::read_complete_into-read_padding-requires-clause-octets g t c = rw c.units_left-given.ensures c.requires.octets

pub reader::read_open_into-returns-in_err-octets-clause-stop : goal.reader::read_open_into-returns-in_err-octets-clause-stop
reader::read_open_into-returns-in_err-octets-clause-stop g t c =
    let p = err_from_is_err_and c.from_residual.result c.from_residual.ensures.1 in
    rw (p.1, p.2) (stops_by _ (octets_stop g.R.ReadLeaves.rules c.keep_laws.ensures (shape_of c.args.ty.now) c.requires.of_profile (g.R.ReadLeaves.rules.to_units c.args.units.now)) c.in_err-octets.ensures.stop)

pub reader::read_open_into-read_complete_into-requires : goal.reader::read_open_into-read_complete_into-requires
reader::read_open_into-read_complete_into-requires g t c κs within =
    let os = c.in_ok-octets.octets.now in
    let held : AreOctets os = (content_of c.in_ok-octets.ensures.done).2 in
    let over : g.R.ReadLeaves.rules.to_units c.over-content.result ≡ g.R.ReadLeaves.rules.ruling.units os = ap g.R.ReadLeaves.rules.to_units c.over-content.ensures ∙ c.keep_laws.ensures.over os held in
    (search (rules, the_lemmas), (within.0, (within.1, (rw c.over-content.ensures (c.keep_laws.ensures.begin os held), (c.requires.of_profile, rw over (units_fill g.R.ReadLeaves.rules c.keep_laws.ensures os))))))

pub reader::read_open_into-returns-in-Ok-clause-done : goal.reader::read_open_into-returns-in-Ok-clause-done
reader::read_open_into-returns-in-Ok-clause-done g t c =
    let os = c.in_ok-octets.octets.now in
    let held : AreOctets os = (content_of c.in_ok-octets.ensures.done).2 in
    let over : g.R.ReadLeaves.rules.to_units c.over-content.result ≡ g.R.ReadLeaves.rules.ruling.units os = ap g.R.ReadLeaves.rules.to_units c.over-content.ensures ∙ c.keep_laws.ensures.over os held in
    let read = rw over at c.in-Ok.ensures.done in
    let none : (g.R.ReadLeaves.rules.to_units c.read_complete_into.new.units) ≡ [] = length_none _ (sym c.units_left-in-Ok-1.ensures ∙ c.if-units_left-eq0.true) in
    value_held g.R.ReadLeaves.rules c.keep_laws.ensures (shape_of c.args.ty.now) c.requires.of_profile c.in_ok-octets.ensures.done read none

pub reader::read_open_into-returns-in-Ok-2-clause-stop : goal.reader::read_open_into-returns-in-Ok-2-clause-stop
reader::read_open_into-returns-in-Ok-2-clause-stop g t c =
    let os = c.in_ok-octets.octets.now in
    let held : AreOctets os = (content_of c.in_ok-octets.ensures.done).2 in
    let over : g.R.ReadLeaves.rules.to_units c.over-content.result ≡ g.R.ReadLeaves.rules.ruling.units os = ap g.R.ReadLeaves.rules.to_units c.over-content.ensures ∙ c.keep_laws.ensures.over os held in
    let read = rw over at c.in-Ok-2.ensures.done in
    let more : (g.R.ReadLeaves.rules.to_units c.read_complete_into.new.units) ≡ [] → ⊥ = λ e. c.if-units_left-eq0.false (c.units_left-in-Ok-1.ensures ∙ ap length e) in
    rw c.units_left.ensures (record { told = more_held g.R.ReadLeaves.rules c.keep_laws.ensures (shape_of c.args.ty.now) c.requires.of_profile c.in_ok-octets.ensures.done read more })

pub reader::read_open_into-returns-in-Err-Short-clause-stop : goal.reader::read_open_into-returns-in-Err-Short-clause-stop
reader::read_open_into-returns-in-Err-Short-clause-stop g t c =
    let os = c.in_ok-octets.octets.now in
    let held : AreOctets os = (content_of c.in_ok-octets.ensures.done).2 in
    let over : g.R.ReadLeaves.rules.to_units c.over-content.result ≡ g.R.ReadLeaves.rules.ruling.units os = ap g.R.ReadLeaves.rules.to_units c.over-content.ensures ∙ c.keep_laws.ensures.over os held in
    let stopped = rw over at c.in-Err-Short.ensures.stop in
    let told = none_held g.R.ReadLeaves.rules c.keep_laws.ensures (shape_of c.args.ty.now) c.requires.of_profile c.in-Err-Short.field-0 (λ e. cc) c.in_ok-octets.ensures.done stopped in
    rw c.units_left.ensures (record { told = told })

pub reader::read_open_into-returns-in-Err-Refused-clause-stop : goal.reader::read_open_into-returns-in-Err-Refused-clause-stop
reader::read_open_into-returns-in-Err-Refused-clause-stop g t c =
    let os = c.in_ok-octets.octets.now in
    let held : AreOctets os = (content_of c.in_ok-octets.ensures.done).2 in
    let over : g.R.ReadLeaves.rules.to_units c.over-content.result ≡ g.R.ReadLeaves.rules.ruling.units os = ap g.R.ReadLeaves.rules.to_units c.over-content.ensures ∙ c.keep_laws.ensures.over os held in
    let stopped = rw over at c.in-Err-Refused.ensures.stop in
    let told = none_held g.R.ReadLeaves.rules c.keep_laws.ensures (shape_of c.args.ty.now) c.requires.of_profile c.in-Err-Refused.field-0 (λ e. cc) c.in_ok-octets.ensures.done stopped in
    rw c.units_left.ensures (record { told = told })

pub components::read_additions_into-returns-in_err-bitmap-clause-stop : goal.components::read_additions_into-returns-in_err-bitmap-clause-stop
components::read_additions_into-returns-in_err-bitmap-clause-stop g t c =
    let p = err_from_is_err_and c.from_residual.result c.from_residual.ensures.1 in
    rw (p.1, p.2) (stops_by _ (presence_stops_at g.R.ReadLeaves.rules c.keep_laws.ensures c.args.fields.now c.requires.of_profile (g.R.ReadLeaves.rules.to_units c.args.units.now)) c.in_err-bitmap.ensures.stop)

pub components::read_additions_into-returns-clause-done : goal.components::read_additions_into-returns-clause-done
components::read_additions_into-returns-clause-done g t c =
    let lead = open_fields_lead g.R.ReadLeaves.rules c.keep_laws.ensures c.args.fields.now c.requires.of_profile c.in_ok-bitmap.bitmap (g.R.ReadLeaves.rules.to_units c.args.units.now) (g.R.ReadLeaves.rules.to_units c.read_addition_bitmap.new.units) c.in_ok-bitmap.ensures.done in
    IfOk-weaker c.read_open_fields_into.result _ _ (λ _ s. lead.done (entries_seen c.read_open_fields_into.new.entries) (g.R.ReadLeaves.rules.to_units c.read_open_fields_into.new.units) s) c.read_open_fields_into.ensures.done

pub components::read_additions_into-returns-clause-stop : goal.components::read_additions_into-returns-clause-stop
components::read_additions_into-returns-clause-stop g t c =
    let lead = open_fields_lead g.R.ReadLeaves.rules c.keep_laws.ensures c.args.fields.now c.requires.of_profile c.in_ok-bitmap.bitmap (g.R.ReadLeaves.rules.to_units c.args.units.now) (g.R.ReadLeaves.rules.to_units c.read_addition_bitmap.new.units) c.in_ok-bitmap.ensures.done in
    IfErr-weaker c.read_open_fields_into.result _ _ (λ why s. stops_by why lead.stops s) c.read_open_fields_into.ensures.stop

pub components::read_open_fields_into-loop-field-init : goal.components::read_open_fields_into-loop-field-init
components::read_open_fields_into-loop-field-init g t c =
    (added_starts g.R.ReadLeaves.rules [] c.args.fields.now c.args.presence.left c.args.presence.bitmap (g.R.ReadLeaves.rules.to_units c.args.units.now) c.requires.of_profile c.requires.width c.requires.few, refl, refl, c.requires.each, c.requires.at_unit)

pub components::read_open_fields_into-returns-in_err-read_open_into-clause-stop : goal.components::read_open_fields_into-returns-in_err-read_open_into-clause-stop
components::read_open_fields_into-returns-in_err-read_open_into-clause-stop g t c =
    let h = rw (next_part c.args.fields.now c.loop-field.field-index c.field-item.result c.loop-field-test.true c.field-item.is) at c.loop-field.invariant.0 in
    let after : c.next.new.self.left + 1 ≡ c.loop-field.presence.left = c.next.ensures.bit.0 in
    let bit : 1 ≡ c.args.presence.bitmap / 2 ^ c.next.new.self.left % 2 = ap bit_of (sym c.if-not-next.false) ∙ c.next.ensures.bit.1 ∙ ap (λ m. m / 2 ^ c.next.new.self.left % 2) c.loop-field.invariant.1 in
    let p = err_from_is_err_and c.from_residual.result c.from_residual.ensures.1 in
    rw (p.1, p.2) (stops_by _ (addition_stops g.R.ReadLeaves.rules c.keep_laws.ensures h c.next.new.self.left after bit) (rw (← shape_of_part c.field-item.result) at c.in_err-read_open_into.ensures.stop))

pub components::read_open_fields_into-loop-field-preserved : goal.components::read_open_fields_into-loop-field-preserved
components::read_open_fields_into-loop-field-preserved g t c =
    let h = rw (next_part c.args.fields.now c.loop-field.field-index c.field-item.result c.loop-field-test.true c.field-item.is) at c.loop-field.invariant.0 in
    let after : c.next.new.self.left + 1 ≡ c.loop-field.presence.left = c.next.ensures.bit.0 in
    let same : c.next.new.self.bitmap ≡ c.args.presence.bitmap = c.next.ensures.bitmap ∙ c.loop-field.invariant.1 in
    let bit : 1 ≡ c.args.presence.bitmap / 2 ^ c.next.new.self.left % 2 = ap bit_of (sym c.if-not-next.false) ∙ c.next.ensures.bit.1 ∙ ap (λ m. m / 2 ^ c.next.new.self.left % 2) c.loop-field.invariant.1 in
    let inside : c.loop-field.at < length c.loop-field.entries = omega (arith, c.loop-field-test.true, c.loop-field.invariant.2, c.loop-field.invariant.3) in
    let items = entry_written c.loop-field.entries c.loop-field.at (Some c.read_open_into.new.slot) inside in (
      rw items (addition_present g.R.ReadLeaves.rules c.keep_laws.ensures h c.next.new.self.left after bit (datum_of c.read_open_into.new.slot) (g.R.ReadLeaves.rules.to_units c.read_open_into.new.units) (rw (← shape_of_part c.field-item.result) at c.in_ok-read_open_into.ensures.done)),
      same,
      omega (arith, c.loop-field.invariant.2),
      length-set c.loop-field.entries c.loop-field.at _ ∙ c.loop-field.invariant.3,
      c.in_ok-read_open_into.ensures.at_unit,
    )

pub components::read_open_fields_into-loop-field-preserved-then-not-next : goal.components::read_open_fields_into-loop-field-preserved-then-not-next
components::read_open_fields_into-loop-field-preserved-then-not-next g t c =
    let h = rw (next_part c.args.fields.now c.loop-field.field-index c.field-item.result c.loop-field-test.true c.field-item.is) at c.loop-field.invariant.0 in
    let after : c.next.new.self.left + 1 ≡ c.loop-field.presence.left = c.next.ensures.bit.0 in
    let same : c.next.new.self.bitmap ≡ c.args.presence.bitmap = c.next.ensures.bitmap ∙ c.loop-field.invariant.1 in
    let bit : 0 ≡ c.args.presence.bitmap / 2 ^ c.next.new.self.left % 2 = ap bit_of (sym c.if-not-next.true) ∙ c.next.ensures.bit.1 ∙ ap (λ m. m / 2 ^ c.next.new.self.left % 2) c.loop-field.invariant.1 in
    let inside : c.loop-field.at < length c.loop-field.entries = omega (arith, c.loop-field-test.true, c.loop-field.invariant.2, c.loop-field.invariant.3) in
    let items = entry_written c.loop-field.entries c.loop-field.at None inside in (
      rw items (addition_absent g.R.ReadLeaves.rules c.keep_laws.ensures h c.next.new.self.left after bit),
      same,
      omega (arith, c.loop-field.invariant.2),
      length-set c.loop-field.entries c.loop-field.at _ ∙ c.loop-field.invariant.3,
      c.loop-field.invariant.4,
    )

pub components::read_open_fields_into-returns-clause-done : goal.components::read_open_fields_into-returns-clause-done
components::read_open_fields_into-returns-clause-done g t c =
    let all : take c.loop-field.at c.loop-field.entries ≡ c.loop-field.entries = take_all c.loop-field.at c.loop-field.entries (omega (arith, c.loop-field-test.false, c.loop-field.invariant.2, c.loop-field.invariant.3)) in
    let read = added_ends g.R.ReadLeaves.rules c.loop-field.invariant.0 (no_part c.args.fields.now c.loop-field.field-index c.loop-field-test.false) in
    after_nothing (rw all at read)

pub reader::read_elements_into-loop-i-init : goal.reader::read_elements_into-loop-i-init
reader::read_elements_into-loop-i-init g t c =
    let none : c.args.start + 0 ≡ c.args.start = omega arith in
    (rw none (appends_none g.R.ReadLeaves.rules.ruling.fielding (Spelt g.R.ReadLeaves.rules.code None (shape_of c.args.element.now)) (map datum_of (take c.args.start c.args.elements.now.items)) (g.R.ReadLeaves.rules.to_units c.args.units.now)), omega (arith, c.requires.inside), c.requires.at_unit)

pub reader::read_elements_into-returns-in_err-read_into-clause-stop : goal.reader::read_elements_into-returns-in_err-read_into-clause-stop
reader::read_elements_into-returns-in_err-read_into-clause-stop g t c =
    let p = err_from_is_err_and c.from_residual-in_err-read_into.result c.from_residual-in_err-read_into.ensures.1 in
    rw (p.1, p.2) (stops_by _ (appends_stops_next c.loop-i.i (c.args.count - (c.loop-i.i + 1)) c.args.count (fields_part_of g.R.ReadLeaves.rules c.keep_laws.ensures) (spelt_lawful g.R.ReadLeaves.rules.code c.keep_laws.ensures.part None (shape_of c.args.element.now) c.requires.of_profile) (spelt_inhabited g.R.ReadLeaves.rules.code (shape_of c.args.element.now) c.requires.of_profile) (omega (arith, c.loop-i-test.true)) c.loop-i.invariant.0) c.in_err-read_into.ensures.stop)

pub reader::read_elements_into-loop-i-preserved : goal.reader::read_elements_into-loop-i-preserved
reader::read_elements_into-loop-i-preserved g t c =
    let there = c.in_ok-make_element.ensures.there in
    let next : c.args.start + (c.loop-i.i + 1) ≡ c.args.start + c.loop-i.i + 1 = omega arith in
    let items = element_written c.make_element.new.elements.items (c.args.start + c.loop-i.i) c.read_into.new.slot (omega (arith, there, c.make_element.new.elements.ok.0)) ∙ ap (λ vs. map datum_of vs ++ datum_of c.read_into.new.slot ∷ []) c.in_ok-make_element.ensures.kept in (
      rw next (appends_more c.loop-i.i 1 (c.loop-i.i + 1) refl c.loop-i.invariant.0 (appends_one items c.in_ok-read_into.ensures.done)),
      omega (arith, there),
      c.in_ok-read_into.ensures.at_unit,
    )

pub reader::read_elements_into-returns-clause-done : goal.reader::read_elements_into-returns-clause-done
reader::read_elements_into-returns-clause-done g t c =
    let all : c.loop-i.i ≡ c.args.count = omega (arith, c.loop-i-test.false, c.loop-i.auto.i-end) in
    appends_end (rw all at c.loop-i.invariant.0)

pub reader::read_fragments_into-loop-fragments-init : goal.reader::read_fragments_into-loop-fragments-init
reader::read_fragments_into-loop-fragments-init g t c =
    (fragments_start g.R.ReadLeaves.rules (Spelt g.R.ReadLeaves.rules.code None (shape_of c.args.element.now)) (g.R.ReadLeaves.rules.to_units c.args.units.now) [] (g.R.ReadLeaves.ahead c.args.fragments), omega arith, c.requires.between, c.requires.at_unit)

pub reader::read_fragments_into-returns-in_err-count-clause-stop : goal.reader::read_fragments_into-returns-in_err-count-clause-stop
reader::read_fragments_into-returns-in_err-count-clause-stop g t c =
    let p = err_from_is_err_and c.from_residual.result c.from_residual.ensures.1 in
    rw (p.1, p.2) (going_stops _ (spelt_inhabited g.R.ReadLeaves.rules.code (shape_of c.args.element.now) c.requires.of_profile) c.in_err-count.ensures.stop c.loop-fragments.invariant.0.going)

pub reader::read_fragments_into-loop-fragments-preserved : goal.reader::read_fragments_into-loop-fragments-preserved
reader::read_fragments_into-loop-fragments-preserved g t c =
    let next : Next g.R.ReadLeaves.rules.ruling.fielding (g.R.ReadLeaves.ahead c.loop-fragments.fragments) (Some c.in-Some.count) (g.R.ReadLeaves.ahead c.next_fragment.new.fragments) (g.R.ReadLeaves.rules.to_units c.loop-fragments.units) (g.R.ReadLeaves.rules.to_units c.next_fragment.new.units) = rw c.in-Some.is at c.in_ok-count.ensures.done in
    let row : Spells g.R.ReadLeaves.rules.ruling.fielding (After (map datum_of (take c.loop-fragments.start c.loop-fragments.elements.items)) (Row (Spelt g.R.ReadLeaves.rules.code None (shape_of c.args.element.now)) c.in-Some.count)) (map datum_of (take (c.loop-fragments.start + c.in-Some.count) c.read_elements_into.new.elements.items)) (g.R.ReadLeaves.rules.to_units c.next_fragment.new.units) (g.R.ReadLeaves.rules.to_units c.read_elements_into.new.units) = rw c.in_ok-reserve.ensures.items at c.in_ok-read_elements_into.ensures.done in
    (fragments_further g.R.ReadLeaves.rules c.keep_laws.ensures (spelt_inhabited g.R.ReadLeaves.rules.code (shape_of c.args.element.now) c.requires.of_profile) (spelt_lawful g.R.ReadLeaves.rules.code c.keep_laws.ensures.part None (shape_of c.args.element.now) c.requires.of_profile) next row c.loop-fragments.invariant.0, c.in_ok-read_elements_into.ensures.inside, c.in_ok-count.ensures.between, c.in_ok-read_elements_into.ensures.at_unit)

pub reader::read_fragments_into-loop-fragments-smaller : goal.reader::read_fragments_into-loop-fragments-smaller
reader::read_fragments_into-loop-fragments-smaller g t c =
    let next : Next g.R.ReadLeaves.rules.ruling.fielding (g.R.ReadLeaves.ahead c.loop-fragments.fragments) (Some c.in-Some.count) (g.R.ReadLeaves.ahead c.next_fragment.new.fragments) (g.R.ReadLeaves.rules.to_units c.loop-fragments.units) (g.R.ReadLeaves.rules.to_units c.next_fragment.new.units) = rw c.in-Some.is at c.in_ok-count.ensures.done in
    let row : Spells g.R.ReadLeaves.rules.ruling.fielding (After (map datum_of (take c.loop-fragments.start c.loop-fragments.elements.items)) (Row (Spelt g.R.ReadLeaves.rules.code None (shape_of c.args.element.now)) c.in-Some.count)) (map datum_of (take (c.loop-fragments.start + c.in-Some.count) c.read_elements_into.new.elements.items)) (g.R.ReadLeaves.rules.to_units c.next_fragment.new.units) (g.R.ReadLeaves.rules.to_units c.read_elements_into.new.units) = rw c.in_ok-reserve.ensures.items at c.in_ok-read_elements_into.ensures.done in
    going_nearer next (row_appends row)

pub reader::read_fragments_into-returns-in_err-read_elements_into-clause-stop : goal.reader::read_fragments_into-returns-in_err-read_elements_into-clause-stop
reader::read_fragments_into-returns-in_err-read_elements_into-clause-stop g t c =
    let next : Next g.R.ReadLeaves.rules.ruling.fielding (g.R.ReadLeaves.ahead c.loop-fragments.fragments) (Some c.in-Some.count) (g.R.ReadLeaves.ahead c.next_fragment.new.fragments) (g.R.ReadLeaves.rules.to_units c.loop-fragments.units) (g.R.ReadLeaves.rules.to_units c.next_fragment.new.units) = rw c.in-Some.is at c.in_ok-count.ensures.done in
    let p = err_from_is_err_and c.from_residual-in_err-read_elements_into.result c.from_residual-in_err-read_elements_into.ensures.1 in
    rw (p.1, p.2) (stops_by _ (going_row_stops g.R.ReadLeaves.rules c.keep_laws.ensures (spelt_inhabited g.R.ReadLeaves.rules.code (shape_of c.args.element.now) c.requires.of_profile) next c.loop-fragments.invariant.0.going) c.in_err-read_elements_into.ensures.stop)

pub reader::read_fragments_into-returns-clause-done : goal.reader::read_fragments_into-returns-clause-done
reader::read_fragments_into-returns-clause-done g t c =
    let next : Next g.R.ReadLeaves.rules.ruling.fielding (g.R.ReadLeaves.ahead c.loop-fragments.fragments) None (g.R.ReadLeaves.ahead c.next_fragment.new.fragments) (g.R.ReadLeaves.rules.to_units c.loop-fragments.units) (g.R.ReadLeaves.rules.to_units c.next_fragment.new.units) = rw c.in_default.is at c.in_ok-count.ensures.done in
    rw c.truncate.ensures.items (after_nothing (fragments_end next c.loop-fragments.invariant.0))

pub components::read_root_into-returns-in_err-preamble-clause-stop : goal.components::read_root_into-returns-in_err-preamble-clause-stop
components::read_root_into-returns-in_err-preamble-clause-stop g t c =
    let p = err_from_is_err_and c.from_residual.result c.from_residual.ensures.1 in
    rw (p.1, p.2) (record { stops = λ more good e. stops_by _ (preamble_stops g.R.ReadLeaves.rules c.keep_laws.ensures (fields_seen c.args.root.now) more good (g.R.ReadLeaves.rules.to_units c.args.units.now)) (rw (c.bitmap_width-width.ensures.count, ← e) at c.in_err-preamble.ensures.stop) })

pub components::read_root_into-read_components_into-requires : goal.components::read_root_into-read_components_into-requires
components::read_root_into-read_components_into-requires g t c κs within =
    (search (rules, the_lemmas), (within.0, (within.1, (c.in_ok-preamble.ensures.at_unit, (c.requires.of_profile, (c.bitmap_width-width.ensures.count, (c.bitmap_width-width.ensures.few, c.requires.each)))))))

pub components::read_root_into-returns-in_err-read_components_into-clause-stop : goal.components::read_root_into-returns-in_err-read_components_into-clause-stop
components::read_root_into-returns-in_err-read_components_into-clause-stop g t c =
    let p = err_from_is_err_and c.from_residual-in_err-read_components_into.result c.from_residual-in_err-read_components_into.ensures.1 in
    rw (p.1, p.2) (record {
      stops = λ more good e.
          (let read : Spells g.R.ReadLeaves.rules.ruling.fielding (PreambleOf g.R.ReadLeaves.rules (bitmap_length (fields_seen c.args.root.now)) (added more)) (preamble_seen c.in_ok-preamble.preamble) (g.R.ReadLeaves.rules.to_units c.args.units.now) (g.R.ReadLeaves.rules.to_units c.read_preamble.new.units) = rw (c.bitmap_width-width.ensures.count, ← e) at c.in_ok-preamble.ensures.done in
          stops_by _ (components_stop g.R.ReadLeaves.rules c.keep_laws.ensures (fields_seen c.args.root.now) more good (preamble_seen c.in_ok-preamble.preamble) (g.R.ReadLeaves.rules.to_units c.args.units.now) (g.R.ReadLeaves.rules.to_units c.read_preamble.new.units) read) (rw c.bitmap_width-width.ensures.count at c.in_err-read_components_into.ensures.stop));
    })

pub components::read_root_into-returns-clause-done : goal.components::read_root_into-returns-clause-done
components::read_root_into-returns-clause-done g t c = record {
  bitmap = c.in_ok-preamble.preamble.bitmap;
  between = g.R.ReadLeaves.rules.to_units c.read_preamble.new.units;
  preamble = rw c.bitmap_width-width.ensures.count at c.in_ok-preamble.ensures.done;
  components = rw c.bitmap_width-width.ensures.count at c.in_ok-read_components_into.ensures.done;
}

pub reader::read_sequence_into-read_root_into-requires : goal.reader::read_sequence_into-read_root_into-requires
reader::read_sequence_into-read_root_into-requires g t c κs lives =
    let is = closed_type c.args.ty.now c.in-Seq.root c.in-Seq.ext c.as_slice-root.result.now c.in-Seq.is c.in-None.is c.as_slice-root.ensures.value in
    let good : InProfile (sequence (fields_seen c.as_slice-root.result.now) closed) = rw is at c.requires.of_profile in
    let each : length c.as_mut_slice.result.now ≡ length c.as_slice-root.result.now = omega (arith, c.as_mut_slice.ensures.len, c.len.ensures, c.if-len-root.false) in
    (search (rules, the_lemmas), (lives.0, (lives.1, (c.requires.at_unit, (components_of_profile (fields_seen c.as_slice-root.result.now) closed good, (few_components c.as_slice-root.result.now is c.requires.of_profile, (tt, each)))))))

pub reader::read_sequence_into-returns-in-Err-clause-stop : goal.reader::read_sequence_into-returns-in-Err-clause-stop
reader::read_sequence_into-returns-in-Err-clause-stop g t c =
    let is = closed_type c.args.ty.now c.in-Seq.root c.in-Seq.ext c.as_slice-root.result.now c.in-Seq.is c.in-None.is c.as_slice-root.ensures.value in
    let good : InProfile (sequence (fields_seen c.as_slice-root.result.now) closed) = rw is at c.requires.of_profile in
    rw is (c.in-Err.ensures.stop.stops closed good refl)

pub reader::read_sequence_into-returns-in-Ok-clause-done : goal.reader::read_sequence_into-returns-in-Ok-clause-done
unfolding views.out-Value denote.Hole.Carrier.out
reader::read_sequence_into-returns-in-Ok-clause-done g t c =
    let is = closed_type c.args.ty.now c.in-Seq.root c.in-Seq.ext c.as_slice-root.result.now c.in-Seq.is c.in-None.is c.as_slice-root.ensures.value in
    let good : InProfile (sequence (fields_seen c.as_slice-root.result.now) closed) = rw is at c.requires.of_profile in
    let h = c.in-Ok.ensures.done in
    let es = with_items c.in-Seq-slot.entries c.read_root_into.new.entries in
    let many : length c.read_root_into.new.entries ≡ c.in-Seq-slot.entries.len = omega (arith, c.read_root_into.auto.entries, rw c.in-Seq-slot.entries-is at c.as_mut_slice.ensures.len) in
    let items : es.items ≡ c.read_root_into.new.entries = with_items_is c.in-Seq-slot.entries c.read_root_into.new.entries many in
    let told : Spells g.R.ReadLeaves.rules.ruling.fielding (Spelt g.R.ReadLeaves.rules.code None (shape_of c.args.ty.now)) (datum_of (value.Seq es)) (g.R.ReadLeaves.rules.to_units c.args.units.now) (g.R.ReadLeaves.rules.to_units c.read_root_into.new.units) = rw (is, datum_of-Seq es, items) (closed_done g.R.ReadLeaves.rules c.keep_laws.ensures (fields_seen c.as_slice-root.result.now) good (_, h.bitmap) (g.R.ReadLeaves.rules.to_units c.args.units.now) h.between h.preamble (entries_seen c.read_root_into.new.entries) (g.R.ReadLeaves.rules.to_units c.read_root_into.new.units) h.components) in
    rw (c.in-Seq-slot.entries-is, c.in-Seq-slot.is) told

pub reader::read_marked_into-overflow_add-root : goal.reader::read_marked_into-overflow_add-root
reader::read_marked_into-overflow_add-root g t c =
    let is = marked_type c.args.ty.now c.in-Seq.root c.in-Seq.ext c.in-Some.additions c.as_slice-root.result.now c.as_slice-additions.result.now c.in-Seq.is c.in-Some.is c.as_slice-root.ensures.value c.as_slice-additions.ensures.value in
    let good : InProfile (sequence (fields_seen c.as_slice-root.result.now) (marked (fields_seen c.as_slice-additions.result.now))) = rw is at c.requires.of_profile in
    let count : Some (length c.as_slice-additions.result.now) ≡ added (marked (fields_seen c.as_slice-additions.result.now)) = ap Some (sym (count_of_fields c.as_slice-additions.result.now)) in
    omega (arith, few_components c.as_slice-root.result.now is c.requires.of_profile, few_added c.as_slice-additions.result.now is c.requires.of_profile)

pub reader::read_marked_into-read_root_into-requires : goal.reader::read_marked_into-read_root_into-requires
reader::read_marked_into-read_root_into-requires g t c κs lives =
    let is = marked_type c.args.ty.now c.in-Seq.root c.in-Seq.ext c.in-Some.additions c.as_slice-root.result.now c.as_slice-additions.result.now c.in-Seq.is c.in-Some.is c.as_slice-root.ensures.value c.as_slice-additions.ensures.value in
    let good : InProfile (sequence (fields_seen c.as_slice-root.result.now) (marked (fields_seen c.as_slice-additions.result.now))) = rw is at c.requires.of_profile in
    let count : Some (length c.as_slice-additions.result.now) ≡ added (marked (fields_seen c.as_slice-additions.result.now)) = ap Some (sym (count_of_fields c.as_slice-additions.result.now)) in
    let each : length c.split_at_mut-of_root.result.0.now ≡ length c.as_slice-root.result.now = omega (arith, c.split_at_mut-of_root.ensures.front_len) in
    (search (rules, the_lemmas), (lives.0, (lives.1, (c.requires.at_unit, (components_of_profile (fields_seen c.as_slice-root.result.now) (marked (fields_seen c.as_slice-additions.result.now)) good, (few_components c.as_slice-root.result.now is c.requires.of_profile, (few_added c.as_slice-additions.result.now is c.requires.of_profile, each)))))))

pub reader::read_marked_into-returns-in_err-read_root_into-clause-stop : goal.reader::read_marked_into-returns-in_err-read_root_into-clause-stop
reader::read_marked_into-returns-in_err-read_root_into-clause-stop g t c =
    let is = marked_type c.args.ty.now c.in-Seq.root c.in-Seq.ext c.in-Some.additions c.as_slice-root.result.now c.as_slice-additions.result.now c.in-Seq.is c.in-Some.is c.as_slice-root.ensures.value c.as_slice-additions.ensures.value in
    let good : InProfile (sequence (fields_seen c.as_slice-root.result.now) (marked (fields_seen c.as_slice-additions.result.now))) = rw is at c.requires.of_profile in
    let count : Some (length c.as_slice-additions.result.now) ≡ added (marked (fields_seen c.as_slice-additions.result.now)) = ap Some (sym (count_of_fields c.as_slice-additions.result.now)) in
    let p = err_from_is_err_and c.from_residual.result c.from_residual.ensures.1 in
    rw (p.1, p.2, is) (c.in_err-read_root_into.ensures.stop.stops (marked (fields_seen c.as_slice-additions.result.now)) good (sym count))

pub reader::read_marked_into-read_additions_into-requires : goal.reader::read_marked_into-read_additions_into-requires
reader::read_marked_into-read_additions_into-requires g t c κs lives =
    let is = marked_type c.args.ty.now c.in-Seq.root c.in-Seq.ext c.in-Some.additions c.as_slice-root.result.now c.as_slice-additions.result.now c.in-Seq.is c.in-Some.is c.as_slice-root.ensures.value c.as_slice-additions.ensures.value in
    let good : InProfile (sequence (fields_seen c.as_slice-root.result.now) (marked (fields_seen c.as_slice-additions.result.now))) = rw is at c.requires.of_profile in
    let count : Some (length c.as_slice-additions.result.now) ≡ added (marked (fields_seen c.as_slice-additions.result.now)) = ap Some (sym (count_of_fields c.as_slice-additions.result.now)) in
    let h : ReadsRoot g.R.ReadLeaves.rules (fields_seen c.as_slice-root.result.now) (Some (length c.as_slice-additions.result.now)) c.in_ok-read_root_into.field-0 (entries_seen c.read_root_into.new.entries) c.args.units.now c.read_root_into.new.units = c.in_ok-read_root_into.ensures.done in
    let read : Spells g.R.ReadLeaves.rules.ruling.fielding (PreambleOf g.R.ReadLeaves.rules (bitmap_length (fields_seen c.as_slice-root.result.now)) (added (marked (fields_seen c.as_slice-additions.result.now)))) (c.in_ok-read_root_into.field-0, h.bitmap) (g.R.ReadLeaves.rules.to_units c.args.units.now) h.between = rw count at h.preamble in
    let some : 0 < length c.as_slice-additions.result.now = rw count_of_fields at (some_listed _ (read.spelt.fits.1 c.if-branch.true)) in
    let each : length c.split_at_mut-of_root.result.1.now ≡ length c.as_slice-additions.result.now = omega (arith, c.split_at_mut-of_root.ensures.back_len, c.deref_mut.ensures.len, c.len.ensures, c.if-len-root.false) in
    (search (rules, the_lemmas), (lives.0, (lives.1, (c.in_ok-read_root_into.ensures.at_unit, (added_of_profile c.as_slice-additions.result.now is c.requires.of_profile, (some, (few_added c.as_slice-additions.result.now is c.requires.of_profile, each)))))))

pub reader::read_marked_into-returns-in_err-read_additions_into-clause-stop : goal.reader::read_marked_into-returns-in_err-read_additions_into-clause-stop
reader::read_marked_into-returns-in_err-read_additions_into-clause-stop g t c =
    let is = marked_type c.args.ty.now c.in-Seq.root c.in-Seq.ext c.in-Some.additions c.as_slice-root.result.now c.as_slice-additions.result.now c.in-Seq.is c.in-Some.is c.as_slice-root.ensures.value c.as_slice-additions.ensures.value in
    let good : InProfile (sequence (fields_seen c.as_slice-root.result.now) (marked (fields_seen c.as_slice-additions.result.now))) = rw is at c.requires.of_profile in
    let count : Some (length c.as_slice-additions.result.now) ≡ added (marked (fields_seen c.as_slice-additions.result.now)) = ap Some (sym (count_of_fields c.as_slice-additions.result.now)) in
    let h : ReadsRoot g.R.ReadLeaves.rules (fields_seen c.as_slice-root.result.now) (Some (length c.as_slice-additions.result.now)) c.in_ok-read_root_into.field-0 (entries_seen c.read_root_into.new.entries) c.args.units.now c.read_root_into.new.units = c.in_ok-read_root_into.ensures.done in
    let read : Spells g.R.ReadLeaves.rules.ruling.fielding (PreambleOf g.R.ReadLeaves.rules (bitmap_length (fields_seen c.as_slice-root.result.now)) (added (marked (fields_seen c.as_slice-additions.result.now)))) (c.in_ok-read_root_into.field-0, h.bitmap) (g.R.ReadLeaves.rules.to_units c.args.units.now) h.between = rw count at h.preamble in
    let p = err_from_is_err_and c.from_residual-in_err-read_additions_into.result c.from_residual-in_err-read_additions_into.ensures.1 in
    rw (p.1, p.2, is) (stops_by _ (additions_stop g.R.ReadLeaves.rules c.keep_laws.ensures (fields_seen c.as_slice-root.result.now) (marked (fields_seen c.as_slice-additions.result.now)) good (c.in_ok-read_root_into.field-0, h.bitmap) (g.R.ReadLeaves.rules.to_units c.args.units.now) h.between read (entries_seen c.read_root_into.new.entries) (g.R.ReadLeaves.rules.to_units c.read_root_into.new.units) h.components c.if-branch.true) c.in_err-read_additions_into.ensures.stop)

pub reader::read_marked_into-returns-in_ok-read_additions_into-clause-done : goal.reader::read_marked_into-returns-in_ok-read_additions_into-clause-done
unfolding views.out-Value denote.Hole.Carrier.out
reader::read_marked_into-returns-in_ok-read_additions_into-clause-done g t c =
    let is = marked_type c.args.ty.now c.in-Seq.root c.in-Seq.ext c.in-Some.additions c.as_slice-root.result.now c.as_slice-additions.result.now c.in-Seq.is c.in-Some.is c.as_slice-root.ensures.value c.as_slice-additions.ensures.value in
    let good : InProfile (sequence (fields_seen c.as_slice-root.result.now) (marked (fields_seen c.as_slice-additions.result.now))) = rw is at c.requires.of_profile in
    let count : Some (length c.as_slice-additions.result.now) ≡ added (marked (fields_seen c.as_slice-additions.result.now)) = ap Some (sym (count_of_fields c.as_slice-additions.result.now)) in
    let h : ReadsRoot g.R.ReadLeaves.rules (fields_seen c.as_slice-root.result.now) (Some (length c.as_slice-additions.result.now)) c.in_ok-read_root_into.field-0 (entries_seen c.read_root_into.new.entries) c.args.units.now c.read_root_into.new.units = c.in_ok-read_root_into.ensures.done in
    let read : Spells g.R.ReadLeaves.rules.ruling.fielding (PreambleOf g.R.ReadLeaves.rules (bitmap_length (fields_seen c.as_slice-root.result.now)) (added (marked (fields_seen c.as_slice-additions.result.now)))) (c.in_ok-read_root_into.field-0, h.bitmap) (g.R.ReadLeaves.rules.to_units c.args.units.now) h.between = rw count at h.preamble in
    let of_root = c.read_root_into.new.entries in
    let of_additions = c.read_additions_into.new.entries in
    let es = with_items c.in-Seq-slot.entries (of_root ++ of_additions) in
    let many : length (of_root ++ of_additions) ≡ c.in-Seq-slot.entries.len = omega (arith, length-append of_root of_additions, c.read_root_into.auto.entries, c.read_additions_into.auto.entries, c.split_at_mut-of_root.ensures.front_len, c.split_at_mut-of_root.ensures.back_len, c.if-len-root.false, rw c.in-Seq-slot.entries-is at c.len.ensures, rw c.in-Seq-slot.entries-is at c.deref_mut.ensures.len) in
    let items : es.items ≡ of_root ++ of_additions = with_items_is c.in-Seq-slot.entries (of_root ++ of_additions) many in
    let both : entries_seen (of_root ++ of_additions) ≡ entries_seen of_root ++ entries_seen of_additions = map-append (option_map datum_of) of_root of_additions in
    let told : Spells g.R.ReadLeaves.rules.ruling.fielding (Spelt g.R.ReadLeaves.rules.code None (shape_of c.args.ty.now)) (datum_of (value.Seq es)) (g.R.ReadLeaves.rules.to_units c.args.units.now) (g.R.ReadLeaves.rules.to_units c.read_additions_into.new.units) = rw (is, datum_of-Seq es, items, both) (additions_done g.R.ReadLeaves.rules c.keep_laws.ensures (fields_seen c.as_slice-root.result.now) (marked (fields_seen c.as_slice-additions.result.now)) good (c.in_ok-read_root_into.field-0, h.bitmap) (g.R.ReadLeaves.rules.to_units c.args.units.now) h.between read (entries_seen c.read_root_into.new.entries) (g.R.ReadLeaves.rules.to_units c.read_root_into.new.units) h.components c.if-branch.true (entries_seen of_root ++ entries_seen of_additions) (g.R.ReadLeaves.rules.to_units c.read_additions_into.new.units) (map_spells {f = λ ws. entries_seen of_root ++ ws} c.in_ok-read_additions_into.ensures.done)) in
    rw (c.in-Seq-slot.entries-is, c.in-Seq-slot.is) told

pub reader::read_marked_into-returns-else-branch-clause-done : goal.reader::read_marked_into-returns-else-branch-clause-done
unfolding views.out-Value denote.Hole.Carrier.out
reader::read_marked_into-returns-else-branch-clause-done g t c =
    let is = marked_type c.args.ty.now c.in-Seq.root c.in-Seq.ext c.in-Some.additions c.as_slice-root.result.now c.as_slice-additions.result.now c.in-Seq.is c.in-Some.is c.as_slice-root.ensures.value c.as_slice-additions.ensures.value in
    let good : InProfile (sequence (fields_seen c.as_slice-root.result.now) (marked (fields_seen c.as_slice-additions.result.now))) = rw is at c.requires.of_profile in
    let count : Some (length c.as_slice-additions.result.now) ≡ added (marked (fields_seen c.as_slice-additions.result.now)) = ap Some (sym (count_of_fields c.as_slice-additions.result.now)) in
    let h : ReadsRoot g.R.ReadLeaves.rules (fields_seen c.as_slice-root.result.now) (Some (length c.as_slice-additions.result.now)) c.in_ok-read_root_into.field-0 (entries_seen c.read_root_into.new.entries) c.args.units.now c.read_root_into.new.units = c.in_ok-read_root_into.ensures.done in
    let read : Spells g.R.ReadLeaves.rules.ruling.fielding (PreambleOf g.R.ReadLeaves.rules (bitmap_length (fields_seen c.as_slice-root.result.now)) (added (marked (fields_seen c.as_slice-additions.result.now)))) (c.in_ok-read_root_into.field-0, h.bitmap) (g.R.ReadLeaves.rules.to_units c.args.units.now) h.between = rw count at h.preamble in
    let of_root = c.read_root_into.new.entries in
    let of_additions = c.clear_entries.new.entries in
    let es = with_items c.in-Seq-slot.entries (of_root ++ of_additions) in
    let many : length (of_root ++ of_additions) ≡ c.in-Seq-slot.entries.len = omega (arith, length-append of_root of_additions, c.read_root_into.auto.entries, c.clear_entries.auto.entries, c.split_at_mut-of_root.ensures.front_len, c.split_at_mut-of_root.ensures.back_len, c.if-len-root.false, rw c.in-Seq-slot.entries-is at c.len.ensures, rw c.in-Seq-slot.entries-is at c.deref_mut.ensures.len) in
    let items : es.items ≡ of_root ++ of_additions = with_items_is c.in-Seq-slot.entries (of_root ++ of_additions) many in
    let both : entries_seen (of_root ++ of_additions) ≡ entries_seen of_root ++ entries_seen of_additions = map-append (option_map datum_of) of_root of_additions in
    let told : Spells g.R.ReadLeaves.rules.ruling.fielding (Spelt g.R.ReadLeaves.rules.code None (shape_of c.args.ty.now)) (datum_of (value.Seq es)) (g.R.ReadLeaves.rules.to_units c.args.units.now) (g.R.ReadLeaves.rules.to_units c.read_root_into.new.units) = rw (is, datum_of-Seq es, items, both, c.clear_entries.ensures) (none_added g.R.ReadLeaves.rules c.keep_laws.ensures (fields_seen c.as_slice-root.result.now) (marked (fields_seen c.as_slice-additions.result.now)) good (c.in_ok-read_root_into.field-0, h.bitmap) (g.R.ReadLeaves.rules.to_units c.args.units.now) h.between read (entries_seen c.read_root_into.new.entries) (g.R.ReadLeaves.rules.to_units c.read_root_into.new.units) h.components c.if-branch.false) in
    rw (c.in-Seq-slot.entries-is, c.in-Seq-slot.is) told

pub reader::read_list_into-start_list-requires-clause-of_profile : goal.reader::read_list_into-start_list-requires-clause-of_profile
reader::read_list_into-start_list-requires-clause-of_profile g t c =
    let element = shape_of c.in-SeqOf.element.value in
    let s = size_range_of c.in-SeqOf.size in
    let is = list_of_elements c.args.ty.now c.in-SeqOf.element.value c.in-SeqOf.element c.in-SeqOf.size c.in-SeqOf.is refl in
    let good : InProfile (sequence_of element s) = rw is at c.requires.of_profile in
    list_size element s good

pub reader::read_list_into-returns-in_err-fragments-clause-stop : goal.reader::read_list_into-returns-in_err-fragments-clause-stop
reader::read_list_into-returns-in_err-fragments-clause-stop g t c =
    let element = shape_of c.in-SeqOf.element.value in
    let s = size_range_of c.in-SeqOf.size in
    let is = list_of_elements c.args.ty.now c.in-SeqOf.element.value c.in-SeqOf.element c.in-SeqOf.size c.in-SeqOf.is refl in
    let good : InProfile (sequence_of element s) = rw is at c.requires.of_profile in
    let p = err_from_is_err_and c.from_residual.result c.from_residual.ensures.1 in
    rw (p.1, p.2, is) (stops_by _ (stops_on (start_stops g.R.ReadLeaves.rules c.keep_laws.ensures (Spelt g.R.ReadLeaves.rules.code None element) s (g.R.ReadLeaves.rules.to_units c.args.units.now) (list_size element s good) (spelt_inhabited g.R.ReadLeaves.rules.code element (element_of_profile element s good))) (list_leads g.R.ReadLeaves.rules c.keep_laws.ensures element s (g.R.ReadLeaves.rules.to_units c.args.units.now) good).stops) c.in_err-fragments.ensures.stop)

pub reader::read_list_into-read_fragments_into-requires : goal.reader::read_list_into-read_fragments_into-requires
reader::read_list_into-read_fragments_into-requires g t c κs lives =
    let element = shape_of c.in-SeqOf.element.value in
    let s = size_range_of c.in-SeqOf.size in
    let is = list_of_elements c.args.ty.now c.in-SeqOf.element.value c.in-SeqOf.element c.in-SeqOf.size c.in-SeqOf.is refl in
    let good : InProfile (sequence_of element s) = rw is at c.requires.of_profile in
    (search (rules, the_lemmas), (lives.0, (lives.1, (c.in_ok-fragments.ensures.at_unit, (rw c.deref.ensures (element_of_profile element s good), c.in_ok-fragments.ensures.between)))))

pub reader::read_list_into-returns-clause-done : goal.reader::read_list_into-returns-clause-done
reader::read_list_into-returns-clause-done g t c =
    let element = shape_of c.in-SeqOf.element.value in
    let s = size_range_of c.in-SeqOf.size in
    let is = list_of_elements c.args.ty.now c.in-SeqOf.element.value c.in-SeqOf.element c.in-SeqOf.size c.in-SeqOf.is refl in
    let good : InProfile (sequence_of element s) = rw is at c.requires.of_profile in
    let start = start_leads g.R.ReadLeaves.rules c.keep_laws.ensures (Spelt g.R.ReadLeaves.rules.code None element) s (list_size element s good) c.in_ok-fragments.ensures.done in
    let whole = list_leads g.R.ReadLeaves.rules c.keep_laws.ensures element s (g.R.ReadLeaves.rules.to_units c.args.units.now) good in
    let values = c.read_fragments_into.new.elements in
    let row = rw c.deref.ensures at c.in_ok-read_fragments_into.ensures.done in
    rw (is, datum_of-List values) (whole.done (map datum_of values.items) (g.R.ReadLeaves.rules.to_units c.read_fragments_into.new.units) (start.done (map datum_of values.items) (g.R.ReadLeaves.rules.to_units c.read_fragments_into.new.units) row))

pub reader::read_list_into-returns-in_err-read_fragments_into-clause-stop : goal.reader::read_list_into-returns-in_err-read_fragments_into-clause-stop
reader::read_list_into-returns-in_err-read_fragments_into-clause-stop g t c =
    let element = shape_of c.in-SeqOf.element.value in
    let s = size_range_of c.in-SeqOf.size in
    let is = list_of_elements c.args.ty.now c.in-SeqOf.element.value c.in-SeqOf.element c.in-SeqOf.size c.in-SeqOf.is refl in
    let good : InProfile (sequence_of element s) = rw is at c.requires.of_profile in
    let start = start_leads g.R.ReadLeaves.rules c.keep_laws.ensures (Spelt g.R.ReadLeaves.rules.code None element) s (list_size element s good) c.in_ok-fragments.ensures.done in
    let whole = list_leads g.R.ReadLeaves.rules c.keep_laws.ensures element s (g.R.ReadLeaves.rules.to_units c.args.units.now) good in
    let p = err_from_is_err_and c.from_residual-in_err-read_fragments_into.result c.from_residual-in_err-read_fragments_into.ensures.1 in
    rw (p.1, p.2, is) (stops_by _ (stops_on start.stops whole.stops) (rw c.deref.ensures at c.in_err-read_fragments_into.ensures.stop))

pub reader::read_choice_into-read_index-requires-clause-some : goal.reader::read_choice_into-read_index-requires-clause-some
reader::read_choice_into-read_index-requires-clause-some g t c =
    some_root c.args.ty.now c.in-Choice.root c.in-Choice.ext c.in-Choice.is c.requires.of_profile c.len-known.result c.len-known.ensures

pub reader::read_choice_into-read_index-requires-clause-few : goal.reader::read_choice_into-read_index-requires-clause-few
reader::read_choice_into-read_index-requires-clause-few g t c =
    choice_few g.R.ReadLeaves.rules c.keep_laws.ensures c.args.ty.now c.in-Choice.root c.in-Choice.ext c.in-Choice.is c.requires.of_profile c.len-known.result c.len-known.ensures c.added_count.result c.added_count.ensures (g.R.ReadLeaves.rules.to_units c.args.units.now)

pub reader::read_choice_into-returns-in_err-index-clause-stop : goal.reader::read_choice_into-returns-in_err-index-clause-stop
reader::read_choice_into-returns-in_err-index-clause-stop g t c =
    let p = err_from_is_err_and c.from_residual.result c.from_residual.ensures.1 in
    rw (p.1, p.2) (stops_by _ (choice_stops g.R.ReadLeaves.rules c.keep_laws.ensures c.args.ty.now c.in-Choice.root c.in-Choice.ext c.in-Choice.is c.requires.of_profile c.len-known.result c.len-known.ensures c.added_count.result c.added_count.ensures (g.R.ReadLeaves.rules.to_units c.args.units.now)) c.in_err-index.ensures.stop)

pub reader::read_choice_into-overflow_cast-tag : goal.reader::read_choice_into-overflow_cast-tag
reader::read_choice_into-overflow_cast-tag g t c =
    let within : IsIndexWithin c.len-known.result c.added_count.result (index_seen c.in_ok-index.field-0) = c.in_ok-index.ensures.done.spelt.fits in
    let inside : c.in-Root.index < c.len-known.result = rw c.in-Root.is at within in
    omega (arith, inside, few_root c.args.ty.now c.in-Choice.root c.in-Choice.ext c.in-Choice.is c.requires.of_profile c.len-known.result c.len-known.ensures)

pub reader::read_choice_into-read_alternative_into-requires : goal.reader::read_choice_into-read_alternative_into-requires
reader::read_choice_into-read_alternative_into-requires g t c κs lives =
    let within : IsIndexWithin c.len-known.result c.added_count.result (index_seen c.in_ok-index.field-0) = c.in_ok-index.ensures.done.spelt.fits in
    let inside : c.in-Root.index < c.len-known.result = rw c.in-Root.is at within in
    (search (rules, the_lemmas), (lives.0, (lives.1, (c.in_ok-index.ensures.at_unit, (roots_good c.args.ty.now c.in-Choice.root c.in-Choice.ext c.in-Choice.is c.requires.of_profile c.deref.result.now c.deref.ensures.value, omega (arith, inside, c.len-known.ensures, c.deref.ensures.len))))))

pub reader::read_choice_into-overflow_add-tag : goal.reader::read_choice_into-overflow_add-tag
reader::read_choice_into-overflow_add-tag g t c =
    let within : IsIndexWithin c.len-known.result c.added_count.result (index_seen c.in_ok-index.field-0) = c.in_ok-index.ensures.done.spelt.fits in
    let inside = added_inside c.len-known.result c.added_count.result c.in-Choice.ext c.in-Some.additions c.in_ok-index.field-0 c.in-Added.index c.added_count.ensures c.in-Some.is c.in-Added.is within in
    omega (arith, inside, few_all c.args.ty.now c.in-Choice.root c.in-Choice.ext c.in-Choice.is c.requires.of_profile c.len-known.result c.len-known.ensures c.in-Some.additions c.in-Some.is)

pub reader::read_choice_into-overflow_cast-tag-in-Added : goal.reader::read_choice_into-overflow_cast-tag-in-Added
reader::read_choice_into-overflow_cast-tag-in-Added g t c =
    let within : IsIndexWithin c.len-known.result c.added_count.result (index_seen c.in_ok-index.field-0) = c.in_ok-index.ensures.done.spelt.fits in
    let inside = added_inside c.len-known.result c.added_count.result c.in-Choice.ext c.in-Some.additions c.in_ok-index.field-0 c.in-Added.index c.added_count.ensures c.in-Some.is c.in-Added.is within in
    omega (arith, inside, few_all c.args.ty.now c.in-Choice.root c.in-Choice.ext c.in-Choice.is c.requires.of_profile c.len-known.result c.len-known.ensures c.in-Some.additions c.in-Some.is)

pub reader::read_choice_into-read_added_alternative_into-requires : goal.reader::read_choice_into-read_added_alternative_into-requires
reader::read_choice_into-read_added_alternative_into-requires g t c κs lives =
    let within : IsIndexWithin c.len-known.result c.added_count.result (index_seen c.in_ok-index.field-0) = c.in_ok-index.ensures.done.spelt.fits in
    let inside = added_inside c.len-known.result c.added_count.result c.in-Choice.ext c.in-Some.additions c.in_ok-index.field-0 c.in-Added.index c.added_count.ensures c.in-Some.is c.in-Added.is within in
    (search (rules, the_lemmas), (lives.0, (lives.1, (c.in_ok-index.ensures.at_unit, (additions_good c.args.ty.now c.in-Choice.root c.in-Choice.ext c.in-Choice.is c.requires.of_profile c.in-Some.additions c.deref-in-Added.result.now c.in-Some.is c.deref-in-Added.ensures.value, rw c.deref-in-Added.ensures.len inside)))))

pub reader::read_choice_into-returns-in-Root-clause-done : goal.reader::read_choice_into-returns-in-Root-clause-done
reader::read_choice_into-returns-in-Root-clause-done g t c =
    let lead = root_value_leads g.R.ReadLeaves.rules c.keep_laws.ensures c.args.ty.now c.in-Choice.root c.in-Choice.ext c.in-Choice.is c.requires.of_profile c.len-known.result c.len-known.ensures c.added_count.result c.added_count.ensures (g.R.ReadLeaves.rules.to_units c.args.units.now) c.in_ok-index.field-0 c.in-Root.index (g.R.ReadLeaves.rules.to_units c.read_index.new.units) c.in_ok-index.ensures.done c.deref.result.now c.deref.ensures.value c.in-Root.is in
    let box = with_value c.in-Choice-slot.value c.read_alternative_into.new.slot in
    let told : Spells g.R.ReadLeaves.rules.ruling.fielding (ChosenOf (λ u. Spelt g.R.ReadLeaves.rules.code None u) (alternatives_seen c.deref.result.now) c.in-Root.index) (datum_of c.read_alternative_into.new.slot) (g.R.ReadLeaves.rules.to_units c.read_index.new.units) (g.R.ReadLeaves.rules.to_units c.read_alternative_into.new.units) → Spells g.R.ReadLeaves.rules.ruling.fielding (Spelt g.R.ReadLeaves.rules.code None (shape_of c.args.ty.now)) (datum_of (value.Choice (c.in-Root.index) box)) (g.R.ReadLeaves.rules.to_units c.args.units.now) (g.R.ReadLeaves.rules.to_units c.read_alternative_into.new.units) = λ s. rw (datum_of-Choice (c.in-Root.index) box) (lead.done (datum_of c.read_alternative_into.new.slot) (g.R.ReadLeaves.rules.to_units c.read_alternative_into.new.units) s) in
    IfOk-weaker c.read_alternative_into.result _ _ (λ _ s. rw c.in-Choice-slot.value-is (told s)) c.read_alternative_into.ensures.done

pub reader::read_choice_into-returns-in-Root-clause-stop : goal.reader::read_choice_into-returns-in-Root-clause-stop
reader::read_choice_into-returns-in-Root-clause-stop g t c =
    let lead = root_value_leads g.R.ReadLeaves.rules c.keep_laws.ensures c.args.ty.now c.in-Choice.root c.in-Choice.ext c.in-Choice.is c.requires.of_profile c.len-known.result c.len-known.ensures c.added_count.result c.added_count.ensures (g.R.ReadLeaves.rules.to_units c.args.units.now) c.in_ok-index.field-0 c.in-Root.index (g.R.ReadLeaves.rules.to_units c.read_index.new.units) c.in_ok-index.ensures.done c.deref.result.now c.deref.ensures.value c.in-Root.is in
    IfErr-weaker c.read_alternative_into.result _ _ (λ why s. stops_by why lead.stops s) c.read_alternative_into.ensures.stop

pub reader::read_choice_into-returns-in-Some-clause-done : goal.reader::read_choice_into-returns-in-Some-clause-done
reader::read_choice_into-returns-in-Some-clause-done g t c =
    let lead = added_value_leads g.R.ReadLeaves.rules c.keep_laws.ensures c.args.ty.now c.in-Choice.root c.in-Choice.ext c.in-Choice.is c.requires.of_profile c.len-known.result c.len-known.ensures c.added_count.result c.added_count.ensures (g.R.ReadLeaves.rules.to_units c.args.units.now) c.in_ok-index.field-0 c.in-Added.index (g.R.ReadLeaves.rules.to_units c.read_index.new.units) c.in_ok-index.ensures.done c.in-Some.additions c.deref-in-Added.result.now c.in-Some.is c.deref-in-Added.ensures.value c.in-Added.is in
    let box = with_value c.in-Choice-slot.value c.read_added_alternative_into.new.slot in
    let told : Spells g.R.ReadLeaves.rules.ruling.fielding (ChosenOf (λ u. OpenOf g.R.ReadLeaves.rules u) (alternatives_seen c.deref-in-Added.result.now) c.in-Added.index) (datum_of c.read_added_alternative_into.new.slot) (g.R.ReadLeaves.rules.to_units c.read_index.new.units) (g.R.ReadLeaves.rules.to_units c.read_added_alternative_into.new.units) → Spells g.R.ReadLeaves.rules.ruling.fielding (Spelt g.R.ReadLeaves.rules.code None (shape_of c.args.ty.now)) (datum_of (value.Choice (c.len-known.result + c.in-Added.index) box)) (g.R.ReadLeaves.rules.to_units c.args.units.now) (g.R.ReadLeaves.rules.to_units c.read_added_alternative_into.new.units) = λ s. rw (datum_of-Choice (c.len-known.result + c.in-Added.index) box) (lead.done (datum_of c.read_added_alternative_into.new.slot) (g.R.ReadLeaves.rules.to_units c.read_added_alternative_into.new.units) s) in
    IfOk-weaker c.read_added_alternative_into.result _ _ (λ _ s. rw c.in-Choice-slot.value-is (told s)) c.read_added_alternative_into.ensures.done

pub reader::read_choice_into-returns-in-Some-clause-stop : goal.reader::read_choice_into-returns-in-Some-clause-stop
reader::read_choice_into-returns-in-Some-clause-stop g t c =
    let lead = added_value_leads g.R.ReadLeaves.rules c.keep_laws.ensures c.args.ty.now c.in-Choice.root c.in-Choice.ext c.in-Choice.is c.requires.of_profile c.len-known.result c.len-known.ensures c.added_count.result c.added_count.ensures (g.R.ReadLeaves.rules.to_units c.args.units.now) c.in_ok-index.field-0 c.in-Added.index (g.R.ReadLeaves.rules.to_units c.read_index.new.units) c.in_ok-index.ensures.done c.in-Some.additions c.deref-in-Added.result.now c.in-Some.is c.deref-in-Added.ensures.value c.in-Added.is in
    IfErr-weaker c.read_added_alternative_into.result _ _ (λ why s. stops_by why lead.stops s) c.read_added_alternative_into.ensures.stop
