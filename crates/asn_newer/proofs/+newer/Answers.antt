use Rattle.std.proofs.Common.{OnOk, IfErr, ◌≡◌, ◌<◌, ◌≤◌, inl, inr, ◌∷◌, [], ◌++◌, ◌∙◌, true, false, map, Some, None, rules, sym, ap, ◌+◌, ◌-◌, ◌/◌, ◌%◌, ◌^◌, length, vec_len, vec_capacity, refl, arith}
use Rattle.std.specs.Option.{option_map}
use Rattle.std.proofs.Math.Numerals.{add-one}
use Rattle.std.proofs.lemmas.Bool.{true≢false}
use Rattle.std.proofs.lemmas.List.{map-append, length-map}
use Rattle.std.proofs.lemmas.Result.{err_from_is_err_and, IfOk-weaker, IfErr-weaker}
use Rattle.asn_values.specs.declared.types.AsnType.{the_lemmas}
use Rattle.asn_values.specs.declared.types.AsnType as asn_type
use Rattle.asn_values.specs.Datum.{alternative, number}
use Rattle.asn_values.specs.declared.value.Value.TheVariants as value
use Rattle.asn_values.specs.Shape.{default, sequence, closed, marked, choice, closed_choice, marked_choice}
use Rattle.asn_values.specs.View.{shape_of, datum_of, labels_seen, alternatives_seen, part_of_field, size_range_of, demand_of, fields_seen, entries_seen}
use Rattle.asn_values.proofs.Components.{shape_of_part}
use Rattle.asn_values.specs.Profile.{InProfile, most_alternatives}
use Rattle.asn_values.proofs.InnerTypes.{element_of_profile, additions_of_profile}
use Rattle.asn_values.proofs.Parts.{components_of_profile}
use Rattle.asn_values.proofs.Views.{datum_of-List, datum_of-Seq}
use Rattle.asn_rules.specs.Languages.{Spells, Row}
use Rattle.asn_rules.specs.Listed.{default_of}
use Rattle.asn_rules.proofs.Languages.Parts.{map_spells, nothing_spells}
use Rattle.asn_walk.specs.Ahead.{Next}
use Rattle.asn_walk.specs.Coding.{IsIndexWithin, IndexOf}
use Rattle.asn_walk.specs.Reading.{Reads}
use Rattle.asn_walk.specs.Views.{index_seen}
use Rattle.asn_walk.proofs.Parts.{fields_part_of, good_at, marked_type, root_good, added_good}
use Rattle.asn_walk.proofs.Widths.{next_part, no_part, demand_of_part, datum_of-Int}
use Rattle.asn_bits.proofs.Above.{kept}
use mir.Val.{to_z, of_z}
use mir.Syntax.{w128}
use Rattle.asn_walk.proofs.Decoding.{units_fill}
use Rattle.asn_walk.proofs.Listing.{list_size}
use Rattle.asn_walk.proofs.OpenRead.{length_none}
use Rattle.asn_newer.specs.Bitmaps.{bits_left}
use Rattle.asn_newer.specs.Loose.{AllUnknown, Loose}
use Rattle.asn_newer.specs.Halting.{HaltsAt}
use Rattle.asn_newer.specs.Reading.{skipped_at_of, skipped_at_seen}
use Rattle.asn_newer.specs.Skipped.{Reading, nothing_skipped}
use Rattle.asn_newer.specs.Walking.{loose_by, ItemsAfter, FieldsAfter}
use Rattle.asn_newer.proofs.Walk.Following.{unmapped, none_taken, taken_on, part_taken, each_starts, each_next, each_ends, open_starts, open_absent, open_present, open_none, open_ends, open_ends_none, bit_set, bit_unset, entry_on}
use Rattle.asn_newer.proofs.Walk.ChoicesAndSequences.{preamble_none, root_none, more_none, sequence_done, no_more, none_present, bitmap_none, additions_done, open_on, root_at, closed_none, closed_on, marked_none, marked_root_on, marked_added_on, added_at, unknown_at, alternative_missed, closed_enum_on, plain_on}
use Rattle.asn_newer.proofs.Walk.Sizes.{root_smaller, additions_smaller, alternatives_smaller, added_smaller}
use Rattle.asn_newer.proofs.Walk.InTypes.{few_of_root, few_additions, some_known, few_closed, few_marked, closed_choice_type, marked_choice_type, closed_enum_type, marked_enum_type, datum_of-UnknownAlternative}
use Rattle.asn_newer.proofs.Walk.ContentsRead.{no_value, no_filling, too_much, content_read, known_read, known_none}
use Rattle.asn_newer.proofs.Walk.ElementsRead.{row_begins, row_none, row_next, row_ends, list_begins, no_length, list_ends, items_none, list_next, list_nearer, start_none, rest_none, rest_read}
use Rattle.asn_newer.proofs.Walk.Halts.{halts_on, stops_on, none_mapped, no_field}
use Rattle.asn_newer.proofs.Law.OneReading.{loose_way, part}
use Rattle.asn_newer.proofs.+newer.Goals as goal
use Rattle.asn_newer.proofs.+newer.Goals.{components::read_open_fields-then-next_present+in_ok-read_known, components::read_open_fields-else-next_present, reader::read_marked-then-preamble+in_ok-read_additions, reader::read_marked-else-preamble+in_ok-push_absent}

pub components::read_components-loop-index-init : goal.components::read_components-loop-index-init
components::read_components-loop-index-init g t c =
    (each_starts (loose_by g.R.ReadLeaves.rules g.R.OtherVersions.loose) (entries_seen c.args.entries.now.items) (skipped_at_seen c.args.skipped.now.items) (map part_of_field c.args.fields.now) c.args.presence.left c.args.presence.bitmap (g.R.ReadLeaves.rules.to_units c.args.units.now) c.requires.of_profile c.requires.width c.requires.few, refl, omega arith, c.requires.capacity, c.requires.at_unit)

pub components::read_components-loop-index-preserved-in-Some : goal.components::read_components-loop-index-preserved-in-Some
components::read_components-loop-index-preserved-in-Some g t c =
    let l = loose_by g.R.ReadLeaves.rules g.R.OtherVersions.loose in
    let ways = c.keep_walk_laws.ensures.ways in
    let k = rw (next_part c.args.fields.now c.loop-index.index c.index-fields-index.result c.loop-index-test.true c.index-fields-index.is) at c.loop-index.invariant.0 in
    let n = each_next l ways k (sym (add-one c.loop-index.index)) true c.loop-index.presence.left (λ e. (refl, refl)) (λ e. absurd (true≢false (sym e ∙ c.in-Some.ensures.must refl))) in
    let z = c.in-Some.number in
    let inside = c.in-Some.ensures.of_integers in
    let same : to_z w128 (of_z w128 z) ≡ z = kept z inside.0 inside.1 in
    let items : entries_seen c.push_reserved.new.self.items ≡ entries_seen c.loop-index.entries.items ++ Some (number z) ∷ [] =
    ap entries_seen (rw same at c.push_reserved.ensures.items) ∙ map-append (option_map datum_of) c.loop-index.entries.items (Some (value.Int z) ∷ []) ∙ ap (λ d. entries_seen c.loop-index.entries.items ++ Some d ∷ []) (datum_of-Int z) in (
      rw items (n.more (Some (number z)) (skipped_at_seen c.loop-index.skipped.items) (g.R.ReadLeaves.rules.to_units c.try_bounded.new.units) (none_taken (skipped_at_seen c.loop-index.skipped.items) (c.in-Some.ensures.some c.loop-index.index))),
      c.loop-index.invariant.1,
      omega (arith, c.push_reserved.ensures.len, c.loop-index.invariant.2),
      rw c.push_reserved.ensures.capacity c.loop-index.invariant.3,
      c.try_bounded.ensures.at_unit,
    )

pub components::read_components-returns-in_err-entry-clause-stop : goal.components::read_components-returns-in_err-entry-clause-stop
components::read_components-returns-in_err-entry-clause-stop g t c =
    let l = loose_by g.R.ReadLeaves.rules g.R.OtherVersions.loose in
    let ways = c.keep_walk_laws.ensures.ways in
    let k = rw (next_part c.args.fields.now c.loop-index.index c.index-fields-index.result c.loop-index-test.true c.index-fields-index.is) at c.loop-index.invariant.0 in
    let n = each_next l ways k (sym (add-one c.loop-index.index)) c.next_of-present.result c.next_of-present.new.self.left c.next_of-present.ensures.must (λ e. (let b = c.next_of-present.ensures.bit e in (b.0, b.1 ∙ ap (λ m. m / 2 ^ c.next_of-present.new.self.left % 2) c.loop-index.invariant.1))) in
    let p = err_from_is_err_and c.from_residual.result c.from_residual.ensures.1 in
    let still : c.try_bounded.new.units ≡ c.loop-index.units = c.in_default.ensures.none refl in
    rw (p.1, p.2) (halts_on _ (λ after m. unmapped (n.none after m)) (rw still at c.in_err-entry.ensures.stop))

pub components::read_components-loop-index-preserved : goal.components::read_components-loop-index-preserved
components::read_components-loop-index-preserved g t c =
    let l = loose_by g.R.ReadLeaves.rules g.R.OtherVersions.loose in
    let ways = c.keep_walk_laws.ensures.ways in
    let k = rw (next_part c.args.fields.now c.loop-index.index c.index-fields-index.result c.loop-index-test.true c.index-fields-index.is) at c.loop-index.invariant.0 in
    let n = each_next l ways k (sym (add-one c.loop-index.index)) c.next_of-present.result c.next_of-present.new.self.left c.next_of-present.ensures.must (λ e. (let b = c.next_of-present.ensures.bit e in (b.0, b.1 ∙ ap (λ m. m / 2 ^ c.next_of-present.new.self.left % 2) c.loop-index.invariant.1))) in
    let still : c.try_bounded.new.units ≡ c.loop-index.units = c.in_default.ensures.none refl in
    let pushed = c.push_reserved-in-loop-index.ensures in
    let items : entries_seen c.push_reserved-in-loop-index.new.self.items ≡ entries_seen c.loop-index.entries.items ++ option_map datum_of c.in_ok-entry.entry ∷ [] =
    ap entries_seen pushed.items ∙ map-append (option_map datum_of) c.loop-index.entries.items (c.in_ok-entry.entry ∷ []) in (
      rw items (n.more (option_map datum_of c.in_ok-entry.entry) (skipped_at_seen c.read_entry.new.skipped.items) (g.R.ReadLeaves.rules.to_units c.read_entry.new.units) (rw still at c.in_ok-entry.ensures.done)),
      c.next_of-present.ensures.bitmap ∙ c.loop-index.invariant.1,
      omega (arith, pushed.len, c.loop-index.invariant.2),
      rw pushed.capacity c.loop-index.invariant.3,
      c.in_ok-entry.ensures.at_unit,
    )

pub components::read_components-returns-clause-done : goal.components::read_components-returns-clause-done
components::read_components-returns-clause-done g t c =
    let l = loose_by g.R.ReadLeaves.rules g.R.OtherVersions.loose in
    let ways = c.keep_walk_laws.ensures.ways in
    each_ends l ways c.loop-index.invariant.0 (no_part c.args.fields.now c.loop-index.index c.loop-index-test.false)

pub components::read_entry-returns-then-not-present-clause-done : goal.components::read_entry-returns-then-not-present-clause-done
components::read_entry-returns-then-not-present-clause-done g t c =
    let e : c.args.present ≡ false = c.if-not-present.true in
    rw (e, c.absent.ensures) (none_taken (skipped_at_seen c.args.skipped.now.items) (nothing_spells g.R.ReadLeaves.rules.ruling.fielding (default_of (part_of_field c.args.field.now).demand, []) (g.R.ReadLeaves.rules.to_units c.args.units.now)))

pub components::read_entry-returns-in_err-read_other-in-Default-clause-stop : goal.components::read_entry-returns-in_err-read_other-in-Default-clause-stop
components::read_entry-returns-in_err-read_other-in-Default-clause-stop g t c =
    let e : c.args.present ≡ true = c.if-not-present.false in
    let d : (part_of_field c.args.field.now).demand ≡ default (datum_of c.in-Default.default) = demand_of_part c.args.field.now ∙ ap demand_of c.in-Default.is in
    let p = err_from_is_err_and c.from_residual.result c.from_residual.ensures.1 in
    rw (p.1, p.2, e, d, shape_of_part c.args.field.now) (stops_on (fields_part_of g.R.ReadLeaves.rules c.keep_laws.ensures) _ (λ after n. none_mapped (none_mapped n)) c.in_err-read_other-in-Default.ensures.stop)

pub components::read_entry-returns-in_ok-read_other-in-Default-clause-done : goal.components::read_entry-returns-in_ok-read_other-in-Default-clause-done
components::read_entry-returns-in_ok-read_other-in-Default-clause-done g t c =
    let e : c.args.present ≡ true = c.if-not-present.false in
    let d : (part_of_field c.args.field.now).demand ≡ default (datum_of c.in-Default.default) = demand_of_part c.args.field.now ∙ ap demand_of c.in-Default.is in
    rw (e, d, shape_of_part c.args.field.now) (none_taken (skipped_at_seen c.args.skipped.now.items) (map_spells {f = λ (r : Reading). (Some r.0, r.1)} (map_spells {f = nothing_skipped} c.in_ok-read_other-in-Default.ensures.done)))

pub components::read_entry-returns-in_err-read_part-in-Must-clause-stop : goal.components::read_entry-returns-in_err-read_part-in-Must-clause-stop
components::read_entry-returns-in_err-read_part-in-Must-clause-stop g t c =
    let e : c.args.present ≡ true = c.if-not-present.false in
    let p = err_from_is_err_and c.from_residual-in_err-read_part-in-Must.result c.from_residual-in_err-read_part-in-Must.ensures.1 in
    rw (p.1, p.2, e) (halts_on _ (entry_on (loose_by g.R.ReadLeaves.rules g.R.OtherVersions.loose) c.args.index c.args.field.now (g.R.ReadLeaves.rules.to_units c.args.units.now) c.in-Must.is).none c.in_err-read_part-in-Must.ensures.stop)

pub components::read_entry-returns-in_ok-read_part-in-Must-clause-done : goal.components::read_entry-returns-in_ok-read_part-in-Must-clause-done
components::read_entry-returns-in_ok-read_part-in-Must-clause-done g t c =
    let e : c.args.present ≡ true = c.if-not-present.false in
    rw e (taken_on Some (skipped_at_seen c.args.skipped.now.items) (datum_of c.in_ok-read_part-in-Must.field-0) (entry_on (loose_by g.R.ReadLeaves.rules g.R.OtherVersions.loose) c.args.index c.args.field.now (g.R.ReadLeaves.rules.to_units c.args.units.now) c.in-Must.is) c.in_ok-read_part-in-Must.ensures.done)

pub components::read_additions-returns-in_err-presence-clause-stop : goal.components::read_additions-returns-in_err-presence-clause-stop
components::read_additions-returns-in_err-presence-clause-stop g t c =
    let l = loose_by g.R.ReadLeaves.rules g.R.OtherVersions.loose in
    let ways = c.keep_walk_laws.ensures.ways in
    let p = err_from_is_err_and c.from_residual.result c.from_residual.ensures.1 in
    rw (p.1, p.2) (halts_on _ (bitmap_none l ways (fields_seen c.args.fields.now) (g.R.ReadLeaves.rules.to_units c.args.units.now)) c.in_err-presence.ensures.stop)

pub components::read_additions-returns-clause-done : goal.components::read_additions-returns-clause-done
components::read_additions-returns-clause-done g t c =
    let l = loose_by g.R.ReadLeaves.rules g.R.OtherVersions.loose in
    let ways = c.keep_walk_laws.ensures.ways in
    IfOk-weaker c.read_open_fields.result _ _ (λ _ s. additions_done l ways (fields_seen c.args.fields.now) (g.R.ReadLeaves.rules.to_units c.args.units.now) c.in_ok-presence.ensures.done (entries_seen c.args.entries.now.items) (skipped_at_seen c.args.skipped.now.items) s) c.read_open_fields.ensures.done

pub components::read_additions-returns-clause-stop : goal.components::read_additions-returns-clause-stop
components::read_additions-returns-clause-stop g t c =
    let l = loose_by g.R.ReadLeaves.rules g.R.OtherVersions.loose in
    let ways = c.keep_walk_laws.ensures.ways in
    IfErr-weaker c.read_open_fields.result _ _ (λ why s. halts_on why (open_on l ways (fields_seen c.args.fields.now) (g.R.ReadLeaves.rules.to_units c.args.units.now) c.in_ok-presence.ensures.done).none s) c.read_open_fields.ensures.stop

pub components::read_open_fields-loop-index-init : goal.components::read_open_fields-loop-index-init
components::read_open_fields-loop-index-init g t c =
    (open_starts (loose_by g.R.ReadLeaves.rules g.R.OtherVersions.loose) (entries_seen c.args.entries.now.items) (skipped_at_seen c.args.skipped.now.items) (map part_of_field c.args.fields.now) 0 (bits_left c.args.presence) (g.R.ReadLeaves.rules.to_units c.args.units.now) c.requires.of_profile, c.requires.few_bits, c.requires.at_unit)

pub components::read_open_fields-returns-in_err-read_known-clause-stop : goal.components::read_open_fields-returns-in_err-read_known-clause-stop
components::read_open_fields-returns-in_err-read_known-clause-stop g t c =
    let l = loose_by g.R.ReadLeaves.rules g.R.OtherVersions.loose in
    let ways = c.keep_walk_laws.ensures.ways in
    let k = rw (next_part c.args.fields.now c.loop-index.index c.index-fields-index.result c.loop-index-test.true c.index-fields-index.is) at c.loop-index.invariant.0 in
    let p = err_from_is_err_and c.from_residual.result c.from_residual.ensures.1 in
    let bit = bit_set c.next_present.ensures.bit c.if-next_present.true in
    rw (p.1, p.2) (halts_on _ (λ after m. unmapped (open_none l ways k (sym (add-one c.loop-index.index)) bit after m)) (rw (← shape_of_part c.index-fields-index.result) at c.in_err-read_known.ensures.stop))

pub components::read_open_fields-loop-index-preserved : goal.components::read_open_fields-loop-index-preserved
components::read_open_fields-loop-index-preserved g t c =
    let l = loose_by g.R.ReadLeaves.rules g.R.OtherVersions.loose in
    let ways = c.keep_walk_laws.ensures.ways in
    let k = rw (next_part c.args.fields.now c.loop-index.index c.index-fields-index.result c.loop-index-test.true c.index-fields-index.is) at c.loop-index.invariant.0 in
    let items : entries_seen c.push.new.self.items ≡ entries_seen c.loop-index.entries.items ++ option_map datum_of c.if-next_present.entry ∷ [] =
    ap entries_seen c.in_ok-push.ensures.items ∙ map-append (option_map datum_of) c.loop-index.entries.items (c.if-next_present.entry ∷ []) in
    rw items (elim c.if-next_present.branch [
      | components::read_open_fields-then-next_present+in_ok-read_known w ↦ rw (w.entry-is, w.units-is, w.skipped-is) (open_present l ways k (sym (add-one c.loop-index.index)) (bit_set c.next_present.ensures.bit w.if-next_present.true) _ (skipped_at_seen w.read_known.new.skipped.items) (g.R.ReadLeaves.rules.to_units w.read_known.new.units) (rw (← shape_of_part c.index-fields-index.result) at w.in_ok-read_known.ensures.done), c.next_present.ensures.few, w.in_ok-read_known.ensures.at_unit)
      | components::read_open_fields-else-next_present w ↦ rw (w.entry-is, w.units-is, w.skipped-is) (open_absent l ways k (sym (add-one c.loop-index.index)) (bit_unset c.next_present.ensures.bit w.if-next_present.false), c.next_present.ensures.few, c.loop-index.invariant.2)
    ])

pub components::read_open_fields-returns-clause-done : goal.components::read_open_fields-returns-clause-done
components::read_open_fields-returns-clause-done g t c =
    let l = loose_by g.R.ReadLeaves.rules g.R.OtherVersions.loose in
    let ways = c.keep_walk_laws.ensures.ways in
    let e : c.loop-index.index ≡ length c.args.fields.now = omega (arith, c.loop-index-test.false, c.loop-index.auto.index-end) in
    let none = no_part c.args.fields.now c.loop-index.index c.loop-index-test.false in
    let d : OnOk c.skip_fields.result (Reads g.R.ReadLeaves.rules (FieldsAfter (skipped_at_seen c.loop-index.skipped.items) (AllUnknown g.R.ReadLeaves.rules (length c.args.fields.now) (bits_left c.loop-index.presence))) (skipped_at_seen c.skip_fields.new.skipped.items) c.loop-index.units c.skip_fields.new.units) = c.skip_fields.ensures.done in
    IfOk-weaker c.skip_fields.result _ _ (λ _ s. open_ends l ways c.loop-index.invariant.0 none (skipped_at_seen c.skip_fields.new.skipped.items) (g.R.ReadLeaves.rules.to_units c.skip_fields.new.units) s) (rw (← e) at d)

pub components::read_open_fields-returns-clause-stop : goal.components::read_open_fields-returns-clause-stop
components::read_open_fields-returns-clause-stop g t c =
    let l = loose_by g.R.ReadLeaves.rules g.R.OtherVersions.loose in
    let ways = c.keep_walk_laws.ensures.ways in
    let e : c.loop-index.index ≡ length c.args.fields.now = omega (arith, c.loop-index-test.false, c.loop-index.auto.index-end) in
    let none = no_part c.args.fields.now c.loop-index.index c.loop-index-test.false in
    let d : IfErr c.skip_fields.result (λ why. HaltsAt g.R.ReadLeaves.rules (AllUnknown g.R.ReadLeaves.rules (length c.args.fields.now) (bits_left c.loop-index.presence)) c.loop-index.units why) = c.skip_fields.ensures.stop in
    IfErr-weaker c.skip_fields.result _ _ (λ why s. halts_on why (λ after m. unmapped (open_ends_none l ways c.loop-index.invariant.0 none after m)) s) (rw (← e) at d)

pub reader::read_known-returns-in_err-octets-clause-stop : goal.reader::read_known-returns-in_err-octets-clause-stop
reader::read_known-returns-in_err-octets-clause-stop g t c =
    let l = loose_by g.R.ReadLeaves.rules g.R.OtherVersions.loose in
    let ways = c.keep_walk_laws.ensures.ways in
    let p = err_from_is_err_and c.from_residual.result c.from_residual.ensures.1 in
    rw (p.1, p.2) (stops_on (part l ways) _ (λ after n. none_mapped (no_field n)) c.in_err-octets.ensures.stop)

pub reader::read_known-returns-in-Ok-clause-done : goal.reader::read_known-returns-in-Ok-clause-done
reader::read_known-returns-in-Ok-clause-done g t c =
    let l = loose_by g.R.ReadLeaves.rules g.R.OtherVersions.loose in
    let ways = c.keep_walk_laws.ensures.ways in
    let before : c.len-before.result ≡ length (skipped_at_seen c.args.skipped.now.items) = omega (arith, c.len-before.ensures, c.args.skipped.now.ok.0, length-map c.args.skipped.now.items skipped_at_of) in
    part_taken c.args.step c.len-before.result (skipped_at_seen c.args.skipped.now.items) (skipped_at_seen c.read_content.new.skipped.items) (datum_of c.in-Ok.value) before c.in_ok-put_inside-in-Ok.ensures
    (known_read l ways (shape_of c.args.ty.now) c.in_ok-octets.ensures.done (rw c.deref.ensures.value at c.in-Ok.ensures.done))

pub reader::read_known-returns-clause-stop : goal.reader::read_known-returns-clause-stop
reader::read_known-returns-clause-stop g t c =
    let l = loose_by g.R.ReadLeaves.rules g.R.OtherVersions.loose in
    let ways = c.keep_walk_laws.ensures.ways in
    rw c.halt_of_field.ensures (halts_on _ (λ after. none_mapped) (known_none l ways (shape_of c.args.ty.now) c.in_ok-octets.ensures.done c.in-Err.halt (rw c.deref.ensures.value at c.in-Err.ensures.stop)))

pub reader::read_part-returns-in_err-value-clause-stop : goal.reader::read_part-returns-in_err-value-clause-stop
reader::read_part-returns-in_err-value-clause-stop g t c =
    let p = err_from_is_err_and c.from_residual.result c.from_residual.ensures.1 in
    rw (p.1, p.2) (halts_on _ (λ after. none_mapped) c.in_err-value.ensures.stop)

pub reader::read_part-returns-clause-done : goal.reader::read_part-returns-clause-done
reader::read_part-returns-clause-done g t c =
    let before : c.len-before.result ≡ length (skipped_at_seen c.args.skipped.now.items) = omega (arith, c.len-before.ensures, c.args.skipped.now.ok.0, length-map c.args.skipped.now.items skipped_at_of) in
    part_taken c.args.step c.len-before.result (skipped_at_seen c.args.skipped.now.items) (skipped_at_seen c.read.new.skipped.items) (datum_of c.in_ok-value.value) before c.in_ok-put_inside.ensures c.in_ok-value.ensures.done

pub reader::read_list-returns-in_err-fragments-clause-stop : goal.reader::read_list-returns-in_err-fragments-clause-stop
reader::read_list-returns-in_err-fragments-clause-stop g t c =
    let l = loose_by g.R.ReadLeaves.rules g.R.OtherVersions.loose in
    let ways = c.keep_walk_laws.ensures.ways in
    let p = err_from_is_err_and c.from_residual.result c.from_residual.ensures.1 in
    rw (p.1, p.2) (stops_on (part l ways) _ (start_none l ways (shape_of c.args.element.now) (size_range_of c.args.size.now) c.requires.of_profile (g.R.ReadLeaves.rules.to_units c.args.units.now)) c.in_err-fragments.ensures.stop)

pub reader::read_list-returns-in_err-read_fragments-clause-stop : goal.reader::read_list-returns-in_err-read_fragments-clause-stop
reader::read_list-returns-in_err-read_fragments-clause-stop g t c =
    let l = loose_by g.R.ReadLeaves.rules g.R.OtherVersions.loose in
    let ways = c.keep_walk_laws.ensures.ways in
    let p = err_from_is_err_and c.from_residual-in_err-read_fragments.result c.from_residual-in_err-read_fragments.ensures.1 in
    rw (p.1, p.2) (halts_on _ (rest_none l ways (shape_of c.args.element.now) (size_range_of c.args.size.now) c.requires.of_profile (g.R.ReadLeaves.rules.to_units c.args.units.now) c.in_ok-fragments.ensures.done) c.in_err-read_fragments.ensures.stop)

pub reader::read_list-returns-clause-done : goal.reader::read_list-returns-clause-done
reader::read_list-returns-clause-done g t c =
    let l = loose_by g.R.ReadLeaves.rules g.R.OtherVersions.loose in
    let ways = c.keep_walk_laws.ensures.ways in
    rw (datum_of-List c.read_fragments.new.elements) (rest_read l ways (shape_of c.args.element.now) (size_range_of c.args.size.now) c.requires.of_profile (g.R.ReadLeaves.rules.to_units c.args.units.now) c.in_ok-fragments.ensures.done (skipped_at_seen c.args.skipped.now.items) (rw c.new-elements.ensures.items at c.in_ok-read_fragments.ensures.done))

pub reader::read_fragments-loop-fragments-init : goal.reader::read_fragments-loop-fragments-init
reader::read_fragments-loop-fragments-init g t c =
    (list_begins g.R.ReadLeaves.rules.ruling.fielding (Loose (loose_by g.R.ReadLeaves.rules g.R.OtherVersions.loose) (shape_of c.args.element.now)) (g.R.ReadLeaves.ahead c.args.fragments) (map datum_of c.args.elements.now.items) (skipped_at_seen c.args.skipped.now.items) (g.R.ReadLeaves.rules.to_units c.args.units.now), c.requires.between, c.requires.at_unit)

pub reader::read_fragments-returns-in_err-count-clause-stop : goal.reader::read_fragments-returns-in_err-count-clause-stop
reader::read_fragments-returns-in_err-count-clause-stop g t c =
    let l = loose_by g.R.ReadLeaves.rules g.R.OtherVersions.loose in
    let ways = c.keep_walk_laws.ensures.ways in
    let p = err_from_is_err_and c.from_residual.result c.from_residual.ensures.1 in
    rw (p.1, p.2) (halts_on _ (λ after. unmapped) (no_length l ways (Loose l (shape_of c.args.element.now)) (loose_way l ways (shape_of c.args.element.now) c.requires.of_profile) c.loop-fragments.invariant.0 _ c.in_err-count.ensures.stop))

pub reader::read_fragments-loop-fragments-preserved : goal.reader::read_fragments-loop-fragments-preserved
reader::read_fragments-loop-fragments-preserved g t c =
    let l = loose_by g.R.ReadLeaves.rules g.R.OtherVersions.loose in
    let ways = c.keep_walk_laws.ensures.ways in
    let next : Next g.R.ReadLeaves.rules.ruling.fielding (g.R.ReadLeaves.ahead c.loop-fragments.fragments) (Some c.in-Some.count) (g.R.ReadLeaves.ahead c.next_fragment.new.fragments) (g.R.ReadLeaves.rules.to_units c.loop-fragments.units) (g.R.ReadLeaves.rules.to_units c.next_fragment.new.units) = rw c.in-Some.is at c.in_ok-count.ensures.done in
    let rows_read : Spells g.R.ReadLeaves.rules.ruling.fielding (ItemsAfter (map datum_of c.loop-fragments.elements.items) (skipped_at_seen c.loop-fragments.skipped.items) (Row (Loose l (shape_of c.args.element.now)) c.in-Some.count)) (map datum_of c.read_elements.new.elements.items, skipped_at_seen c.read_elements.new.skipped.items) (g.R.ReadLeaves.rules.to_units c.next_fragment.new.units) (g.R.ReadLeaves.rules.to_units c.read_elements.new.units) = rw c.in_ok-reserve.ensures.items at c.in_ok-read_elements.ensures.done in
    (list_next l ways (Loose l (shape_of c.args.element.now)) (loose_way l ways (shape_of c.args.element.now) c.requires.of_profile) c.loop-fragments.invariant.0 next rows_read, c.in_ok-count.ensures.between, c.in_ok-read_elements.ensures.at_unit)

pub reader::read_fragments-loop-fragments-smaller : goal.reader::read_fragments-loop-fragments-smaller
reader::read_fragments-loop-fragments-smaller g t c =
    let l = loose_by g.R.ReadLeaves.rules g.R.OtherVersions.loose in
    let ways = c.keep_walk_laws.ensures.ways in
    let next : Next g.R.ReadLeaves.rules.ruling.fielding (g.R.ReadLeaves.ahead c.loop-fragments.fragments) (Some c.in-Some.count) (g.R.ReadLeaves.ahead c.next_fragment.new.fragments) (g.R.ReadLeaves.rules.to_units c.loop-fragments.units) (g.R.ReadLeaves.rules.to_units c.next_fragment.new.units) = rw c.in-Some.is at c.in_ok-count.ensures.done in
    let rows_read : Spells g.R.ReadLeaves.rules.ruling.fielding (ItemsAfter (map datum_of c.loop-fragments.elements.items) (skipped_at_seen c.loop-fragments.skipped.items) (Row (Loose l (shape_of c.args.element.now)) c.in-Some.count)) (map datum_of c.read_elements.new.elements.items, skipped_at_seen c.read_elements.new.skipped.items) (g.R.ReadLeaves.rules.to_units c.next_fragment.new.units) (g.R.ReadLeaves.rules.to_units c.read_elements.new.units) = rw c.in_ok-reserve.ensures.items at c.in_ok-read_elements.ensures.done in
    list_nearer l ways (Loose l (shape_of c.args.element.now)) (loose_way l ways (shape_of c.args.element.now) c.requires.of_profile) c.loop-fragments.invariant.0 next rows_read

pub reader::read_fragments-returns-in_err-read_elements-clause-stop : goal.reader::read_fragments-returns-in_err-read_elements-clause-stop
reader::read_fragments-returns-in_err-read_elements-clause-stop g t c =
    let l = loose_by g.R.ReadLeaves.rules g.R.OtherVersions.loose in
    let ways = c.keep_walk_laws.ensures.ways in
    let next : Next g.R.ReadLeaves.rules.ruling.fielding (g.R.ReadLeaves.ahead c.loop-fragments.fragments) (Some c.in-Some.count) (g.R.ReadLeaves.ahead c.next_fragment.new.fragments) (g.R.ReadLeaves.rules.to_units c.loop-fragments.units) (g.R.ReadLeaves.rules.to_units c.next_fragment.new.units) = rw c.in-Some.is at c.in_ok-count.ensures.done in
    let p = err_from_is_err_and c.from_residual-in_err-read_elements.result c.from_residual-in_err-read_elements.ensures.1 in
    rw (p.1, p.2) (halts_on _ (λ after m. unmapped (items_none l ways (Loose l (shape_of c.args.element.now)) (loose_way l ways (shape_of c.args.element.now) c.requires.of_profile) c.loop-fragments.invariant.0 next after m)) c.in_err-read_elements.ensures.stop)

pub reader::read_fragments-returns-clause-done : goal.reader::read_fragments-returns-clause-done
reader::read_fragments-returns-clause-done g t c =
    let l = loose_by g.R.ReadLeaves.rules g.R.OtherVersions.loose in
    let ways = c.keep_walk_laws.ensures.ways in
    let next : Next g.R.ReadLeaves.rules.ruling.fielding (g.R.ReadLeaves.ahead c.loop-fragments.fragments) None (g.R.ReadLeaves.ahead c.next_fragment.new.fragments) (g.R.ReadLeaves.rules.to_units c.loop-fragments.units) (g.R.ReadLeaves.rules.to_units c.next_fragment.new.units) = rw c.in_default.is at c.in_ok-count.ensures.done in
    list_ends l ways (Loose l (shape_of c.args.element.now)) (loose_way l ways (shape_of c.args.element.now) c.requires.of_profile) c.loop-fragments.invariant.0 next

pub reader::read_elements-loop-i-init : goal.reader::read_elements-loop-i-init
reader::read_elements-loop-i-init g t c =
    let e : c.args.count - 0 ≡ c.args.count = omega arith in
    (rw e (row_begins g.R.ReadLeaves.rules.ruling.fielding (Loose (loose_by g.R.ReadLeaves.rules g.R.OtherVersions.loose) (shape_of c.args.element.now)) c.args.count (map datum_of c.args.elements.now.items) (skipped_at_seen c.args.skipped.now.items) (g.R.ReadLeaves.rules.to_units c.args.units.now)), c.requires.at_unit)

pub reader::read_elements-returns-in_err-value-clause-stop : goal.reader::read_elements-returns-in_err-value-clause-stop
reader::read_elements-returns-in_err-value-clause-stop g t c =
    let l = loose_by g.R.ReadLeaves.rules g.R.OtherVersions.loose in
    let ways = c.keep_walk_laws.ensures.ways in
    let p = err_from_is_err_and c.from_residual.result c.from_residual.ensures.1 in
    rw (p.1, p.2) (halts_on _ (λ after n. unmapped (row_none (c.args.count - (c.loop-i.i + 1)) (c.args.count - c.loop-i.i) (omega (arith, c.loop-i-test.true)) c.loop-i.invariant.0 after (unmapped n))) c.in_err-value.ensures.stop)

pub reader::read_elements-loop-i-preserved : goal.reader::read_elements-loop-i-preserved
reader::read_elements-loop-i-preserved g t c =
    let l = loose_by g.R.ReadLeaves.rules g.R.OtherVersions.loose in
    let ways = c.keep_walk_laws.ensures.ways in
    let items : map datum_of c.push.new.self.items ≡ map datum_of c.loop-i.elements.items ++ datum_of c.in_ok-value.value ∷ [] =
    ap (map datum_of) c.in_ok-push.ensures.items ∙ map-append datum_of c.loop-i.elements.items (c.in_ok-value.value ∷ []) in
    let counted : c.len.result ≡ length (map datum_of c.loop-i.elements.items) = omega (arith, c.len.ensures, c.loop-i.elements.ok.0, length-map c.loop-i.elements.items datum_of) in
    (rw items (row_next (c.args.count - (c.loop-i.i + 1)) (c.args.count - c.loop-i.i) (omega (arith, c.loop-i-test.true)) (loose_way l ways (shape_of c.args.element.now) c.requires.of_profile) (datum_of c.in_ok-value.value) (skipped_at_seen c.read_part.new.skipped.items) (g.R.ReadLeaves.rules.to_units c.read_part.new.units) (rw counted at c.in_ok-value.ensures.done) c.loop-i.invariant.0), c.in_ok-value.ensures.at_unit)

pub reader::read_elements-returns-clause-done : goal.reader::read_elements-returns-clause-done
reader::read_elements-returns-clause-done g t c =
    row_ends (c.args.count - c.loop-i.i) (omega (arith, c.loop-i-test.false)) c.loop-i.invariant.0

pub choices::read_root_alternative-read_part-requires : goal.choices::read_root_alternative-read_part-requires
choices::read_root_alternative-read_part-requires g t c κs within =
    (search (rules, the_lemmas), (within.0, (within.1, (c.requires.at_unit, good_at c.args.root.now c.args.index c.index-root-index.result c.requires.of_profile c.requires.inside))))

pub choices::read_root_alternative-returns-in_err-value-clause-stop : goal.choices::read_root_alternative-returns-in_err-value-clause-stop
choices::read_root_alternative-returns-in_err-value-clause-stop g t c =
    let o = root_at (loose_by g.R.ReadLeaves.rules g.R.OtherVersions.loose) c.args.index c.args.root.now c.args.index c.index-root-index.result (g.R.ReadLeaves.rules.to_units c.args.units.now) c.requires.inside in
    let p = err_from_is_err_and c.from_residual.result c.from_residual.ensures.1 in
    rw (p.1, p.2) (halts_on _ o.none c.in_err-value.ensures.stop)

pub choices::read_root_alternative-returns-clause-done : goal.choices::read_root_alternative-returns-clause-done
choices::read_root_alternative-returns-clause-done g t c =
    let o = root_at (loose_by g.R.ReadLeaves.rules g.R.OtherVersions.loose) c.args.index c.args.root.now c.args.index c.index-root-index.result (g.R.ReadLeaves.rules.to_units c.args.units.now) c.requires.inside in
    rw c.in_ok-chosen.ensures (taken_on (alternative c.args.index) (skipped_at_seen c.args.skipped.now.items) (datum_of c.in_ok-value.value) o c.in_ok-value.ensures.done)

pub reader::read_content-units_left-given-requires : goal.reader::read_content-units_left-given-requires
reader::read_content-units_left-given-requires g t c =
    let l = loose_by g.R.ReadLeaves.rules g.R.OtherVersions.loose in
    let ways = c.keep_walk_laws.ensures.ways in
    let o = c.args.octets.now in
    let over : g.R.ReadLeaves.rules.to_units c.over-units.result ≡ g.R.ReadLeaves.rules.ruling.units o = ap g.R.ReadLeaves.rules.to_units c.over-units.ensures ∙ ways.laws.over o c.requires.octets in
    record { at_unit = rw c.over-units.ensures (ways.laws.begin o c.requires.octets) }

pub reader::read_content-read-requires : goal.reader::read_content-read-requires
reader::read_content-read-requires g t c κs within =
    let l = loose_by g.R.ReadLeaves.rules g.R.OtherVersions.loose in
    let ways = c.keep_walk_laws.ensures.ways in
    let o = c.args.octets.now in
    let over : g.R.ReadLeaves.rules.to_units c.over-units.result ≡ g.R.ReadLeaves.rules.ruling.units o = ap g.R.ReadLeaves.rules.to_units c.over-units.ensures ∙ ways.laws.over o c.requires.octets in
    (search (rules, the_lemmas), (within.0, (within.1, (rw c.over-units.ensures (ways.laws.begin o c.requires.octets), c.requires.of_profile))))

pub reader::read_content-returns-in_err-value-clause-stop : goal.reader::read_content-returns-in_err-value-clause-stop
reader::read_content-returns-in_err-value-clause-stop g t c =
    let l = loose_by g.R.ReadLeaves.rules g.R.OtherVersions.loose in
    let ways = c.keep_walk_laws.ensures.ways in
    let o = c.args.octets.now in
    let over : g.R.ReadLeaves.rules.to_units c.over-units.result ≡ g.R.ReadLeaves.rules.ruling.units o = ap g.R.ReadLeaves.rules.to_units c.over-units.ensures ∙ ways.laws.over o c.requires.octets in
    let p = err_from_is_err_and c.from_residual.result c.from_residual.ensures.1 in
    rw (p.1, p.2) (no_value l ways (shape_of c.args.ty.now) c.requires.of_profile o c.requires.few _ (rw over at c.in_err-value.ensures.stop))

pub reader::read_content-returns-in_err-read_padding-clause-stop : goal.reader::read_content-returns-in_err-read_padding-clause-stop
reader::read_content-returns-in_err-read_padding-clause-stop g t c =
    let l = loose_by g.R.ReadLeaves.rules g.R.OtherVersions.loose in
    let ways = c.keep_walk_laws.ensures.ways in
    let o = c.args.octets.now in
    let over : g.R.ReadLeaves.rules.to_units c.over-units.result ≡ g.R.ReadLeaves.rules.ruling.units o = ap g.R.ReadLeaves.rules.to_units c.over-units.ensures ∙ ways.laws.over o c.requires.octets in
    let p = err_from_is_err_and c.from_residual-in_err-read_padding.result c.from_residual-in_err-read_padding.ensures.1 in
    rw (p.1, p.2) (no_filling l ways (shape_of c.args.ty.now) c.requires.of_profile o c.requires.few (skipped_at_seen c.args.skipped.now.items) (rw over at c.in_ok-value.ensures.done) _ (rw (c.units_left-given.ensures, over) at c.in_err-read_padding.ensures.stop))

pub reader::read_content-returns-then-units_left-gt0-clause-stop : goal.reader::read_content-returns-then-units_left-gt0-clause-stop
reader::read_content-returns-then-units_left-gt0-clause-stop g t c =
    let l = loose_by g.R.ReadLeaves.rules g.R.OtherVersions.loose in
    let ways = c.keep_walk_laws.ensures.ways in
    let o = c.args.octets.now in
    let over : g.R.ReadLeaves.rules.to_units c.over-units.result ≡ g.R.ReadLeaves.rules.ruling.units o = ap g.R.ReadLeaves.rules.to_units c.over-units.ensures ∙ ways.laws.over o c.requires.octets in
    too_much l ways (shape_of c.args.ty.now) c.requires.of_profile o c.requires.few (skipped_at_seen c.args.skipped.now.items) (rw over at c.in_ok-value.ensures.done) (rw (c.units_left-given.ensures, over) at c.in_ok-read_padding.ensures.done) (omega (arith, c.if-units_left-gt0.true, c.units_left.ensures)) _

pub reader::read_content-returns-clause-done : goal.reader::read_content-returns-clause-done
reader::read_content-returns-clause-done g t c =
    let l = loose_by g.R.ReadLeaves.rules g.R.OtherVersions.loose in
    let ways = c.keep_walk_laws.ensures.ways in
    let o = c.args.octets.now in
    let over : g.R.ReadLeaves.rules.to_units c.over-units.result ≡ g.R.ReadLeaves.rules.ruling.units o = ap g.R.ReadLeaves.rules.to_units c.over-units.ensures ∙ ways.laws.over o c.requires.octets in
    content_read l ways (shape_of c.args.ty.now) c.requires.of_profile o c.requires.few (skipped_at_seen c.args.skipped.now.items) (rw over at c.in_ok-value.ensures.done) (rw (c.units_left-given.ensures, over) at c.in_ok-read_padding.ensures.done) (length_none _ (omega (arith, c.if-units_left-gt0.false, c.units_left.ensures))) c.requires.octets

pub reader::read_closed-returns-in_err-preamble-clause-stop : goal.reader::read_closed-returns-in_err-preamble-clause-stop
reader::read_closed-returns-in_err-preamble-clause-stop g t c =
    let l = loose_by g.R.ReadLeaves.rules g.R.OtherVersions.loose in
    let ways = c.keep_walk_laws.ensures.ways in
    let p = err_from_is_err_and c.from_residual.result c.from_residual.ensures.1 in
    rw (p.1, p.2) (stops_on (part l ways) _ (preamble_none l ways (fields_seen c.args.root.now) closed c.requires.of_profile (g.R.ReadLeaves.rules.to_units c.args.units.now)) (rw c.bitmap_width-width.ensures.count at c.in_err-preamble.ensures.stop))

pub reader::read_closed-returns-in_err-read_components-clause-stop : goal.reader::read_closed-returns-in_err-read_components-clause-stop
reader::read_closed-returns-in_err-read_components-clause-stop g t c =
    let l = loose_by g.R.ReadLeaves.rules g.R.OtherVersions.loose in
    let ways = c.keep_walk_laws.ensures.ways in
    let p = err_from_is_err_and c.from_residual-in_err-read_components.result c.from_residual-in_err-read_components.ensures.1 in
    rw (p.1, p.2) (halts_on _ (root_none l ways (fields_seen c.args.root.now) closed c.requires.of_profile (g.R.ReadLeaves.rules.to_units c.args.units.now) (rw c.bitmap_width-width.ensures.count at c.in_ok-preamble.ensures.done)) (rw c.bitmap_width-width.ensures.count at c.in_err-read_components.ensures.stop))

pub reader::read_marked-returns-in_err-preamble-clause-stop : goal.reader::read_marked-returns-in_err-preamble-clause-stop
reader::read_marked-returns-in_err-preamble-clause-stop g t c =
    let l = loose_by g.R.ReadLeaves.rules g.R.OtherVersions.loose in
    let ways = c.keep_walk_laws.ensures.ways in
    let p = err_from_is_err_and c.from_residual.result c.from_residual.ensures.1 in
    rw (p.1, p.2) (stops_on (part l ways) _ (preamble_none l ways (fields_seen c.args.root.now) (marked (fields_seen c.args.additions.now)) c.requires.of_profile (g.R.ReadLeaves.rules.to_units c.args.units.now)) (rw c.bitmap_width-width.ensures.count at c.in_err-preamble.ensures.stop))

pub reader::read_marked-returns-in_err-read_components-clause-stop : goal.reader::read_marked-returns-in_err-read_components-clause-stop
reader::read_marked-returns-in_err-read_components-clause-stop g t c =
    let l = loose_by g.R.ReadLeaves.rules g.R.OtherVersions.loose in
    let ways = c.keep_walk_laws.ensures.ways in
    let p = err_from_is_err_and c.from_residual-in_err-read_components.result c.from_residual-in_err-read_components.ensures.1 in
    rw (p.1, p.2) (halts_on _ (root_none l ways (fields_seen c.args.root.now) (marked (fields_seen c.args.additions.now)) c.requires.of_profile (g.R.ReadLeaves.rules.to_units c.args.units.now) (rw c.bitmap_width-width.ensures.count at c.in_ok-preamble.ensures.done)) (rw c.bitmap_width-width.ensures.count at c.in_err-read_components.ensures.stop))

pub reader::read_closed-returns-clause-done : goal.reader::read_closed-returns-clause-done
reader::read_closed-returns-clause-done g t c =
    let l = loose_by g.R.ReadLeaves.rules g.R.OtherVersions.loose in
    let ways = c.keep_walk_laws.ensures.ways in
    let each = rw (c.in_ok-entries.ensures.items, c.bitmap_width-width.ensures.count) at c.in_ok-read_components.ensures.done in
    rw (datum_of-Seq c.read_components.new.entries) (sequence_done l ways (fields_seen c.args.root.now) closed c.requires.of_profile (g.R.ReadLeaves.rules.to_units c.args.units.now) (rw c.bitmap_width-width.ensures.count at c.in_ok-preamble.ensures.done) (skipped_at_seen c.args.skipped.now.items) each (no_more l (entries_seen c.read_components.new.entries.items) (skipped_at_seen c.read_components.new.skipped.items) c.in_ok-preamble.preamble.extended (g.R.ReadLeaves.rules.to_units c.read_components.new.units)))

pub reader::read-read_marked-requires : goal.reader::read-read_marked-requires
reader::read-read_marked-requires g t c κs within =
    let is = marked_type c.args.ty.now c.in-Seq.root c.in-Seq.ext c.in-Some.additions c.as_slice-root.result.now c.as_slice-additions.result.now c.in-Seq.is c.in-Some.is c.as_slice-root.ensures.value c.as_slice-additions.ensures.value in
    let good : InProfile (sequence (fields_seen c.as_slice-root.result.now) (marked (fields_seen c.as_slice-additions.result.now))) = rw is at c.requires.of_profile in
    (search (rules, the_lemmas), (within.0, (within.1, (c.requires.at_unit, (good, record { components = c.in-Seq.root; more = c.in-Some.additions; is = c.in-Seq.is ∙ ap (λ x. asn_type.Seq c.in-Seq.root x) c.in-Some.is; root_is = c.as_slice-root.ensures.value; additions_are = c.as_slice-additions.ensures.value })))))

pub reader::read-returns-in_default-ext-clause-done : goal.reader::read-returns-in_default-ext-clause-done
reader::read-returns-in_default-ext-clause-done g t c =
    let is = closed_choice_type c.args.ty.now c.in-Choice.root c.in-Choice.ext c.as_slice-root-in-Choice.result.now c.in-Choice.is c.in_default-ext.is c.as_slice-root-in-Choice.ensures.value in
    rw is c.read_closed_choice.ensures.done

pub reader::read-returns-in_default-ext-clause-stop : goal.reader::read-returns-in_default-ext-clause-stop
reader::read-returns-in_default-ext-clause-stop g t c =
    let is = closed_choice_type c.args.ty.now c.in-Choice.root c.in-Choice.ext c.as_slice-root-in-Choice.result.now c.in-Choice.is c.in_default-ext.is c.as_slice-root-in-Choice.ensures.value in
    rw is c.read_closed_choice.ensures.stop

pub reader::read-read_marked_choice-requires : goal.reader::read-read_marked_choice-requires
reader::read-read_marked_choice-requires g t c κs within =
    let is = marked_choice_type c.args.ty.now c.in-Choice.root c.in-Choice.ext c.in-Some-ext.additions c.as_slice-root-in-Choice.result.now c.as_slice-additions-in-Choice.result.now c.in-Choice.is c.in-Some-ext.is c.as_slice-root-in-Choice.ensures.value c.as_slice-additions-in-Choice.ensures.value in
    let good : InProfile (choice (alternatives_seen c.as_slice-root-in-Choice.result.now) (marked_choice (alternatives_seen c.as_slice-additions-in-Choice.result.now))) = rw is at c.requires.of_profile in
    (search (rules, the_lemmas), (within.0, (within.1, (c.requires.at_unit, (good, record { alternatives = c.in-Choice.root; more = c.in-Some-ext.additions; is = c.in-Choice.is ∙ ap (λ x. asn_type.Choice c.in-Choice.root x) c.in-Some-ext.is; root_is = c.as_slice-root-in-Choice.ensures.value; additions_are = c.as_slice-additions-in-Choice.ensures.value })))))

pub reader::read-returns-in_err-read_simple-in-Enum-clause-stop : goal.reader::read-returns-in_err-read_simple-in-Enum-clause-stop
reader::read-returns-in_err-read_simple-in-Enum-clause-stop g t c =
    let l = loose_by g.R.ReadLeaves.rules g.R.OtherVersions.loose in
    let is = closed_enum_type c.args.ty.now c.in-Enum.root c.in-Enum.ext c.in-Enum.is c.in_default-ext-2.is in
    let o = closed_enum_on l (g.R.ReadLeaves.rules.to_units c.args.units.now) (labels_seen c.in-Enum.root.items) in
    let p = err_from_is_err_and c.from_residual.result c.from_residual.ensures.1 in
    rw (p.1, p.2, is) (stops_on (fields_part_of g.R.ReadLeaves.rules c.keep_laws.ensures) _ o.none (rw is at c.in_err-read_simple-in-Enum.ensures.stop))

pub reader::read-returns-in_default-ext-2-clause-done : goal.reader::read-returns-in_default-ext-2-clause-done
reader::read-returns-in_default-ext-2-clause-done g t c =
    let l = loose_by g.R.ReadLeaves.rules g.R.OtherVersions.loose in
    let is = closed_enum_type c.args.ty.now c.in-Enum.root c.in-Enum.ext c.in-Enum.is c.in_default-ext-2.is in
    let o = closed_enum_on l (g.R.ReadLeaves.rules.to_units c.args.units.now) (labels_seen c.in-Enum.root.items) in
    rw is (none_taken (skipped_at_seen c.args.skipped.now.items) (o.done (datum_of c.in_ok-read_simple-in-Enum.field-0) (g.R.ReadLeaves.rules.to_units c.read_simple.new.units) (rw is at c.in_ok-read_simple-in-Enum.ensures.done)))

pub reader::read-returns-in_err-read_simple-in-Bool-clause-stop : goal.reader::read-returns-in_err-read_simple-in-Bool-clause-stop
reader::read-returns-in_err-read_simple-in-Bool-clause-stop g t c =
    let l = loose_by g.R.ReadLeaves.rules g.R.OtherVersions.loose in
    let o = plain_on l (g.R.ReadLeaves.rules.to_units c.args.units.now) c.args.ty.now c.in-Bool.is in
    let p = err_from_is_err_and c.from_residual-in_err-read_simple-in-Bool.result c.from_residual-in_err-read_simple-in-Bool.ensures.1 in
    rw (p.1, p.2) (stops_on (fields_part_of g.R.ReadLeaves.rules c.keep_laws-in-Bool.ensures) _ o.none c.in_err-read_simple-in-Bool.ensures.stop)

pub reader::read-returns-in-Some-ext-clause-done : goal.reader::read-returns-in-Some-ext-clause-done
reader::read-returns-in-Some-ext-clause-done g t c =
    let is = marked_choice_type c.args.ty.now c.in-Choice.root c.in-Choice.ext c.in-Some-ext.additions c.as_slice-root-in-Choice.result.now c.as_slice-additions-in-Choice.result.now c.in-Choice.is c.in-Some-ext.is c.as_slice-root-in-Choice.ensures.value c.as_slice-additions-in-Choice.ensures.value in
    rw is c.read_marked_choice.ensures.done

pub reader::read-returns-in-Some-ext-clause-stop : goal.reader::read-returns-in-Some-ext-clause-stop
reader::read-returns-in-Some-ext-clause-stop g t c =
    let is = marked_choice_type c.args.ty.now c.in-Choice.root c.in-Choice.ext c.in-Some-ext.additions c.as_slice-root-in-Choice.result.now c.as_slice-additions-in-Choice.result.now c.in-Choice.is c.in-Some-ext.is c.as_slice-root-in-Choice.ensures.value c.as_slice-additions-in-Choice.ensures.value in
    rw is c.read_marked_choice.ensures.stop

pub reader::read-returns-in-Some-ext-2-clause-done : goal.reader::read-returns-in-Some-ext-2-clause-done
reader::read-returns-in-Some-ext-2-clause-done g t c =
    let is = marked_enum_type c.args.ty.now c.in-Enum.root c.in-Enum.ext c.in-Some-ext-2.additions c.as_slice.result.now c.as_slice-in-Enum.result.now c.in-Enum.is c.in-Some-ext-2.is c.as_slice.ensures.value c.as_slice-in-Enum.ensures.value in
    rw is (IfOk-weaker c.read_any_item.result _ _ (λ v s. none_taken (skipped_at_seen c.args.skipped.now.items) s) c.read_any_item.ensures.done)

pub reader::read-returns-in_ok-read_simple-in-Bool-clause-done : goal.reader::read-returns-in_ok-read_simple-in-Bool-clause-done
reader::read-returns-in_ok-read_simple-in-Bool-clause-done g t c =
    let l = loose_by g.R.ReadLeaves.rules g.R.OtherVersions.loose in
    let o = plain_on l (g.R.ReadLeaves.rules.to_units c.args.units.now) c.args.ty.now c.in-Bool.is in
    none_taken (skipped_at_seen c.args.skipped.now.items) (o.done (datum_of c.in_ok-read_simple-in-Bool.field-0) (g.R.ReadLeaves.rules.to_units c.read_simple-in-Bool.new.units) c.in_ok-read_simple-in-Bool.ensures.done)

pub choices::read_added_alternative-read_known-requires : goal.choices::read_added_alternative-read_known-requires
choices::read_added_alternative-read_known-requires g t c κs within =
    (search (rules, the_lemmas), (within.0, (within.1, (c.requires.at_unit, good_at c.args.added.now c.args.index c.index-added-index.result c.requires.of_profile c.if-index-added.true))))

pub choices::read_added_alternative-returns-in_err-value-clause-stop : goal.choices::read_added_alternative-returns-in_err-value-clause-stop
choices::read_added_alternative-returns-in_err-value-clause-stop g t c =
    let o = added_at (loose_by g.R.ReadLeaves.rules g.R.OtherVersions.loose) c.args.tag c.args.index c.args.added.now c.args.index c.index-added-index.result (g.R.ReadLeaves.rules.to_units c.args.units.now) c.if-index-added.true in
    let p = err_from_is_err_and c.from_residual.result c.from_residual.ensures.1 in
    rw (p.1, p.2) (halts_on _ o.none c.in_err-value.ensures.stop)

pub choices::read_added_alternative-returns-then-index-added-clause-done : goal.choices::read_added_alternative-returns-then-index-added-clause-done
choices::read_added_alternative-returns-then-index-added-clause-done g t c =
    let o = added_at (loose_by g.R.ReadLeaves.rules g.R.OtherVersions.loose) c.args.tag c.args.index c.args.added.now c.args.index c.index-added-index.result (g.R.ReadLeaves.rules.to_units c.args.units.now) c.if-index-added.true in
    rw c.in_ok-chosen.ensures (taken_on (alternative c.args.tag) (skipped_at_seen c.args.skipped.now.items) (datum_of c.in_ok-value.value) o c.in_ok-value.ensures.done)

pub choices::read_added_alternative-returns-in_err-skip_field-clause-stop : goal.choices::read_added_alternative-returns-in_err-skip_field-clause-stop
choices::read_added_alternative-returns-in_err-skip_field-clause-stop g t c =
    let p = err_from_is_err_and c.from_residual-in_err-skip_field.result c.from_residual-in_err-skip_field.ensures.1 in
    rw (p.1, p.2) (halts_on _ (unknown_at (loose_by g.R.ReadLeaves.rules g.R.OtherVersions.loose) c.args.tag c.args.index c.args.added.now c.args.index (g.R.ReadLeaves.rules.to_units c.args.units.now) c.if-index-added.false).none c.in_err-skip_field.ensures.stop)

pub choices::read_added_alternative-returns-clause-done : goal.choices::read_added_alternative-returns-clause-done
choices::read_added_alternative-returns-clause-done g t c =
    rw (datum_of-UnknownAlternative c.args.tag) (alternative_missed (loose_by g.R.ReadLeaves.rules g.R.OtherVersions.loose) c.args.tag c.args.index c.args.added.now c.args.index (skipped_at_seen c.args.skipped.now.items) c.if-index-added.false c.in_ok-skip_field.ensures.done)

pub reader::read_closed-bitmap_width-width-requires : goal.reader::read_closed-bitmap_width-width-requires
reader::read_closed-bitmap_width-width-requires g t c =
    few_of_root c.args.root.now closed c.requires.of_profile

pub reader::read_closed-read_components-requires : goal.reader::read_closed-read_components-requires
reader::read_closed-read_components-requires g t c κs within =
    let room : vec_len c.in_ok-entries.entries + length c.args.root.now ≤ vec_capacity c.in_ok-entries.entries = omega (arith, c.in_ok-entries.ensures.len, c.in_ok-entries.ensures.capacity) in
    (search (rules, the_lemmas), (within.0, (within.1, (c.in_ok-preamble.ensures.at_unit, (components_of_profile (fields_seen c.args.root.now) closed c.requires.of_profile, (c.bitmap_width-width.ensures.count, (c.bitmap_width-width.ensures.few, room)))))))

pub choices::read_closed_choice-read_index-requires-clause-some : goal.choices::read_closed_choice-read_index-requires-clause-some
choices::read_closed_choice-read_index-requires-clause-some g t c =
    some_known c.args.root.now closed_choice c.requires.of_profile

pub choices::read_closed_choice-read_index-requires-clause-few : goal.choices::read_closed_choice-read_index-requires-clause-few
choices::read_closed_choice-read_index-requires-clause-few g t c =
    few_closed c.args.root.now c.requires.of_profile

pub choices::read_closed_choice-returns-in_err-index-clause-stop : goal.choices::read_closed_choice-returns-in_err-index-clause-stop
choices::read_closed_choice-returns-in_err-index-clause-stop g t c =
    let l = loose_by g.R.ReadLeaves.rules g.R.OtherVersions.loose in
    let ways = c.keep_walk_laws.ensures.ways in
    let p = err_from_is_err_and c.from_residual.result c.from_residual.ensures.1 in
    rw (p.1, p.2) (stops_on (part l ways) _ (closed_none l ways c.args.root.now c.requires.of_profile (g.R.ReadLeaves.rules.to_units c.args.units.now)) c.in_err-index.ensures.stop)

pub choices::read_closed_choice-read_root_alternative-requires : goal.choices::read_closed_choice-read_root_alternative-requires
choices::read_closed_choice-read_root_alternative-requires g t c κs within =
    let index : IsIndexWithin (length c.args.root.now) None (index_seen c.in_ok-index.field-0) = c.in_ok-index.ensures.done.spelt.fits in
    let inside : c.in-Root.index < length c.args.root.now = rw c.in-Root.is at index in
    let few = few_closed c.args.root.now c.requires.of_profile in
    (search (rules, the_lemmas), (within.0, (within.1, (c.in_ok-index.ensures.at_unit, (root_good (alternatives_seen c.args.root.now) closed_choice c.requires.of_profile, (inside, omega (arith, inside, few)))))))

pub choices::read_closed_choice-returns-clause-done : goal.choices::read_closed_choice-returns-clause-done
choices::read_closed_choice-returns-clause-done g t c =
    let l = loose_by g.R.ReadLeaves.rules g.R.OtherVersions.loose in
    let ways = c.keep_walk_laws.ensures.ways in
    let k : Spells g.R.ReadLeaves.rules.ruling.fielding (IndexOf g.R.ReadLeaves.rules (length c.args.root.now) None) (inl c.in-Root.index) (g.R.ReadLeaves.rules.to_units c.args.units.now) (g.R.ReadLeaves.rules.to_units c.read_index.new.units) = rw c.in-Root.is at c.in_ok-index.ensures.done in
    IfOk-weaker c.read_root_alternative.result _ _ (λ v s. taken_on (λ d. d) (skipped_at_seen c.args.skipped.now.items) (datum_of v) (closed_on l ways c.args.root.now c.requires.of_profile (g.R.ReadLeaves.rules.to_units c.args.units.now) k) s) c.read_root_alternative.ensures.done

pub choices::read_closed_choice-returns-clause-stop : goal.choices::read_closed_choice-returns-clause-stop
choices::read_closed_choice-returns-clause-stop g t c =
    let l = loose_by g.R.ReadLeaves.rules g.R.OtherVersions.loose in
    let ways = c.keep_walk_laws.ensures.ways in
    let k : Spells g.R.ReadLeaves.rules.ruling.fielding (IndexOf g.R.ReadLeaves.rules (length c.args.root.now) None) (inl c.in-Root.index) (g.R.ReadLeaves.rules.to_units c.args.units.now) (g.R.ReadLeaves.rules.to_units c.read_index.new.units) = rw c.in-Root.is at c.in_ok-index.ensures.done in
    IfErr-weaker c.read_root_alternative.result _ _ (λ why s. halts_on why (closed_on l ways c.args.root.now c.requires.of_profile (g.R.ReadLeaves.rules.to_units c.args.units.now) k).none s) c.read_root_alternative.ensures.stop

pub reader::read_content-read_padding-requires-clause-octets : goal.reader::read_content-read_padding-requires-clause-octets
reader::read_content-read_padding-requires-clause-octets g t c =
    let l = loose_by g.R.ReadLeaves.rules g.R.OtherVersions.loose in
    let ways = c.keep_walk_laws.ensures.ways in
    let o = c.args.octets.now in
    let over : g.R.ReadLeaves.rules.to_units c.over-units.result ≡ g.R.ReadLeaves.rules.ruling.units o = ap g.R.ReadLeaves.rules.to_units c.over-units.ensures ∙ ways.laws.over o c.requires.octets in
    rw (c.units_left-given.ensures, over) (units_fill g.R.ReadLeaves.rules ways.laws o)

pub reader::read_list-start_list-requires-clause-of_profile : goal.reader::read_list-start_list-requires-clause-of_profile
reader::read_list-start_list-requires-clause-of_profile g t c =
    list_size (shape_of c.args.element.now) (size_range_of c.args.size.now) c.requires.of_profile

pub reader::read_list-read_fragments-requires : goal.reader::read_list-read_fragments-requires
reader::read_list-read_fragments-requires g t c κs within =
    (search (rules, the_lemmas), (within.0, (within.1, (c.in_ok-fragments.ensures.at_unit, (element_of_profile (shape_of c.args.element.now) (size_range_of c.args.size.now) c.requires.of_profile, c.in_ok-fragments.ensures.between)))))

pub reader::read_marked-bitmap_width-width-requires : goal.reader::read_marked-bitmap_width-width-requires
reader::read_marked-bitmap_width-width-requires g t c =
    few_of_root c.args.root.now (marked (fields_seen c.args.additions.now)) c.requires.of_profile

pub reader::read_marked-read_components-requires : goal.reader::read_marked-read_components-requires
reader::read_marked-read_components-requires g t c κs within =
    let small = root_smaller c.args._ty.now c.requires.parts.components c.requires.parts.more c.args.root.now c.requires.parts.is c.requires.parts.root_is in
    let room : vec_len c.in_ok-entries.entries + length c.args.root.now ≤ vec_capacity c.in_ok-entries.entries = omega (arith, c.in_ok-entries.ensures.len, c.in_ok-entries.ensures.capacity) in
    (search (rules, the_lemmas, small), (within.0, (within.1, (c.in_ok-preamble.ensures.at_unit, (components_of_profile (fields_seen c.args.root.now) (marked (fields_seen c.args.additions.now)) c.requires.of_profile, (c.bitmap_width-width.ensures.count, (c.bitmap_width-width.ensures.few, room)))))))

pub reader::read_marked-read_additions-requires : goal.reader::read_marked-read_additions-requires
reader::read_marked-read_additions-requires g t c κs within =
    let small = additions_smaller c.args._ty.now c.requires.parts.components c.requires.parts.more c.args.additions.now c.requires.parts.is c.requires.parts.additions_are in
    (search (rules, the_lemmas, small), (within.0, (within.1, (c.in_ok-read_components.ensures.at_unit, (additions_of_profile (fields_seen c.args.root.now) (fields_seen c.args.additions.now) c.requires.of_profile, few_additions (fields_seen c.args.root.now) c.args.additions.now c.requires.of_profile)))))

pub reader::read_marked-returns-in_err-read_additions-clause-stop : goal.reader::read_marked-returns-in_err-read_additions-clause-stop
reader::read_marked-returns-in_err-read_additions-clause-stop g t c =
    let l = loose_by g.R.ReadLeaves.rules g.R.OtherVersions.loose in
    let ways = c.keep_walk_laws.ensures.ways in
    let each = rw (c.in_ok-entries.ensures.items, c.bitmap_width-width.ensures.count) at c.in_ok-read_components.ensures.done in
    let p = err_from_is_err_and c.from_residual-in_err-read_additions.result c.from_residual-in_err-read_additions.ensures.1 in
    rw (p.1, p.2) (halts_on _ (more_none l ways (fields_seen c.args.root.now) (marked (fields_seen c.args.additions.now)) c.requires.of_profile (g.R.ReadLeaves.rules.to_units c.args.units.now) (rw (c.bitmap_width-width.ensures.count, c.if-preamble.true) at c.in_ok-preamble.ensures.done) (skipped_at_seen c.args.skipped.now.items) each) c.in_err-read_additions.ensures.stop)

pub reader::read_marked-returns-clause-done : goal.reader::read_marked-returns-clause-done
reader::read_marked-returns-clause-done g t c =
    let l = loose_by g.R.ReadLeaves.rules g.R.OtherVersions.loose in
    let ways = c.keep_walk_laws.ensures.ways in
    let each = rw (c.in_ok-entries.ensures.items, c.bitmap_width-width.ensures.count) at c.in_ok-read_components.ensures.done in
    elim c.if-preamble.branch [
      | reader::read_marked-then-preamble+in_ok-read_additions w ↦ rw (w.entries-is, w.units-is, w.skipped-is, datum_of-Seq w.read_additions.new.entries) (sequence_done l ways (fields_seen c.args.root.now) (marked (fields_seen c.args.additions.now)) c.requires.of_profile (g.R.ReadLeaves.rules.to_units c.args.units.now) (rw (c.bitmap_width-width.ensures.count, w.if-preamble.true) at c.in_ok-preamble.ensures.done) (skipped_at_seen c.args.skipped.now.items) each w.in_ok-read_additions.ensures.done)
      | reader::read_marked-else-preamble+in_ok-push_absent w ↦ rw (w.entries-is, w.units-is, w.skipped-is, datum_of-Seq w.push_absent.new.entries) (sequence_done l ways (fields_seen c.args.root.now) (marked (fields_seen c.args.additions.now)) c.requires.of_profile (g.R.ReadLeaves.rules.to_units c.args.units.now) (rw (c.bitmap_width-width.ensures.count, w.if-preamble.false) at c.in_ok-preamble.ensures.done) (skipped_at_seen c.args.skipped.now.items) each (rw w.in_ok-push_absent.ensures (none_present l (fields_seen c.args.additions.now) (entries_seen c.read_components.new.entries.items) (skipped_at_seen c.read_components.new.skipped.items) (g.R.ReadLeaves.rules.to_units c.read_components.new.units))))
    ]

pub choices::read_marked_choice-read_any_index-requires-clause-some : goal.choices::read_marked_choice-read_any_index-requires-clause-some
choices::read_marked_choice-read_any_index-requires-clause-some g t c =
    some_known c.args.root.now (marked_choice (alternatives_seen c.args.additions.now)) c.requires.of_profile

pub choices::read_marked_choice-read_any_index-requires-clause-few : goal.choices::read_marked_choice-read_any_index-requires-clause-few
choices::read_marked_choice-read_any_index-requires-clause-few g t c =
    omega (arith, few_marked c.args.root.now c.args.additions.now c.requires.of_profile)

pub choices::read_marked_choice-returns-in_err-index-clause-stop : goal.choices::read_marked_choice-returns-in_err-index-clause-stop
choices::read_marked_choice-returns-in_err-index-clause-stop g t c =
    let l = loose_by g.R.ReadLeaves.rules g.R.OtherVersions.loose in
    let ways = c.keep_walk_laws.ensures.ways in
    let p = err_from_is_err_and c.from_residual.result c.from_residual.ensures.1 in
    rw (p.1, p.2) (halts_on _ (marked_none l ways c.args.root.now c.args.additions.now c.requires.of_profile (g.R.ReadLeaves.rules.to_units c.args.units.now)) c.in_err-index.ensures.stop)

pub choices::read_marked_choice-read_root_alternative-requires : goal.choices::read_marked_choice-read_root_alternative-requires
choices::read_marked_choice-read_root_alternative-requires g t c κs within =
    let small = alternatives_smaller c.args._ty.now c.requires.parts.alternatives c.requires.parts.more c.args.root.now c.requires.parts.is c.requires.parts.root_is in
    let index : IsIndexWithin (length c.args.root.now) (Some (most_alternatives - length c.args.root.now)) (index_seen c.in_ok-index.field-0) = c.in_ok-index.ensures.done.spelt.fits in
    let inside : c.in-Root.index < length c.args.root.now = rw c.in-Root.is at index in
    let few = few_marked c.args.root.now c.args.additions.now c.requires.of_profile in
    (search (rules, the_lemmas, small), (within.0, (within.1, (c.in_ok-index.ensures.at_unit, (root_good (alternatives_seen c.args.root.now) (marked_choice (alternatives_seen c.args.additions.now)) c.requires.of_profile, (inside, omega (arith, inside, few)))))))

pub choices::read_marked_choice-read_added_alternative-requires : goal.choices::read_marked_choice-read_added_alternative-requires
choices::read_marked_choice-read_added_alternative-requires g t c κs within =
    let small = added_smaller c.args._ty.now c.requires.parts.alternatives c.requires.parts.more c.args.additions.now c.requires.parts.is c.requires.parts.additions_are in
    let index : IsIndexWithin (length c.args.root.now) (Some (most_alternatives - length c.args.root.now)) (index_seen c.in_ok-index.field-0) = c.in_ok-index.ensures.done.spelt.fits in
    let inside : c.in-Added.index < most_alternatives - length c.args.root.now = rw c.in-Added.is at index in
    (search (rules, the_lemmas, small), (within.0, (within.1, (c.in_ok-index.ensures.at_unit, (added_good (alternatives_seen c.args.root.now) (marked_choice (alternatives_seen c.args.additions.now)) c.requires.of_profile, (omega (arith, inside), omega (arith, inside)))))))

pub choices::read_marked_choice-returns-in-Root-clause-done : goal.choices::read_marked_choice-returns-in-Root-clause-done
choices::read_marked_choice-returns-in-Root-clause-done g t c =
    let l = loose_by g.R.ReadLeaves.rules g.R.OtherVersions.loose in
    let ways = c.keep_walk_laws.ensures.ways in
    let k : Spells g.R.ReadLeaves.rules.ruling.fielding (IndexOf g.R.ReadLeaves.rules (length c.args.root.now) (Some (most_alternatives - length c.args.root.now))) (inl c.in-Root.index) (g.R.ReadLeaves.rules.to_units c.args.units.now) (g.R.ReadLeaves.rules.to_units c.read_any_index.new.units) = rw c.in-Root.is at c.in_ok-index.ensures.done in
    IfOk-weaker c.read_root_alternative.result _ _ (λ v s. taken_on (λ d. d) (skipped_at_seen c.args.skipped.now.items) (datum_of v) (marked_root_on l ways c.args.root.now c.args.additions.now c.requires.of_profile (g.R.ReadLeaves.rules.to_units c.args.units.now) k) s) c.read_root_alternative.ensures.done

pub choices::read_marked_choice-returns-in-Root-clause-stop : goal.choices::read_marked_choice-returns-in-Root-clause-stop
choices::read_marked_choice-returns-in-Root-clause-stop g t c =
    let l = loose_by g.R.ReadLeaves.rules g.R.OtherVersions.loose in
    let ways = c.keep_walk_laws.ensures.ways in
    let k : Spells g.R.ReadLeaves.rules.ruling.fielding (IndexOf g.R.ReadLeaves.rules (length c.args.root.now) (Some (most_alternatives - length c.args.root.now))) (inl c.in-Root.index) (g.R.ReadLeaves.rules.to_units c.args.units.now) (g.R.ReadLeaves.rules.to_units c.read_any_index.new.units) = rw c.in-Root.is at c.in_ok-index.ensures.done in
    IfErr-weaker c.read_root_alternative.result _ _ (λ why s. halts_on why (marked_root_on l ways c.args.root.now c.args.additions.now c.requires.of_profile (g.R.ReadLeaves.rules.to_units c.args.units.now) k).none s) c.read_root_alternative.ensures.stop

pub choices::read_marked_choice-returns-in-Added-clause-done : goal.choices::read_marked_choice-returns-in-Added-clause-done
choices::read_marked_choice-returns-in-Added-clause-done g t c =
    let l = loose_by g.R.ReadLeaves.rules g.R.OtherVersions.loose in
    let ways = c.keep_walk_laws.ensures.ways in
    let k : Spells g.R.ReadLeaves.rules.ruling.fielding (IndexOf g.R.ReadLeaves.rules (length c.args.root.now) (Some (most_alternatives - length c.args.root.now))) (inr c.in-Added.index) (g.R.ReadLeaves.rules.to_units c.args.units.now) (g.R.ReadLeaves.rules.to_units c.read_any_index.new.units) = rw c.in-Added.is at c.in_ok-index.ensures.done in
    IfOk-weaker c.read_added_alternative.result _ _ (λ v s. taken_on (λ d. d) (skipped_at_seen c.args.skipped.now.items) (datum_of v) (marked_added_on l ways c.args.root.now c.args.additions.now c.requires.of_profile (g.R.ReadLeaves.rules.to_units c.args.units.now) k) s) c.read_added_alternative.ensures.done

pub choices::read_marked_choice-returns-in-Added-clause-stop : goal.choices::read_marked_choice-returns-in-Added-clause-stop
choices::read_marked_choice-returns-in-Added-clause-stop g t c =
    let l = loose_by g.R.ReadLeaves.rules g.R.OtherVersions.loose in
    let ways = c.keep_walk_laws.ensures.ways in
    let k : Spells g.R.ReadLeaves.rules.ruling.fielding (IndexOf g.R.ReadLeaves.rules (length c.args.root.now) (Some (most_alternatives - length c.args.root.now))) (inr c.in-Added.index) (g.R.ReadLeaves.rules.to_units c.args.units.now) (g.R.ReadLeaves.rules.to_units c.read_any_index.new.units) = rw c.in-Added.is at c.in_ok-index.ensures.done in
    IfErr-weaker c.read_added_alternative.result _ _ (λ why s. halts_on why (marked_added_on l ways c.args.root.now c.args.additions.now c.requires.of_profile (g.R.ReadLeaves.rules.to_units c.args.units.now) k).none s) c.read_added_alternative.ensures.stop
