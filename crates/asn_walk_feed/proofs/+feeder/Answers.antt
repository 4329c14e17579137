use Rattle.std.proofs.Common.{inl, None, Some, ◌⊎◌, true, false, drop, ◌≡◌, ◌<◌, ◌≤◌, ◌+◌, ◌-◌, ◌*◌, ◌%◌, ◌++◌, ◌∷◌, [], ℕ, List, length, map, rules, refl, sym, ap, ◌∙◌, subst, arith}
use Rattle.std.specs.Prelude.{is_some}
use Rattle.std.proofs.lemmas.Result.{err_from_is_err_and, IfOk-weaker, IfErr-weaker}
use Rattle.asn_values.specs.declared.types.AsnType.{the_lemmas}
use Rattle.asn_values.specs.View.{shape_of, datum_of, part_of_field, fields_seen, size_range_of}
use Rattle.asn_values.proofs.InnerTypes.{element_of_profile}
use Rattle.asn_values.proofs.Views.{datum_of-List, list_of_elements}
use Rattle.asn_values.specs.Shape.{sequence, sequence_of}
use Rattle.asn_rules.specs.Stops.{Stops}
use Rattle.asn_rules.specs.declared.stop.Stop.TheVariants as stop
use Rattle.asn_rules.proofs.Languages.Leads.{stops_by, stops_on}
use Rattle.asn_rules.proofs.Components.Listed.{spelt_inhabited}
use Rattle.asn_rules.specs.Listed.{Spelt}
use Rattle.asn_rules.specs.Languages.{Spells}
use Rattle.asn_walk.specs.Reading.{ListOf, ValuesOf}
use Rattle.asn_walk.proofs.Listing.{steps_left, list_leads, list_size, start_stops}
use Rattle.asn_walk_feed.specs.Nodes.{nodes}
use Rattle.asn_walk_feed.specs.Taken.{ListGoesOn, KeepsFrames, Took}
use Rattle.asn_walk_feed.specs.Feeding.{IsScalar}
use Rattle.asn_walk_feed.specs.declared.frame.Frame.{Frame}
use Rattle.asn_walk_feed.proofs.Scalars.{scalar_node}
use Rattle.asn_walk_feed.proofs.Goings.{length_ahead, length_begun, length_stops, length_ends, length_kept, length_more, length_nearer, element_ahead, list_goes_on, took_elements, took_none, took_start, list_starts, taken_is}
use Rattle.asn_values.proofs.Views.{datum_of-Seq, datum_of-Choice, sequence_of_fields, choice_of_alternatives}
use Rattle.asn_walk.specs.Coding.{PreambleOf, added}
use Rattle.asn_rules.specs.Listed.{bitmap_length}
use Rattle.asn_walk.proofs.SequencesRead.{preamble_stops}
use Rattle.asn_walk_feed.specs.Roots.{parts_in}
use Rattle.asn_walk_feed.specs.Taken.{RootReached}
use Rattle.asn_walk_feed.proofs.RootsRead.{added_count, sequence_took, component_ahead, presence_left, root_starts, root_goes_on, root_ends, root_emptied, took_components, sequence_none, sequence_start, next_in, none_left, plain_demand, no_default, other_kept, value_kept, absent_took, took_other, took_value}
use Rattle.asn_values.specs.Parts.{IsGoodDemand}
use Rattle.asn_values.specs.Profile.{most_alternatives}
use Rattle.asn_values.specs.Shape.{Demand, must, optional, default}
use Rattle.asn_values.specs.View.{demand_of}
use Rattle.asn_values.proofs.Components.{shape_of_part}
use Rattle.asn_rules.specs.Listed.{default_of}
use Rattle.asn_rules.proofs.Components.ListedReading.{nothing_read}
use Rattle.asn_walk.proofs.ComponentsRead.{entry_leads}
use Rattle.asn_walk.proofs.Widths.{demand_of_part}
use Rattle.asn_walk.proofs.Parts.{few_components}
use Rattle.asn_values.specs.View.{more_fields_of, sequence_seen, more_alternatives_of, choice_seen}
use Rattle.std.proofs.Common.{vec_len, inr}
use Rattle.asn_rules.specs.Languages.{Short}
use Rattle.asn_walk.specs.Coding.{IndexOf, added_alternatives}
use Rattle.asn_walk.proofs.Parts.{some_root, more_count}
use Rattle.asn_walk_feed.specs.declared.frame.Frame.TheVariants as frame
use Rattle.asn_walk_feed.proofs.ChosenRead.{few_seen, few_of_root, choice_starts, choice_stops, index_inside, alternative_ahead, choice_goes_on, took_chosen, choice_none, choice_start, choice_took}
use Rattle.asn_rules.specs.Laws.{AreOctets}
use Rattle.asn_walk.specs.Coding.{OpenOf}
use Rattle.asn_walk.proofs.Decoding.{units_fill}
use Rattle.asn_walk.proofs.OpenRead.{octets_stop, content_of, value_held, more_held, none_held, value_stops, fill_leads, left_fewer, length_none}
use Rattle.asn_walk_feed.specs.Octets.{OctetsTook}
use Rattle.asn_rules.proofs.Languages.Leads.{leads_same}
use Rattle.asn_rules.proofs.Languages.Forks.{same_spells}
use Rattle.asn_walk_feed.proofs.ChosenRead.{addition_starts, no_addition, addition_inside, few_tags, addition_ahead, addition_goes_on, took_added}
use Rattle.asn_walk_feed.proofs.FieldsRead.{stands_after, keeps_none, few_units}
use Rattle.asn_walk.specs.Coding.{AdditionBitmapOf}
use Rattle.asn_walk.proofs.Parts.{few_added, marked_fields}
use Rattle.asn_values.specs.View.{entries_seen}
use Rattle.asn_walk_feed.specs.Additions.{marked_seen}
use Rattle.asn_walk_feed.specs.AddedTaken.{AdditionsReached}
use Rattle.asn_walk_feed.proofs.AddedRead.{some_present, bitmap_begun, bitmap_stops, bitmap_kept, additions_start, next_addition, left_within, additions_end, additions_emptied, bitmap_goes_on, additions_go_on, took_bitmap, bitmap_took, took_additions, bitmap_starts, no_mark, left_out, absent_read, present_took, present_read, present_stops, present_kept}
use Rattle.std.proofs.lemmas.Bool.{true≢false}
use Rattle.asn_walk_feed.proofs.ElementsWait.{to_come_stops, element_kept, waits_took, reads_nodes, stops_nodes}
use Rattle.asn_walk_feed.proofs.Sizes.{root_smaller, added_type_smaller, components_smaller, additions_smaller}
use Rattle.asn_walk_feed.proofs.Levels.{is_short, never, costs_same, costs_none, costs_like, costs_after, costs_then, costs_next, costs_last, content_within, field_pays, level_costs, field_stops, adds_inside, level_of_none, none_open, none_come, open_elements, open_components, open_chosen, open_additions, open_added, depth_of_elements, depth_is, depth_of_root, depth_of_additions, depth_of_alternatives, depth_of_added, depth_of_component, depth_of_addition, depth_of_alternative, depth_of_added_one}
use Rattle.asn_values.specs.View.{alternatives_seen}
use Rattle.asn_walk.proofs.Parts.{additions_are}
use Rattle.std.proofs.Common.{length-append, ◌^◌}
use Rattle.asn_values.specs.Measures.{sealed_depth}
use Rattle.std.proofs.Math.Nat.{le_refl, le_trans, sub-add_cancel}
use Rattle.asn_walk_feed.proofs.UnitsLeft.{fewer_left, still_below, next_inside, no_levels, taken_at_most}
use Rattle.asn_walk_feed.proofs.+feeder.Goals as goal

-- ---- the elements of a list

pub lists::feed_elements-feed_fragment-requires : goal.lists::feed_elements-feed_fragment-requires
lists::feed_elements-feed_fragment-requires g t c κs within =
    let inv = c.loop-alloc.invariant in
    (search (rules, the_lemmas), (within.0, (within.1, (inv.2, (((size_range_of c.args.size.now), c.requires.of_profile, c.requires.reached.0, inv.0 c.requires.reached.0 c.requires.reached.1), still_below inv.1 c.requires.few)))))

pub lists::feed_elements-returns-in_err-feed_fragment-clause-stop : goal.lists::feed_elements-returns-in_err-feed_fragment-clause-stop
lists::feed_elements-returns-in_err-feed_fragment-clause-stop g t c =
    let p = err_from_is_err_and c.from_residual.result c.from_residual.ensures.1 in
    rw (p.1, p.2) (λ all h. c.in_err-feed_fragment.ensures.stop (size_range_of c.args.size.now) c.requires.of_profile all (c.loop-alloc.invariant.0 all h))

pub lists::feed_elements-returns-in_err-feed_fragment-clause-kept : goal.lists::feed_elements-returns-in_err-feed_fragment-clause-kept
lists::feed_elements-returns-in_err-feed_fragment-clause-kept g t c = λ e all h.
    let p = err_from_is_err_and c.from_residual.result c.from_residual.ensures.1 in
    c.in_err-feed_fragment.ensures.kept (cc (p.1, p.2, e)) (size_range_of c.args.size.now) c.requires.of_profile all (c.loop-alloc.invariant.0 all h)

pub lists::feed_elements-next_fragment-requires : goal.lists::feed_elements-next_fragment-requires
lists::feed_elements-next_fragment-requires g t c =
    let k = c.in_ok-feed_fragment.ensures.done (size_range_of c.args.size.now) c.requires.of_profile c.requires.reached.0 (c.loop-alloc.invariant.0 c.requires.reached.0 c.requires.reached.1) in
    let b = length_begun g.R.ReadLeaves.rules c.keep_laws.ensures c.keep_feed_laws.ensures g.R.FeedLeaves.fields g.R.ReadLeaves.ahead g.R.ReadLeaves.is_between (shape_of c.args.element.now) (size_range_of c.args.size.now) c.requires.of_profile c.feed_fragment.new.list (nodes c.feed_fragment.new.frames) c.requires.reached.0 (g.R.ReadLeaves.rules.to_units c.feed_fragment.new.units) c.in_ok-feed_fragment.ensures.over k in
    record { at_unit = c.in_ok-feed_fragment.ensures.at_unit; between = k.between_is; begun = b.1; begins = b.0; few = still_below (c.in_ok-feed_fragment.ensures.ticked ∙ c.loop-alloc.invariant.1) c.requires.few }

pub lists::feed_elements-returns-in_err-next_fragment-clause-stop : goal.lists::feed_elements-returns-in_err-next_fragment-clause-stop
lists::feed_elements-returns-in_err-next_fragment-clause-stop g t c =
    let p = err_from_is_err_and c.from_residual-in_err-next_fragment.result c.from_residual-in_err-next_fragment.ensures.1 in
    rw (p.1, p.2) (λ all h. length_stops g.R.ReadLeaves.rules c.keep_laws.ensures c.keep_feed_laws.ensures g.R.FeedLeaves.fields g.R.ReadLeaves.ahead g.R.ReadLeaves.is_between (shape_of c.args.element.now) (size_range_of c.args.size.now) c.requires.of_profile c.feed_fragment.new.list (nodes c.feed_fragment.new.frames) all (g.R.ReadLeaves.rules.to_units c.feed_fragment.new.units) _ c.in_ok-feed_fragment.ensures.over (c.in_ok-feed_fragment.ensures.done (size_range_of c.args.size.now) c.requires.of_profile all (c.loop-alloc.invariant.0 all h)) c.in_err-next_fragment.ensures.stop)

pub lists::feed_elements-returns-in_err-next_fragment-clause-kept : goal.lists::feed_elements-returns-in_err-next_fragment-clause-kept
lists::feed_elements-returns-in_err-next_fragment-clause-kept g t c = λ e all h.
    let p = err_from_is_err_and c.from_residual-in_err-next_fragment.result c.from_residual-in_err-next_fragment.ensures.1 in
    let U = g.R.ReadLeaves.rules.to_units in
    let w : c.in_err-next_fragment.field-0.0 ≡ stop.Short = cc (p.1, p.2, e) in
    length_kept g.R.ReadLeaves.rules c.keep_laws.ensures c.keep_feed_laws.ensures g.R.FeedLeaves.fields g.R.ReadLeaves.ahead g.R.ReadLeaves.is_between (shape_of c.args.element.now) (size_range_of c.args.size.now) c.requires.of_profile c.feed_fragment.new.list c.next_fragment.new.list (nodes c.feed_fragment.new.frames) all (U c.feed_fragment.new.units) (U c.next_fragment.new.units) c.in_ok-feed_fragment.ensures.over (c.in_ok-feed_fragment.ensures.done (size_range_of c.args.size.now) c.requires.of_profile all (c.loop-alloc.invariant.0 all h)) c.in_err-next_fragment.ensures.same.1 c.in_err-next_fragment.ensures.same.0 c.next_fragment.ensures.elements c.in_err-next_fragment.ensures.begun (rw w at c.in_err-next_fragment.ensures.kept) (rw w at c.in_err-next_fragment.ensures.after) (rw w at c.in_err-next_fragment.ensures.stop)

pub lists::feed_elements-returns-then-not-branch-clause-done : goal.lists::feed_elements-returns-then-not-branch-clause-done
lists::feed_elements-returns-then-not-branch-clause-done g t c = λ all h.
    let U = g.R.ReadLeaves.rules.to_units in
    let k = length_ends g.R.ReadLeaves.rules c.keep_laws.ensures c.keep_feed_laws.ensures g.R.FeedLeaves.fields g.R.ReadLeaves.ahead g.R.ReadLeaves.is_between (shape_of c.args.element.now) (size_range_of c.args.size.now) c.requires.of_profile c.feed_fragment.new.list (nodes c.feed_fragment.new.frames) all (U c.feed_fragment.new.units) (U c.next_fragment.new.units) (g.R.ReadLeaves.ahead c.next_fragment.new.list.fragments) c.in_ok-feed_fragment.ensures.over (c.in_ok-feed_fragment.ensures.done (size_range_of c.args.size.now) c.requires.of_profile all (c.loop-alloc.invariant.0 all h)) (c.next_fragment.ensures.none (cc (c.in_ok-next_fragment.was, c.if-not-branch.true))) in
    rw c.next_fragment.ensures.elements k

pub lists::feed_elements-returns-then-not-branch-clause-emptied : goal.lists::feed_elements-returns-then-not-branch-clause-emptied
lists::feed_elements-returns-then-not-branch-clause-emptied g t c =
    (length_ahead g.R.ReadLeaves.rules c.keep_laws.ensures c.keep_feed_laws.ensures g.R.FeedLeaves.fields g.R.ReadLeaves.ahead g.R.ReadLeaves.is_between (shape_of c.args.element.now) (size_range_of c.args.size.now) c.requires.of_profile c.feed_fragment.new.list (nodes c.feed_fragment.new.frames) c.requires.reached.0 (g.R.ReadLeaves.rules.to_units c.feed_fragment.new.units) c.in_ok-feed_fragment.ensures.over (c.in_ok-feed_fragment.ensures.done (size_range_of c.args.size.now) c.requires.of_profile c.requires.reached.0 (c.loop-alloc.invariant.0 c.requires.reached.0 c.requires.reached.1))).none

pub lists::feed_elements-loop-alloc-preserved : goal.lists::feed_elements-loop-alloc-preserved
lists::feed_elements-loop-alloc-preserved g t c =
    let inv = c.loop-alloc.invariant in
    let U = g.R.ReadLeaves.rules.to_units in (
      λ all h. length_more g.R.ReadLeaves.rules c.keep_laws.ensures c.keep_feed_laws.ensures g.R.FeedLeaves.fields g.R.ReadLeaves.ahead g.R.ReadLeaves.is_between (shape_of c.args.element.now) (size_range_of c.args.size.now) c.requires.of_profile c.feed_fragment.new.list c.next_fragment.new.list (nodes c.feed_fragment.new.frames) all (U c.feed_fragment.new.units) (U c.next_fragment.new.units) c.next_fragment.new.list.left c.in_ok-feed_fragment.ensures.over (c.in_ok-feed_fragment.ensures.done (size_range_of c.args.size.now) c.requires.of_profile all (inv.0 all h)) refl c.next_fragment.ensures.elements c.in_ok-next_fragment.ensures.fresh c.next_fragment.ensures.between (c.next_fragment.ensures.more (cc (c.in_ok-next_fragment.was, c.if-not-branch.false))),
      c.in_ok-next_fragment.ensures.ticked ∙ c.in_ok-feed_fragment.ensures.ticked ∙ inv.1,
      c.in_ok-next_fragment.ensures.at_unit,
      le_trans inv.3 (le_trans c.in_ok-feed_fragment.ensures.rising c.in_ok-next_fragment.ensures.rising),
      (let none = (length_ahead g.R.ReadLeaves.rules c.keep_laws.ensures c.keep_feed_laws.ensures g.R.FeedLeaves.fields g.R.ReadLeaves.ahead g.R.ReadLeaves.is_between (shape_of c.args.element.now) (size_range_of c.args.size.now) c.requires.of_profile c.feed_fragment.new.list (nodes c.feed_fragment.new.frames) c.requires.reached.0 (g.R.ReadLeaves.rules.to_units c.feed_fragment.new.units) c.in_ok-feed_fragment.ensures.over (c.in_ok-feed_fragment.ensures.done (size_range_of c.args.size.now) c.requires.of_profile c.requires.reached.0 (c.loop-alloc.invariant.0 c.requires.reached.0 c.requires.reached.1))).none in costs_last {d1 = sealed_depth (shape_of c.args.element.now)} (costs_then c.loop-alloc.invariant.4 c.feed_fragment.ensures.inside (le_refl _) (le_refl _) (λ n o. o)) (le_refl _) (none_open g.R.ReadLeaves.rules g.R.FeedLeaves.fields g.R.ReadLeaves.ahead g.R.ReadLeaves.is_between (nodes c.feed_fragment.new.frames) none) c.next_fragment.ensures.inside (fewer_left c.next_fragment.ensures.rising c.next_fragment.ensures.ticked)),
    )

pub lists::feed_elements-loop-alloc-smaller : goal.lists::feed_elements-loop-alloc-smaller
lists::feed_elements-loop-alloc-smaller g t c =
    let U = g.R.ReadLeaves.rules.to_units in
    let k = length_nearer g.R.ReadLeaves.rules c.keep_laws.ensures c.keep_feed_laws.ensures g.R.FeedLeaves.fields g.R.ReadLeaves.ahead g.R.ReadLeaves.is_between (shape_of c.args.element.now) (size_range_of c.args.size.now) c.requires.of_profile c.feed_fragment.new.list (nodes c.feed_fragment.new.frames) c.requires.reached.0 (U c.feed_fragment.new.units) (U c.next_fragment.new.units) c.next_fragment.new.list.left (g.R.ReadLeaves.ahead c.next_fragment.new.list.fragments) c.in_ok-feed_fragment.ensures.over (c.in_ok-feed_fragment.ensures.done (size_range_of c.args.size.now) c.requires.of_profile c.requires.reached.0 (c.loop-alloc.invariant.0 c.requires.reached.0 c.requires.reached.1)) (c.next_fragment.ensures.more (cc (c.in_ok-next_fragment.was, c.if-not-branch.false))) in
    let n : steps_left (g.R.ReadLeaves.ahead c.next_fragment.new.list.fragments) + length (U c.next_fragment.new.units) < steps_left (g.R.ReadLeaves.ahead c.loop-alloc.list.fragments) + length (U c.feed_fragment.new.units) = rw c.in_ok-feed_fragment.ensures.fragments at k in
    omega (arith, n, c.in_ok-feed_fragment.ensures.shorter)

-- ---- the elements of a fragment

pub lists::feed_fragment-feed_element-requires : goal.lists::feed_fragment-feed_element-requires
lists::feed_fragment-feed_element-requires g t c κs within =
    let inv = c.loop-list.invariant in
    let s = c.requires.reached.0 in
    let good = c.requires.reached.1 in
    let all = c.requires.reached.2 in
    let x = element_ahead g.R.ReadLeaves.rules c.keep_laws.ensures c.keep_feed_laws.ensures g.R.FeedLeaves.fields g.R.ReadLeaves.ahead g.R.ReadLeaves.is_between (shape_of c.args.element.now) s good c.loop-list.list (nodes c.loop-list.frames) all (g.R.ReadLeaves.rules.to_units c.loop-list.units) c.loop-list-test.true (inv.0 s good all c.requires.reached.3) in
    (search (rules, the_lemmas), (within.0, (within.1, (inv.2, (element_of_profile (shape_of c.args.element.now) s good, ((s, good), ((x.come, x.took), still_below inv.1 c.requires.few)))))))

pub lists::feed_fragment-returns-in_err-value-clause-stop : goal.lists::feed_fragment-returns-in_err-value-clause-stop
lists::feed_fragment-returns-in_err-value-clause-stop g t c =
    let inv = c.loop-list.invariant in
    let p = err_from_is_err_and c.from_residual.result c.from_residual.ensures.1 in
    rw (p.1, p.2) (λ s good all h.
    (let x = element_ahead g.R.ReadLeaves.rules c.keep_laws.ensures c.keep_feed_laws.ensures g.R.FeedLeaves.fields g.R.ReadLeaves.ahead g.R.ReadLeaves.is_between (shape_of c.args.element.now) s good c.loop-list.list (nodes c.loop-list.frames) all (g.R.ReadLeaves.rules.to_units c.loop-list.units) c.loop-list-test.true (inv.0 s good all h) in
    x.stops _ (c.in_err-value.ensures.stop x.come x.took)))

pub lists::feed_fragment-returns-in_err-value-clause-kept : goal.lists::feed_fragment-returns-in_err-value-clause-kept
lists::feed_fragment-returns-in_err-value-clause-kept g t c = λ e s good all h.
    let inv = c.loop-list.invariant in
    let p = err_from_is_err_and c.from_residual.result c.from_residual.ensures.1 in
    let w : c.in_err-value.field-0.0 ≡ stop.Short = cc (p.1, p.2, e) in
    let x = element_ahead g.R.ReadLeaves.rules c.keep_laws.ensures c.keep_feed_laws.ensures g.R.FeedLeaves.fields g.R.ReadLeaves.ahead g.R.ReadLeaves.is_between (shape_of c.args.element.now) s good c.loop-list.list (nodes c.loop-list.frames) all (g.R.ReadLeaves.rules.to_units c.loop-list.units) c.loop-list-test.true (inv.0 s good all h) in
    x.kept _ (nodes c.feed_element.new.frames) (g.R.ReadLeaves.rules.to_units c.feed_element.new.units) refl refl refl (rw w at c.in_err-value.ensures.after) (rw w at (c.in_err-value.ensures.kept x.come x.took))

pub lists::feed_fragment-loop-list-preserved : goal.lists::feed_fragment-loop-list-preserved
lists::feed_fragment-loop-list-preserved g t c =
    let inv = c.loop-list.invariant in (
      λ s good all h.
          (let x = element_ahead g.R.ReadLeaves.rules c.keep_laws.ensures c.keep_feed_laws.ensures g.R.FeedLeaves.fields g.R.ReadLeaves.ahead g.R.ReadLeaves.is_between (shape_of c.args.element.now) s good c.loop-list.list (nodes c.loop-list.frames) all (g.R.ReadLeaves.rules.to_units c.loop-list.units) c.loop-list-test.true (inv.0 s good all h) in
          x.more _ _ c.in_ok-value.value _ (omega (arith, c.loop-list-test.true)) refl c.in_ok-value.ensures.fresh c.in_ok-push.ensures.items c.in_ok-value.ensures.emptied (c.in_ok-value.ensures.done x.come x.took)),
      c.in_ok-value.ensures.ticked ∙ inv.1,
      c.in_ok-value.ensures.at_unit,
      inv.3,
      le_trans (fewer_left c.in_ok-value.ensures.rising c.in_ok-value.ensures.ticked) inv.4,
      le_trans inv.5 c.in_ok-value.ensures.rising,
      costs_last {d1 = sealed_depth (shape_of c.args.element.now)} (costs_then c.loop-list.invariant.6 c.feed_element.ensures.inside (le_refl _) (le_refl _) (λ n o. o)) (le_refl _) (none_open g.R.ReadLeaves.rules g.R.FeedLeaves.fields g.R.ReadLeaves.ahead g.R.ReadLeaves.is_between (nodes c.feed_element.new.frames) c.in_ok-value.ensures.emptied) refl (le_refl _),
    )

pub values::feed-feed_scalar-requires-clause-start : goal.values::feed-feed_scalar-requires-clause-start
values::feed-feed_scalar-requires-clause-start g t c =
    let sc : IsScalar (shape_of c.args.ty.now) = search (rules, the_lemmas) in
    let us = c.requires.reached.0 in
    let k = c.requires.reached.1 in
    let x = scalar_node g.R.ReadLeaves.rules c.keep_feed_laws.ensures g.R.FeedLeaves.fields g.R.ReadLeaves.ahead g.R.ReadLeaves.is_between (shape_of c.args.ty.now) sc c.take-node-in-Bool.result (nodes c.take-node-in-Bool.new.self) us c.take-node-in-Bool.ensures.empty (subst (λ (xs : List (Frame g.row.R-Fragments.Denot)). Took g.R.ReadLeaves.rules g.R.FeedLeaves.fields g.R.ReadLeaves.ahead g.R.ReadLeaves.is_between xs (shape_of c.args.ty.now) us) (taken_is c.take-node-in-Bool.result (nodes c.args.frames.now) (nodes c.take-node-in-Bool.new.self) c.take-node-in-Bool.ensures.some c.take-node-in-Bool.ensures.none c.take-node-in-Bool.ensures.empty) k) in
    x.start

pub values::feed-feed_scalar-requires-clause-waits : goal.values::feed-feed_scalar-requires-clause-waits
values::feed-feed_scalar-requires-clause-waits g t c =
    let sc : IsScalar (shape_of c.args.ty.now) = search (rules, the_lemmas) in
    let us = c.requires.reached.0 in
    let k = c.requires.reached.1 in
    let x = scalar_node g.R.ReadLeaves.rules c.keep_feed_laws.ensures g.R.FeedLeaves.fields g.R.ReadLeaves.ahead g.R.ReadLeaves.is_between (shape_of c.args.ty.now) sc c.take-node-in-Bool.result (nodes c.take-node-in-Bool.new.self) us c.take-node-in-Bool.ensures.empty (subst (λ (xs : List (Frame g.row.R-Fragments.Denot)). Took g.R.ReadLeaves.rules g.R.FeedLeaves.fields g.R.ReadLeaves.ahead g.R.ReadLeaves.is_between xs (shape_of c.args.ty.now) us) (taken_is c.take-node-in-Bool.result (nodes c.args.frames.now) (nodes c.take-node-in-Bool.new.self) c.take-node-in-Bool.ensures.some c.take-node-in-Bool.ensures.none c.take-node-in-Bool.ensures.empty) k) in
    x.waits

pub values::feed-returns-in-SeqOf-clause-done : goal.values::feed-returns-in-SeqOf-clause-done
values::feed-returns-in-SeqOf-clause-done g t c =
    let is = list_of_elements c.args.ty.now c.deref.result.now c.in-SeqOf.element c.in-SeqOf.size c.in-SeqOf.is c.deref.ensures in
    let tk = taken_is c.take-node.result (nodes c.args.frames.now) (nodes c.take-node.new.self) c.take-node.ensures.some c.take-node.ensures.none c.take-node.ensures.empty in
    IfOk-weaker c.resume_list.result _ _ (λ v s us k. rw is (s us (rw (is, tk) at k))) c.resume_list.ensures.done

pub values::feed-returns-in-Bool-clause-done : goal.values::feed-returns-in-Bool-clause-done
values::feed-returns-in-Bool-clause-done g t c =
    let sc : IsScalar (shape_of c.args.ty.now) = search (rules, the_lemmas) in
    IfOk-weaker c.feed_scalar.result _ _ (λ v s us k. (let x = scalar_node g.R.ReadLeaves.rules c.keep_feed_laws.ensures g.R.FeedLeaves.fields g.R.ReadLeaves.ahead g.R.ReadLeaves.is_between (shape_of c.args.ty.now) sc c.take-node-in-Bool.result (nodes c.take-node-in-Bool.new.self) us c.take-node-in-Bool.ensures.empty (subst (λ (xs : List (Frame g.row.R-Fragments.Denot)). Took g.R.ReadLeaves.rules g.R.FeedLeaves.fields g.R.ReadLeaves.ahead g.R.ReadLeaves.is_between xs (shape_of c.args.ty.now) us) (taken_is c.take-node-in-Bool.result (nodes c.args.frames.now) (nodes c.take-node-in-Bool.new.self) c.take-node-in-Bool.ensures.some c.take-node-in-Bool.ensures.none c.take-node-in-Bool.ensures.empty) k) in rw x.come at s)) c.feed_scalar.ensures.done

pub values::feed-returns-in-Bool-clause-stop : goal.values::feed-returns-in-Bool-clause-stop
values::feed-returns-in-Bool-clause-stop g t c =
    let sc : IsScalar (shape_of c.args.ty.now) = search (rules, the_lemmas) in
    IfErr-weaker c.feed_scalar.result _ _ (λ why s us k. (let x = scalar_node g.R.ReadLeaves.rules c.keep_feed_laws.ensures g.R.FeedLeaves.fields g.R.ReadLeaves.ahead g.R.ReadLeaves.is_between (shape_of c.args.ty.now) sc c.take-node-in-Bool.result (nodes c.take-node-in-Bool.new.self) us c.take-node-in-Bool.ensures.empty (subst (λ (xs : List (Frame g.row.R-Fragments.Denot)). Took g.R.ReadLeaves.rules g.R.FeedLeaves.fields g.R.ReadLeaves.ahead g.R.ReadLeaves.is_between xs (shape_of c.args.ty.now) us) (taken_is c.take-node-in-Bool.result (nodes c.args.frames.now) (nodes c.take-node-in-Bool.new.self) c.take-node-in-Bool.ensures.some c.take-node-in-Bool.ensures.none c.take-node-in-Bool.ensures.empty) k) in rw x.come at s)) c.feed_scalar.ensures.stop

pub values::feed-returns-in-Bool-clause-kept : goal.values::feed-returns-in-Bool-clause-kept
values::feed-returns-in-Bool-clause-kept g t c =
    let sc : IsScalar (shape_of c.args.ty.now) = search (rules, the_lemmas) in
    IfErr-weaker c.feed_scalar.result _ _ (λ why s us k. (let x = scalar_node g.R.ReadLeaves.rules c.keep_feed_laws.ensures g.R.FeedLeaves.fields g.R.ReadLeaves.ahead g.R.ReadLeaves.is_between (shape_of c.args.ty.now) sc c.take-node-in-Bool.result (nodes c.take-node-in-Bool.new.self) us c.take-node-in-Bool.ensures.empty (subst (λ (xs : List (Frame g.row.R-Fragments.Denot)). Took g.R.ReadLeaves.rules g.R.FeedLeaves.fields g.R.ReadLeaves.ahead g.R.ReadLeaves.is_between xs (shape_of c.args.ty.now) us) (taken_is c.take-node-in-Bool.result (nodes c.args.frames.now) (nodes c.take-node-in-Bool.new.self) c.take-node-in-Bool.ensures.some c.take-node-in-Bool.ensures.none c.take-node-in-Bool.ensures.empty) k) in rw x.come at s)) c.feed_scalar.ensures.kept

pub lists::feed_list-returns-in-Ok-clause-done : goal.lists::feed_list-returns-in-Ok-clause-done
lists::feed_list-returns-in-Ok-clause-done g t c = λ all h.
    let values = c.feed_elements.new.list.elements in
    rw (datum_of-List values) ((list_leads g.R.ReadLeaves.rules c.keep_laws.ensures (shape_of c.args.element.now) (size_range_of c.args.size.now) all c.requires.of_profile).done (map datum_of values.items) (g.R.ReadLeaves.rules.to_units c.feed_elements.new.units) (c.in-Ok.ensures.done all h))

pub lists::feed_list-returns-in-Ok-put-clause-stop : goal.lists::feed_list-returns-in-Ok-put-clause-stop
lists::feed_list-returns-in-Ok-put-clause-stop g t c = λ all h.
    let a : Stops g.R.ReadLeaves.rules.ruling.fielding (ListOf g.R.ReadLeaves.rules c.args.element.now c.args.size.now) all stop.Short = rw c.in-Err-Short.field-0-is at (c.in-Err-Short.ensures.stop all h) in
    stops_by stop.Short (list_leads g.R.ReadLeaves.rules c.keep_laws.ensures (shape_of c.args.element.now) (size_range_of c.args.size.now) all c.requires.of_profile).stops a

pub lists::feed_list-returns-in-Ok-put-clause-kept : goal.lists::feed_list-returns-in-Ok-put-clause-kept
lists::feed_list-returns-in-Ok-put-clause-kept g t c = λ all h.
    let none : g.R.ReadLeaves.rules.to_units c.feed_elements.new.units ≡ [] = rw c.in-Err-Short.field-0-is at c.in-Err-Short.ensures.after in
    let kept : ListGoesOn g.R.ReadLeaves.rules g.R.FeedLeaves.fields g.R.ReadLeaves.ahead g.R.ReadLeaves.is_between (shape_of c.args.element.now) (size_range_of c.args.size.now) c.feed_elements.new.list (nodes c.feed_elements.new.frames) all (g.R.ReadLeaves.rules.to_units c.feed_elements.new.units) = c.feed_elements.ensures.kept (cc (c.in-Err-Short.is, c.in-Err-Short.field-0-is)) all h in
    rw c.in-Ok-put.ensures (subst (λ (xs : List ℕ). ListGoesOn g.R.ReadLeaves.rules g.R.FeedLeaves.fields g.R.ReadLeaves.ahead g.R.ReadLeaves.is_between (shape_of c.args.element.now) (size_range_of c.args.size.now) c.feed_elements.new.list (nodes c.feed_elements.new.frames) all xs) none kept)

pub lists::resume_list-start_list-requires-in-None : goal.lists::resume_list-start_list-requires-in-None
lists::resume_list-start_list-requires-in-None g t c κs within =
    (search (rules, the_lemmas), (within.0, (within.1, (c.requires.at_unit, (c.requires.of_profile, (c.requires.last (ap is_some c.in-None.is), (record { come = refl; at_unit = rw c.none.ensures c.keep_feed_laws.ensures.begin; begins = inl c.none.ensures }, c.requires.few)))))))

pub lists::resume_list-feed_list-requires : goal.lists::resume_list-feed_list-requires
lists::resume_list-feed_list-requires g t c κs within =
    let us = c.requires.reached.0 in
    let k = c.requires.reached.1 in
    (search (rules, the_lemmas), (within.0, (within.1, (c.requires.at_unit, (c.requires.of_profile, ((us ++ g.R.ReadLeaves.rules.to_units c.args.units.now, (list_goes_on g.R.ReadLeaves.rules c.keep_laws.ensures c.keep_feed_laws.ensures g.R.FeedLeaves.fields g.R.ReadLeaves.ahead g.R.ReadLeaves.is_between (shape_of c.args.element.now) (size_range_of c.args.size.now) c.requires.of_profile c.in-Some-Elements.list (nodes c.args.frames.now) us (g.R.ReadLeaves.rules.to_units c.args.units.now) (took_elements g.R.ReadLeaves.rules c.keep_laws.ensures c.keep_feed_laws.ensures g.R.FeedLeaves.fields g.R.ReadLeaves.ahead g.R.ReadLeaves.is_between (shape_of c.args.element.now) (size_range_of c.args.size.now) c.requires.of_profile c.args.node c.in-Some-Elements.field-0 c.in-Some-Elements.list (nodes c.args.frames.now) us c.in-Some-Elements.is c.in-Some-Elements.field-0-is k))), c.requires.few))))))

pub lists::resume_list-returns-in-Some-Elements-clause-done : goal.lists::resume_list-returns-in-Some-Elements-clause-done
lists::resume_list-returns-in-Some-Elements-clause-done g t c =
    IfOk-weaker c.feed_list.result _ _ (λ v s us k. s (us ++ g.R.ReadLeaves.rules.to_units c.args.units.now) (list_goes_on g.R.ReadLeaves.rules c.keep_laws.ensures c.keep_feed_laws.ensures g.R.FeedLeaves.fields g.R.ReadLeaves.ahead g.R.ReadLeaves.is_between (shape_of c.args.element.now) (size_range_of c.args.size.now) c.requires.of_profile c.in-Some-Elements.list (nodes c.args.frames.now) us (g.R.ReadLeaves.rules.to_units c.args.units.now) (took_elements g.R.ReadLeaves.rules c.keep_laws.ensures c.keep_feed_laws.ensures g.R.FeedLeaves.fields g.R.ReadLeaves.ahead g.R.ReadLeaves.is_between (shape_of c.args.element.now) (size_range_of c.args.size.now) c.requires.of_profile c.args.node c.in-Some-Elements.field-0 c.in-Some-Elements.list (nodes c.args.frames.now) us c.in-Some-Elements.is c.in-Some-Elements.field-0-is k))) c.feed_list.ensures.done

pub lists::resume_list-returns-in-Some-Elements-clause-stop : goal.lists::resume_list-returns-in-Some-Elements-clause-stop
lists::resume_list-returns-in-Some-Elements-clause-stop g t c =
    IfErr-weaker c.feed_list.result _ _ (λ why s us k. s (us ++ g.R.ReadLeaves.rules.to_units c.args.units.now) (list_goes_on g.R.ReadLeaves.rules c.keep_laws.ensures c.keep_feed_laws.ensures g.R.FeedLeaves.fields g.R.ReadLeaves.ahead g.R.ReadLeaves.is_between (shape_of c.args.element.now) (size_range_of c.args.size.now) c.requires.of_profile c.in-Some-Elements.list (nodes c.args.frames.now) us (g.R.ReadLeaves.rules.to_units c.args.units.now) (took_elements g.R.ReadLeaves.rules c.keep_laws.ensures c.keep_feed_laws.ensures g.R.FeedLeaves.fields g.R.ReadLeaves.ahead g.R.ReadLeaves.is_between (shape_of c.args.element.now) (size_range_of c.args.size.now) c.requires.of_profile c.args.node c.in-Some-Elements.field-0 c.in-Some-Elements.list (nodes c.args.frames.now) us c.in-Some-Elements.is c.in-Some-Elements.field-0-is k))) c.feed_list.ensures.stop

pub lists::resume_list-returns-in-Some-Elements-clause-kept : goal.lists::resume_list-returns-in-Some-Elements-clause-kept
lists::resume_list-returns-in-Some-Elements-clause-kept g t c =
    IfErr-weaker c.feed_list.result _ _ (λ why s us k. s (us ++ g.R.ReadLeaves.rules.to_units c.args.units.now) (list_goes_on g.R.ReadLeaves.rules c.keep_laws.ensures c.keep_feed_laws.ensures g.R.FeedLeaves.fields g.R.ReadLeaves.ahead g.R.ReadLeaves.is_between (shape_of c.args.element.now) (size_range_of c.args.size.now) c.requires.of_profile c.in-Some-Elements.list (nodes c.args.frames.now) us (g.R.ReadLeaves.rules.to_units c.args.units.now) (took_elements g.R.ReadLeaves.rules c.keep_laws.ensures c.keep_feed_laws.ensures g.R.FeedLeaves.fields g.R.ReadLeaves.ahead g.R.ReadLeaves.is_between (shape_of c.args.element.now) (size_range_of c.args.size.now) c.requires.of_profile c.args.node c.in-Some-Elements.field-0 c.in-Some-Elements.list (nodes c.args.frames.now) us c.in-Some-Elements.is c.in-Some-Elements.field-0-is k))) c.feed_list.ensures.kept

pub lists::resume_list-returns-in-None-clause-done : goal.lists::resume_list-returns-in-None-clause-done
lists::resume_list-returns-in-None-clause-done g t c =
    IfOk-weaker c.start_list-in-None.result _ _ (λ v s us k. subst (λ (xs : List ℕ). Spells g.R.ReadLeaves.rules.ruling.fielding (ValuesOf g.R.ReadLeaves.rules (sequence_of (shape_of c.args.element.now) (size_range_of c.args.size.now))) (datum_of v) xs (g.R.ReadLeaves.rules.to_units c.start_list-in-None.new.units)) (ap (λ (xs : List ℕ). xs ++ g.R.ReadLeaves.rules.to_units c.args.units.now) (ap g.R.ReadLeaves.rules.to_units c.none.ensures ∙ c.keep_feed_laws.ensures.none ∙ sym (took_none g.R.ReadLeaves.rules c.keep_laws.ensures c.keep_feed_laws.ensures g.R.FeedLeaves.fields g.R.ReadLeaves.ahead g.R.ReadLeaves.is_between (shape_of c.args.element.now) (size_range_of c.args.size.now) c.requires.of_profile c.args.node (nodes c.args.frames.now) us c.in-None.is (c.requires.last (ap is_some c.in-None.is)) k))) s) c.start_list-in-None.ensures.done

pub lists::resume_list-returns-in-None-clause-stop : goal.lists::resume_list-returns-in-None-clause-stop
lists::resume_list-returns-in-None-clause-stop g t c =
    IfErr-weaker c.start_list-in-None.result _ _ (λ why s us k. subst (λ (xs : List ℕ). Stops g.R.ReadLeaves.rules.ruling.fielding (ValuesOf g.R.ReadLeaves.rules (sequence_of (shape_of c.args.element.now) (size_range_of c.args.size.now))) xs why) (ap (λ (xs : List ℕ). xs ++ g.R.ReadLeaves.rules.to_units c.args.units.now) (ap g.R.ReadLeaves.rules.to_units c.none.ensures ∙ c.keep_feed_laws.ensures.none ∙ sym (took_none g.R.ReadLeaves.rules c.keep_laws.ensures c.keep_feed_laws.ensures g.R.FeedLeaves.fields g.R.ReadLeaves.ahead g.R.ReadLeaves.is_between (shape_of c.args.element.now) (size_range_of c.args.size.now) c.requires.of_profile c.args.node (nodes c.args.frames.now) us c.in-None.is (c.requires.last (ap is_some c.in-None.is)) k))) s) c.start_list-in-None.ensures.stop

pub lists::resume_list-returns-in-None-clause-kept : goal.lists::resume_list-returns-in-None-clause-kept
lists::resume_list-returns-in-None-clause-kept g t c =
    IfErr-weaker c.start_list-in-None.result _ _ (λ why s us k. subst (λ (xs : List ℕ). KeepsFrames g.R.ReadLeaves.rules g.R.FeedLeaves.fields g.R.ReadLeaves.ahead g.R.ReadLeaves.is_between (nodes c.start_list-in-None.new.frames) (sequence_of (shape_of c.args.element.now) (size_range_of c.args.size.now)) xs why) (ap (λ (xs : List ℕ). xs ++ g.R.ReadLeaves.rules.to_units c.args.units.now) (ap g.R.ReadLeaves.rules.to_units c.none.ensures ∙ c.keep_feed_laws.ensures.none ∙ sym (took_none g.R.ReadLeaves.rules c.keep_laws.ensures c.keep_feed_laws.ensures g.R.FeedLeaves.fields g.R.ReadLeaves.ahead g.R.ReadLeaves.is_between (shape_of c.args.element.now) (size_range_of c.args.size.now) c.requires.of_profile c.args.node (nodes c.args.frames.now) us c.in-None.is (c.requires.last (ap is_some c.in-None.is)) k))) s) c.start_list-in-None.ensures.kept

pub lists::start_list-feed_leaf-requires-clause-good : goal.lists::start_list-feed_leaf-requires-clause-good
lists::start_list-feed_leaf-requires-clause-good g t c = list_size (shape_of c.args.element.now) (size_range_of c.args.size.now) c.requires.of_profile

pub lists::start_list-feed_list-requires : goal.lists::start_list-feed_list-requires
lists::start_list-feed_list-requires g t c κs within =
    (search (rules, the_lemmas), (within.0, (within.1, (c.in-Ok.ensures.at_unit, (c.requires.of_profile, (((g.R.ReadLeaves.rules.to_units c.args.begun ++ g.R.ReadLeaves.rules.to_units c.args.units.now), (list_starts g.R.ReadLeaves.rules c.keep_laws.ensures c.keep_feed_laws.ensures g.R.FeedLeaves.fields g.R.ReadLeaves.ahead g.R.ReadLeaves.is_between (shape_of c.args.element.now) (size_range_of c.args.size.now) c.requires.of_profile _ (nodes c.args.frames.now) (g.R.ReadLeaves.rules.to_units c.args.begun ++ g.R.ReadLeaves.rules.to_units c.args.units.now) (g.R.ReadLeaves.rules.to_units c.feed_leaf.new.units) c.in-Ok.ensures.done refl c.new.ensures.items c.none.ensures c.in-Ok.ensures.sound c.requires.empty)), still_below c.in-Ok.ensures.ticked c.requires.few))))))

pub lists::start_list-returns-in-Ok-clause-done : goal.lists::start_list-returns-in-Ok-clause-done
lists::start_list-returns-in-Ok-clause-done g t c =
    IfOk-weaker c.feed_list.result _ _ (λ v s. s (g.R.ReadLeaves.rules.to_units c.args.begun ++ g.R.ReadLeaves.rules.to_units c.args.units.now) (list_starts g.R.ReadLeaves.rules c.keep_laws.ensures c.keep_feed_laws.ensures g.R.FeedLeaves.fields g.R.ReadLeaves.ahead g.R.ReadLeaves.is_between (shape_of c.args.element.now) (size_range_of c.args.size.now) c.requires.of_profile _ (nodes c.args.frames.now) (g.R.ReadLeaves.rules.to_units c.args.begun ++ g.R.ReadLeaves.rules.to_units c.args.units.now) (g.R.ReadLeaves.rules.to_units c.feed_leaf.new.units) c.in-Ok.ensures.done refl c.new.ensures.items c.none.ensures c.in-Ok.ensures.sound c.requires.empty)) c.feed_list.ensures.done

pub lists::start_list-returns-in-Ok-clause-stop : goal.lists::start_list-returns-in-Ok-clause-stop
lists::start_list-returns-in-Ok-clause-stop g t c =
    IfErr-weaker c.feed_list.result _ _ (λ why s. s (g.R.ReadLeaves.rules.to_units c.args.begun ++ g.R.ReadLeaves.rules.to_units c.args.units.now) (list_starts g.R.ReadLeaves.rules c.keep_laws.ensures c.keep_feed_laws.ensures g.R.FeedLeaves.fields g.R.ReadLeaves.ahead g.R.ReadLeaves.is_between (shape_of c.args.element.now) (size_range_of c.args.size.now) c.requires.of_profile _ (nodes c.args.frames.now) (g.R.ReadLeaves.rules.to_units c.args.begun ++ g.R.ReadLeaves.rules.to_units c.args.units.now) (g.R.ReadLeaves.rules.to_units c.feed_leaf.new.units) c.in-Ok.ensures.done refl c.new.ensures.items c.none.ensures c.in-Ok.ensures.sound c.requires.empty)) c.feed_list.ensures.stop

pub lists::start_list-returns-in-Ok-clause-kept : goal.lists::start_list-returns-in-Ok-clause-kept
lists::start_list-returns-in-Ok-clause-kept g t c =
    IfErr-weaker c.feed_list.result _ _ (λ why s. s (g.R.ReadLeaves.rules.to_units c.args.begun ++ g.R.ReadLeaves.rules.to_units c.args.units.now) (list_starts g.R.ReadLeaves.rules c.keep_laws.ensures c.keep_feed_laws.ensures g.R.FeedLeaves.fields g.R.ReadLeaves.ahead g.R.ReadLeaves.is_between (shape_of c.args.element.now) (size_range_of c.args.size.now) c.requires.of_profile _ (nodes c.args.frames.now) (g.R.ReadLeaves.rules.to_units c.args.begun ++ g.R.ReadLeaves.rules.to_units c.args.units.now) (g.R.ReadLeaves.rules.to_units c.feed_leaf.new.units) c.in-Ok.ensures.done refl c.new.ensures.items c.none.ensures c.in-Ok.ensures.sound c.requires.empty)) c.feed_list.ensures.kept

pub lists::start_list-returns-in-Ok-put-clause-stop : goal.lists::start_list-returns-in-Ok-put-clause-stop
lists::start_list-returns-in-Ok-put-clause-stop g t c =
    let a : Stops g.R.ReadLeaves.rules.ruling.fielding (g.R.ReadLeaves.rules.list_start (size_range_of c.args.size.now)) (g.R.ReadLeaves.rules.to_units c.args.begun ++ g.R.ReadLeaves.rules.to_units c.args.units.now) stop.Short = rw c.in-Err-Short.field-0-is at c.in-Err-Short.ensures.stop in
    stops_by stop.Short (stops_on (start_stops g.R.ReadLeaves.rules c.keep_laws.ensures (Spelt g.R.ReadLeaves.rules.code None (shape_of c.args.element.now)) (size_range_of c.args.size.now) (g.R.ReadLeaves.rules.to_units c.args.begun ++ g.R.ReadLeaves.rules.to_units c.args.units.now) (list_size (shape_of c.args.element.now) (size_range_of c.args.size.now) c.requires.of_profile) (spelt_inhabited g.R.ReadLeaves.rules.code (shape_of c.args.element.now) (element_of_profile (shape_of c.args.element.now) (size_range_of c.args.size.now) c.requires.of_profile))) (list_leads g.R.ReadLeaves.rules c.keep_laws.ensures (shape_of c.args.element.now) (size_range_of c.args.size.now) (g.R.ReadLeaves.rules.to_units c.args.begun ++ g.R.ReadLeaves.rules.to_units c.args.units.now) c.requires.of_profile).stops) a

pub lists::feed_list-returns-in-Err-Refused-clause-stop : goal.lists::feed_list-returns-in-Err-Refused-clause-stop
lists::feed_list-returns-in-Err-Refused-clause-stop g t c = λ all h.
    let w = stop.Refused c.in-Err-Refused.left c.in-Err-Refused.why in
    let a : Stops g.R.ReadLeaves.rules.ruling.fielding (ListOf g.R.ReadLeaves.rules c.args.element.now c.args.size.now) all w = rw c.in-Err-Refused.field-0-is at (c.in-Err-Refused.ensures.stop all h) in
    stops_by w (list_leads g.R.ReadLeaves.rules c.keep_laws.ensures (shape_of c.args.element.now) (size_range_of c.args.size.now) all c.requires.of_profile).stops a

pub lists::start_list-returns-in-Err-Refused-clause-stop : goal.lists::start_list-returns-in-Err-Refused-clause-stop
lists::start_list-returns-in-Err-Refused-clause-stop g t c =
    let w = stop.Refused c.in-Err-Refused.left c.in-Err-Refused.why in
    let a : Stops g.R.ReadLeaves.rules.ruling.fielding (g.R.ReadLeaves.rules.list_start (size_range_of c.args.size.now)) (g.R.ReadLeaves.rules.to_units c.args.begun ++ g.R.ReadLeaves.rules.to_units c.args.units.now) w = rw c.in-Err-Refused.field-0-is at c.in-Err-Refused.ensures.stop in
    rw (c.in-Err-Refused.left-is, c.in-Err-Refused.why-is) (stops_by w (stops_on (start_stops g.R.ReadLeaves.rules c.keep_laws.ensures (Spelt g.R.ReadLeaves.rules.code None (shape_of c.args.element.now)) (size_range_of c.args.size.now) (g.R.ReadLeaves.rules.to_units c.args.begun ++ g.R.ReadLeaves.rules.to_units c.args.units.now) (list_size (shape_of c.args.element.now) (size_range_of c.args.size.now) c.requires.of_profile) (spelt_inhabited g.R.ReadLeaves.rules.code (shape_of c.args.element.now) (element_of_profile (shape_of c.args.element.now) (size_range_of c.args.size.now) c.requires.of_profile))) (list_leads g.R.ReadLeaves.rules c.keep_laws.ensures (shape_of c.args.element.now) (size_range_of c.args.size.now) (g.R.ReadLeaves.rules.to_units c.args.begun ++ g.R.ReadLeaves.rules.to_units c.args.units.now) c.requires.of_profile).stops) a)

pub lists::resume_list-returns-in-Some-Start-clause-stop : goal.lists::resume_list-returns-in-Some-Start-clause-stop
lists::resume_list-returns-in-Some-Start-clause-stop g t c =
    IfErr-weaker c.start_list.result _ _ (λ why s us k. subst (λ (xs : List ℕ). Stops g.R.ReadLeaves.rules.ruling.fielding (ValuesOf g.R.ReadLeaves.rules (sequence_of (shape_of c.args.element.now) (size_range_of c.args.size.now))) (xs ++ g.R.ReadLeaves.rules.to_units c.args.units.now) why) (took_start g.R.ReadLeaves.rules c.keep_laws.ensures c.keep_feed_laws.ensures g.R.FeedLeaves.fields g.R.ReadLeaves.ahead g.R.ReadLeaves.is_between (shape_of c.args.element.now) (size_range_of c.args.size.now) c.requires.of_profile c.args.node c.in-Some-Start.field-0 c.in-Some-Start.begun (nodes c.args.frames.now) us c.in-Some-Start.is c.in-Some-Start.field-0-is k).1 s) c.start_list.ensures.stop

-- ---- the root of a SEQUENCE

pub sequences::resume_sequence-start_sequence-requires-in-None : goal.sequences::resume_sequence-start_sequence-requires-in-None
sequences::resume_sequence-start_sequence-requires-in-None g t c κs within =
    (search (rules, the_lemmas), (within.0, (within.1, (c.requires.at_unit, (c.requires.of_profile, (c.requires.parts, (c.requires.short, (c.requires.last (ap is_some c.in-None.is), (record { come = refl; at_unit = rw c.none.ensures c.keep_feed_laws.ensures.begin; begins = inl c.none.ensures }, c.requires.few)))))))))

pub sequences::resume_sequence-feed_sequence-requires : goal.sequences::resume_sequence-feed_sequence-requires
sequences::resume_sequence-feed_sequence-requires g t c κs within =
    let us = c.requires.reached.0 in
    let k = took_components g.R.ReadLeaves.rules c.keep_laws.ensures g.R.FeedLeaves.fields g.R.ReadLeaves.ahead g.R.ReadLeaves.is_between (fields_seen c.args.root.now) (more_fields_of c.args.ext.now) c.requires.of_profile c.args.node c.in-Some-Components.field-0 c.in-Some-Components.read (nodes c.args.frames.now) us c.in-Some-Components.is c.in-Some-Components.field-0-is c.requires.reached.1 in
    (search (rules, the_lemmas), (within.0, (within.1, (c.requires.at_unit, (c.requires.of_profile, (c.requires.parts, ((us ++ g.R.ReadLeaves.rules.to_units c.args.units.now, (root_goes_on g.R.ReadLeaves.rules c.keep_laws.ensures g.R.FeedLeaves.fields g.R.ReadLeaves.ahead g.R.ReadLeaves.is_between (fields_seen c.args.root.now) (more_fields_of c.args.ext.now) c.requires.of_profile c.in-Some-Components.read (nodes c.args.frames.now) us (g.R.ReadLeaves.rules.to_units c.args.units.now) k)), c.requires.few)))))))

pub sequences::resume_sequence-returns-in-Some-Components-clause-done : goal.sequences::resume_sequence-returns-in-Some-Components-clause-done
sequences::resume_sequence-returns-in-Some-Components-clause-done g t c =
    IfOk-weaker c.feed_sequence.result _ _ (λ v s us k. s (us ++ g.R.ReadLeaves.rules.to_units c.args.units.now) (root_goes_on g.R.ReadLeaves.rules c.keep_laws.ensures g.R.FeedLeaves.fields g.R.ReadLeaves.ahead g.R.ReadLeaves.is_between (fields_seen c.args.root.now) (more_fields_of c.args.ext.now) c.requires.of_profile c.in-Some-Components.read (nodes c.args.frames.now) us (g.R.ReadLeaves.rules.to_units c.args.units.now) (took_components g.R.ReadLeaves.rules c.keep_laws.ensures g.R.FeedLeaves.fields g.R.ReadLeaves.ahead g.R.ReadLeaves.is_between (fields_seen c.args.root.now) (more_fields_of c.args.ext.now) c.requires.of_profile c.args.node c.in-Some-Components.field-0 c.in-Some-Components.read (nodes c.args.frames.now) us c.in-Some-Components.is c.in-Some-Components.field-0-is k))) c.feed_sequence.ensures.done

pub sequences::resume_sequence-returns-in-Some-Components-clause-stop : goal.sequences::resume_sequence-returns-in-Some-Components-clause-stop
sequences::resume_sequence-returns-in-Some-Components-clause-stop g t c =
    IfErr-weaker c.feed_sequence.result _ _ (λ why s us k. s (us ++ g.R.ReadLeaves.rules.to_units c.args.units.now) (root_goes_on g.R.ReadLeaves.rules c.keep_laws.ensures g.R.FeedLeaves.fields g.R.ReadLeaves.ahead g.R.ReadLeaves.is_between (fields_seen c.args.root.now) (more_fields_of c.args.ext.now) c.requires.of_profile c.in-Some-Components.read (nodes c.args.frames.now) us (g.R.ReadLeaves.rules.to_units c.args.units.now) (took_components g.R.ReadLeaves.rules c.keep_laws.ensures g.R.FeedLeaves.fields g.R.ReadLeaves.ahead g.R.ReadLeaves.is_between (fields_seen c.args.root.now) (more_fields_of c.args.ext.now) c.requires.of_profile c.args.node c.in-Some-Components.field-0 c.in-Some-Components.read (nodes c.args.frames.now) us c.in-Some-Components.is c.in-Some-Components.field-0-is k))) c.feed_sequence.ensures.stop

pub sequences::resume_sequence-returns-in-Some-Components-clause-kept : goal.sequences::resume_sequence-returns-in-Some-Components-clause-kept
sequences::resume_sequence-returns-in-Some-Components-clause-kept g t c =
    IfErr-weaker c.feed_sequence.result _ _ (λ why s us k. s (us ++ g.R.ReadLeaves.rules.to_units c.args.units.now) (root_goes_on g.R.ReadLeaves.rules c.keep_laws.ensures g.R.FeedLeaves.fields g.R.ReadLeaves.ahead g.R.ReadLeaves.is_between (fields_seen c.args.root.now) (more_fields_of c.args.ext.now) c.requires.of_profile c.in-Some-Components.read (nodes c.args.frames.now) us (g.R.ReadLeaves.rules.to_units c.args.units.now) (took_components g.R.ReadLeaves.rules c.keep_laws.ensures g.R.FeedLeaves.fields g.R.ReadLeaves.ahead g.R.ReadLeaves.is_between (fields_seen c.args.root.now) (more_fields_of c.args.ext.now) c.requires.of_profile c.args.node c.in-Some-Components.field-0 c.in-Some-Components.read (nodes c.args.frames.now) us c.in-Some-Components.is c.in-Some-Components.field-0-is k))) c.feed_sequence.ensures.kept

pub sequences::resume_sequence-returns-in-None-clause-done : goal.sequences::resume_sequence-returns-in-None-clause-done
sequences::resume_sequence-returns-in-None-clause-done g t c =
    IfOk-weaker c.start_sequence-in-None.result _ _ (λ v s us k. subst (λ (xs : List ℕ). Spells g.R.ReadLeaves.rules.ruling.fielding (ValuesOf g.R.ReadLeaves.rules (sequence_seen c.args.root.now c.args.ext.now)) (datum_of v) xs (g.R.ReadLeaves.rules.to_units c.start_sequence-in-None.new.units)) (ap (λ (xs : List ℕ). xs ++ g.R.ReadLeaves.rules.to_units c.args.units.now) (ap g.R.ReadLeaves.rules.to_units c.none.ensures ∙ c.keep_feed_laws.ensures.none ∙ sym (sequence_none g.R.ReadLeaves.rules c.keep_laws.ensures g.R.FeedLeaves.fields g.R.ReadLeaves.ahead g.R.ReadLeaves.is_between (fields_seen c.args.root.now) (more_fields_of c.args.ext.now) c.requires.of_profile c.args.node (nodes c.args.frames.now) us c.in-None.is (c.requires.last (ap is_some c.in-None.is)) k))) s) c.start_sequence-in-None.ensures.done

pub sequences::resume_sequence-returns-in-None-clause-stop : goal.sequences::resume_sequence-returns-in-None-clause-stop
sequences::resume_sequence-returns-in-None-clause-stop g t c =
    IfErr-weaker c.start_sequence-in-None.result _ _ (λ why s us k. subst (λ (xs : List ℕ). Stops g.R.ReadLeaves.rules.ruling.fielding (ValuesOf g.R.ReadLeaves.rules (sequence_seen c.args.root.now c.args.ext.now)) xs why) (ap (λ (xs : List ℕ). xs ++ g.R.ReadLeaves.rules.to_units c.args.units.now) (ap g.R.ReadLeaves.rules.to_units c.none.ensures ∙ c.keep_feed_laws.ensures.none ∙ sym (sequence_none g.R.ReadLeaves.rules c.keep_laws.ensures g.R.FeedLeaves.fields g.R.ReadLeaves.ahead g.R.ReadLeaves.is_between (fields_seen c.args.root.now) (more_fields_of c.args.ext.now) c.requires.of_profile c.args.node (nodes c.args.frames.now) us c.in-None.is (c.requires.last (ap is_some c.in-None.is)) k))) s) c.start_sequence-in-None.ensures.stop

pub sequences::resume_sequence-returns-in-None-clause-kept : goal.sequences::resume_sequence-returns-in-None-clause-kept
sequences::resume_sequence-returns-in-None-clause-kept g t c =
    IfErr-weaker c.start_sequence-in-None.result _ _ (λ why s us k. subst (λ (xs : List ℕ). KeepsFrames g.R.ReadLeaves.rules g.R.FeedLeaves.fields g.R.ReadLeaves.ahead g.R.ReadLeaves.is_between (nodes c.start_sequence-in-None.new.frames) (sequence_seen c.args.root.now c.args.ext.now) xs why) (ap (λ (xs : List ℕ). xs ++ g.R.ReadLeaves.rules.to_units c.args.units.now) (ap g.R.ReadLeaves.rules.to_units c.none.ensures ∙ c.keep_feed_laws.ensures.none ∙ sym (sequence_none g.R.ReadLeaves.rules c.keep_laws.ensures g.R.FeedLeaves.fields g.R.ReadLeaves.ahead g.R.ReadLeaves.is_between (fields_seen c.args.root.now) (more_fields_of c.args.ext.now) c.requires.of_profile c.args.node (nodes c.args.frames.now) us c.in-None.is (c.requires.last (ap is_some c.in-None.is)) k))) s) c.start_sequence-in-None.ensures.kept

pub sequences::resume_sequence-returns-in-Some-Start-clause-done : goal.sequences::resume_sequence-returns-in-Some-Start-clause-done
sequences::resume_sequence-returns-in-Some-Start-clause-done g t c =
    IfOk-weaker c.start_sequence.result _ _ (λ v s us k. subst (λ (xs : List ℕ). Spells g.R.ReadLeaves.rules.ruling.fielding (ValuesOf g.R.ReadLeaves.rules (sequence_seen c.args.root.now c.args.ext.now)) (datum_of v) (xs ++ g.R.ReadLeaves.rules.to_units c.args.units.now) (g.R.ReadLeaves.rules.to_units c.start_sequence.new.units)) (sequence_start g.R.ReadLeaves.rules c.keep_laws.ensures g.R.FeedLeaves.fields g.R.ReadLeaves.ahead g.R.ReadLeaves.is_between (fields_seen c.args.root.now) (more_fields_of c.args.ext.now) c.requires.of_profile c.args.node c.in-Some-Start.field-0 c.in-Some-Start.begun (nodes c.args.frames.now) us c.in-Some-Start.is c.in-Some-Start.field-0-is k).1.come s) c.start_sequence.ensures.done

pub sequences::resume_sequence-returns-in-Some-Start-clause-stop : goal.sequences::resume_sequence-returns-in-Some-Start-clause-stop
sequences::resume_sequence-returns-in-Some-Start-clause-stop g t c =
    IfErr-weaker c.start_sequence.result _ _ (λ why s us k. subst (λ (xs : List ℕ). Stops g.R.ReadLeaves.rules.ruling.fielding (ValuesOf g.R.ReadLeaves.rules (sequence_seen c.args.root.now c.args.ext.now)) (xs ++ g.R.ReadLeaves.rules.to_units c.args.units.now) why) (sequence_start g.R.ReadLeaves.rules c.keep_laws.ensures g.R.FeedLeaves.fields g.R.ReadLeaves.ahead g.R.ReadLeaves.is_between (fields_seen c.args.root.now) (more_fields_of c.args.ext.now) c.requires.of_profile c.args.node c.in-Some-Start.field-0 c.in-Some-Start.begun (nodes c.args.frames.now) us c.in-Some-Start.is c.in-Some-Start.field-0-is k).1.come s) c.start_sequence.ensures.stop

pub sequences::resume_sequence-returns-in-Some-Start-clause-kept : goal.sequences::resume_sequence-returns-in-Some-Start-clause-kept
sequences::resume_sequence-returns-in-Some-Start-clause-kept g t c =
    IfErr-weaker c.start_sequence.result _ _ (λ why s us k. subst (λ (xs : List ℕ). KeepsFrames g.R.ReadLeaves.rules g.R.FeedLeaves.fields g.R.ReadLeaves.ahead g.R.ReadLeaves.is_between (nodes c.start_sequence.new.frames) (sequence_seen c.args.root.now c.args.ext.now) (xs ++ g.R.ReadLeaves.rules.to_units c.args.units.now) why) (sequence_start g.R.ReadLeaves.rules c.keep_laws.ensures g.R.FeedLeaves.fields g.R.ReadLeaves.ahead g.R.ReadLeaves.is_between (fields_seen c.args.root.now) (more_fields_of c.args.ext.now) c.requires.of_profile c.args.node c.in-Some-Start.field-0 c.in-Some-Start.begun (nodes c.args.frames.now) us c.in-Some-Start.is c.in-Some-Start.field-0-is k).1.come s) c.start_sequence.ensures.kept

pub sequences::resume_sequence-start_sequence-requires : goal.sequences::resume_sequence-start_sequence-requires
sequences::resume_sequence-start_sequence-requires g t c κs within =
    let us = c.requires.reached.0 in
    let w = sequence_start g.R.ReadLeaves.rules c.keep_laws.ensures g.R.FeedLeaves.fields g.R.ReadLeaves.ahead g.R.ReadLeaves.is_between (fields_seen c.args.root.now) (more_fields_of c.args.ext.now) c.requires.of_profile c.args.node c.in-Some-Start.field-0 c.in-Some-Start.begun (nodes c.args.frames.now) us c.in-Some-Start.is c.in-Some-Start.field-0-is c.requires.reached.1 in
    (search (rules, the_lemmas), (within.0, (within.1, (c.requires.at_unit, (c.requires.of_profile, (c.requires.parts, (c.requires.short, (w.0, (record { come = refl; at_unit = w.1.at_unit; begins = w.1.begins }, c.requires.few)))))))))

pub sequences::start_sequence-feed_sequence-requires : goal.sequences::start_sequence-feed_sequence-requires
sequences::start_sequence-feed_sequence-requires g t c κs within =
    (search (rules, the_lemmas), (within.0, (within.1, (c.in-Ok.ensures.at_unit, (c.requires.of_profile, (c.requires.parts, (((g.R.ReadLeaves.rules.to_units c.args.begun ++ g.R.ReadLeaves.rules.to_units c.args.units.now), (root_starts g.R.ReadLeaves.rules c.keep_laws.ensures g.R.FeedLeaves.fields g.R.ReadLeaves.ahead g.R.ReadLeaves.is_between (fields_seen c.args.root.now) (more_fields_of c.args.ext.now) c.requires.of_profile _ (nodes c.args.frames.now) (g.R.ReadLeaves.rules.to_units c.args.begun ++ g.R.ReadLeaves.rules.to_units c.args.units.now) (g.R.ReadLeaves.rules.to_units c.feed_leaf.new.units) (rw (c.bitmap_width-width.ensures.count, c.addition_count.ensures, ← added_count c.args.ext.now) at c.in-Ok.ensures.done) c.bitmap_width-width.ensures.count (rw c.bitmap_width-width.ensures.count at c.bitmap_width-width.ensures.few) c.new.ensures.items c.requires.empty)), still_below c.in-Ok.ensures.ticked c.requires.few)))))))

pub sequences::start_sequence-returns-in-Ok-clause-done : goal.sequences::start_sequence-returns-in-Ok-clause-done
sequences::start_sequence-returns-in-Ok-clause-done g t c =
    IfOk-weaker c.feed_sequence.result _ _ (λ v s. s (g.R.ReadLeaves.rules.to_units c.args.begun ++ g.R.ReadLeaves.rules.to_units c.args.units.now) (root_starts g.R.ReadLeaves.rules c.keep_laws.ensures g.R.FeedLeaves.fields g.R.ReadLeaves.ahead g.R.ReadLeaves.is_between (fields_seen c.args.root.now) (more_fields_of c.args.ext.now) c.requires.of_profile _ (nodes c.args.frames.now) (g.R.ReadLeaves.rules.to_units c.args.begun ++ g.R.ReadLeaves.rules.to_units c.args.units.now) (g.R.ReadLeaves.rules.to_units c.feed_leaf.new.units) (rw (c.bitmap_width-width.ensures.count, c.addition_count.ensures, ← added_count c.args.ext.now) at c.in-Ok.ensures.done) c.bitmap_width-width.ensures.count (rw c.bitmap_width-width.ensures.count at c.bitmap_width-width.ensures.few) c.new.ensures.items c.requires.empty)) c.feed_sequence.ensures.done

pub sequences::start_sequence-returns-in-Ok-clause-stop : goal.sequences::start_sequence-returns-in-Ok-clause-stop
sequences::start_sequence-returns-in-Ok-clause-stop g t c =
    IfErr-weaker c.feed_sequence.result _ _ (λ why s. s (g.R.ReadLeaves.rules.to_units c.args.begun ++ g.R.ReadLeaves.rules.to_units c.args.units.now) (root_starts g.R.ReadLeaves.rules c.keep_laws.ensures g.R.FeedLeaves.fields g.R.ReadLeaves.ahead g.R.ReadLeaves.is_between (fields_seen c.args.root.now) (more_fields_of c.args.ext.now) c.requires.of_profile _ (nodes c.args.frames.now) (g.R.ReadLeaves.rules.to_units c.args.begun ++ g.R.ReadLeaves.rules.to_units c.args.units.now) (g.R.ReadLeaves.rules.to_units c.feed_leaf.new.units) (rw (c.bitmap_width-width.ensures.count, c.addition_count.ensures, ← added_count c.args.ext.now) at c.in-Ok.ensures.done) c.bitmap_width-width.ensures.count (rw c.bitmap_width-width.ensures.count at c.bitmap_width-width.ensures.few) c.new.ensures.items c.requires.empty)) c.feed_sequence.ensures.stop

pub sequences::start_sequence-returns-in-Ok-clause-kept : goal.sequences::start_sequence-returns-in-Ok-clause-kept
sequences::start_sequence-returns-in-Ok-clause-kept g t c =
    IfErr-weaker c.feed_sequence.result _ _ (λ why s. s (g.R.ReadLeaves.rules.to_units c.args.begun ++ g.R.ReadLeaves.rules.to_units c.args.units.now) (root_starts g.R.ReadLeaves.rules c.keep_laws.ensures g.R.FeedLeaves.fields g.R.ReadLeaves.ahead g.R.ReadLeaves.is_between (fields_seen c.args.root.now) (more_fields_of c.args.ext.now) c.requires.of_profile _ (nodes c.args.frames.now) (g.R.ReadLeaves.rules.to_units c.args.begun ++ g.R.ReadLeaves.rules.to_units c.args.units.now) (g.R.ReadLeaves.rules.to_units c.feed_leaf.new.units) (rw (c.bitmap_width-width.ensures.count, c.addition_count.ensures, ← added_count c.args.ext.now) at c.in-Ok.ensures.done) c.bitmap_width-width.ensures.count (rw c.bitmap_width-width.ensures.count at c.bitmap_width-width.ensures.few) c.new.ensures.items c.requires.empty)) c.feed_sequence.ensures.kept

pub sequences::start_sequence-feed_leaf-requires-clause-begins : goal.sequences::start_sequence-feed_leaf-requires-clause-begins
sequences::start_sequence-feed_leaf-requires-clause-begins g t c =
    rw (c.bitmap_width-width.ensures.count, c.addition_count.ensures, ← added_count c.args.ext.now) c.requires.waits.begins

pub sequences::start_sequence-returns-in-Ok-put-clause-kept : goal.sequences::start_sequence-returns-in-Ok-put-clause-kept
sequences::start_sequence-returns-in-Ok-put-clause-kept g t c =
    let b = c.feed_leaf.new.begun in
    let a : Stops g.R.ReadLeaves.rules.ruling.fielding (PreambleOf g.R.ReadLeaves.rules (bitmap_length (fields_seen c.args.root.now)) (added (more_fields_of c.args.ext.now))) (g.R.ReadLeaves.rules.to_units c.args.begun ++ g.R.ReadLeaves.rules.to_units c.args.units.now) stop.Short = rw (c.bitmap_width-width.ensures.count, c.addition_count.ensures, ← added_count c.args.ext.now, c.in-Err-Short.field-0-is) at c.in-Err-Short.ensures.stop in
    let e : g.R.ReadLeaves.rules.to_units b ≡ (g.R.ReadLeaves.rules.to_units c.args.begun ++ g.R.ReadLeaves.rules.to_units c.args.units.now) = rw c.in-Err-Short.field-0-is at c.in-Err-Short.ensures.kept in
    let s : Short g.R.ReadLeaves.rules.ruling.fielding (PreambleOf g.R.ReadLeaves.rules (bitmap_length (fields_seen c.args.root.now)) (added (more_fields_of c.args.ext.now))) (g.R.ReadLeaves.rules.to_units b) = subst (λ (xs : List ℕ). Short g.R.ReadLeaves.rules.ruling.fielding (PreambleOf g.R.ReadLeaves.rules (bitmap_length (fields_seen c.args.root.now)) (added (more_fields_of c.args.ext.now))) xs) (sym e) a.told in
    let fs : nodes c.put.new.self ≡ frame.Start b ∷ [] = c.in-Ok-put.ensures ∙ ap (λ (gs : List (Frame g.row.R-Fragments.Denot)). frame.Start b ∷ gs) c.requires.empty in
    sequence_took g.R.ReadLeaves.rules c.keep_laws.ensures g.R.FeedLeaves.fields g.R.ReadLeaves.ahead g.R.ReadLeaves.is_between (fields_seen c.args.root.now) (more_fields_of c.args.ext.now) c.requires.of_profile (nodes c.put.new.self) b (g.R.ReadLeaves.rules.to_units c.args.begun ++ g.R.ReadLeaves.rules.to_units c.args.units.now) fs (record { come = e; at_unit = c.in-Err-Short.ensures.begun; begins = inr s })

pub sequences::start_sequence-returns-in-Ok-put-clause-stop : goal.sequences::start_sequence-returns-in-Ok-put-clause-stop
sequences::start_sequence-returns-in-Ok-put-clause-stop g t c =
    let a : Stops g.R.ReadLeaves.rules.ruling.fielding (PreambleOf g.R.ReadLeaves.rules (bitmap_length (fields_seen c.args.root.now)) (added (more_fields_of c.args.ext.now))) (g.R.ReadLeaves.rules.to_units c.args.begun ++ g.R.ReadLeaves.rules.to_units c.args.units.now) stop.Short = rw (c.bitmap_width-width.ensures.count, c.addition_count.ensures, ← added_count c.args.ext.now, c.in-Err-Short.field-0-is) at c.in-Err-Short.ensures.stop in
    stops_by stop.Short (preamble_stops g.R.ReadLeaves.rules c.keep_laws.ensures (fields_seen c.args.root.now) (more_fields_of c.args.ext.now) c.requires.of_profile (g.R.ReadLeaves.rules.to_units c.args.begun ++ g.R.ReadLeaves.rules.to_units c.args.units.now)) a

pub sequences::start_sequence-returns-in-Err-Refused-clause-stop : goal.sequences::start_sequence-returns-in-Err-Refused-clause-stop
sequences::start_sequence-returns-in-Err-Refused-clause-stop g t c =
    let w = stop.Refused c.in-Err-Refused.left c.in-Err-Refused.why in
    let a : Stops g.R.ReadLeaves.rules.ruling.fielding (PreambleOf g.R.ReadLeaves.rules (bitmap_length (fields_seen c.args.root.now)) (added (more_fields_of c.args.ext.now))) (g.R.ReadLeaves.rules.to_units c.args.begun ++ g.R.ReadLeaves.rules.to_units c.args.units.now) w = rw (c.bitmap_width-width.ensures.count, c.addition_count.ensures, ← added_count c.args.ext.now, c.in-Err-Refused.field-0-is) at c.in-Err-Refused.ensures.stop in
    rw (c.in-Err-Refused.left-is, c.in-Err-Refused.why-is) (stops_by w (preamble_stops g.R.ReadLeaves.rules c.keep_laws.ensures (fields_seen c.args.root.now) (more_fields_of c.args.ext.now) c.requires.of_profile (g.R.ReadLeaves.rules.to_units c.args.begun ++ g.R.ReadLeaves.rules.to_units c.args.units.now)) a)

pub sequences::feed_sequence-returns-in-Ok-clause-done : goal.sequences::feed_sequence-returns-in-Ok-clause-done
sequences::feed_sequence-returns-in-Ok-clause-done g t c =
    IfOk-weaker c.end_sequence.result _ _ (λ v s all h. s all (c.in-Ok.ensures.done (more_fields_of c.args.ext.now) c.requires.of_profile all h)) c.end_sequence.ensures.done

pub sequences::feed_sequence-returns-in-Ok-put-clause-stop : goal.sequences::feed_sequence-returns-in-Ok-put-clause-stop
sequences::feed_sequence-returns-in-Ok-put-clause-stop g t c =
    λ all h.
    let a : Stops g.R.ReadLeaves.rules.ruling.fielding (ValuesOf g.R.ReadLeaves.rules (sequence (fields_seen c.args.root.now) (more_fields_of c.args.ext.now))) all stop.Short = rw c.in-Err-Short.field-0-is at (c.in-Err-Short.ensures.stop (more_fields_of c.args.ext.now) c.requires.of_profile all h) in
    a

pub sequences::feed_sequence-returns-in-Err-Refused-clause-stop : goal.sequences::feed_sequence-returns-in-Err-Refused-clause-stop
sequences::feed_sequence-returns-in-Err-Refused-clause-stop g t c =
    λ all h.
    let a : Stops g.R.ReadLeaves.rules.ruling.fielding (ValuesOf g.R.ReadLeaves.rules (sequence (fields_seen c.args.root.now) (more_fields_of c.args.ext.now))) all (stop.Refused c.in-Err-Refused.left c.in-Err-Refused.why) = rw c.in-Err-Refused.field-0-is at (c.in-Err-Refused.ensures.stop (more_fields_of c.args.ext.now) c.requires.of_profile all h) in
    rw (c.in-Err-Refused.left-is, c.in-Err-Refused.why-is) a

pub sequences::feed_sequence-returns-in-Ok-put-clause-kept : goal.sequences::feed_sequence-returns-in-Ok-put-clause-kept
sequences::feed_sequence-returns-in-Ok-put-clause-kept g t c =
    λ all h.
    let none : g.R.ReadLeaves.rules.to_units c.feed_components.new.units ≡ [] = rw c.in-Err-Short.field-0-is at c.in-Err-Short.ensures.after in
    let kept : RootReached g.R.ReadLeaves.rules g.R.FeedLeaves.fields g.R.ReadLeaves.ahead g.R.ReadLeaves.is_between (fields_seen c.args.root.now) (more_fields_of c.args.ext.now) c.feed_components.new.read (nodes c.feed_components.new.frames) all (g.R.ReadLeaves.rules.to_units c.feed_components.new.units) = c.feed_components.ensures.kept (cc (c.in-Err-Short.is, c.in-Err-Short.field-0-is)) (more_fields_of c.args.ext.now) c.requires.of_profile all h in
    rw c.in-Ok-put.ensures (subst (λ (xs : List ℕ). RootReached g.R.ReadLeaves.rules g.R.FeedLeaves.fields g.R.ReadLeaves.ahead g.R.ReadLeaves.is_between (fields_seen c.args.root.now) (more_fields_of c.args.ext.now) c.feed_components.new.read (nodes c.feed_components.new.frames) all xs) none kept)

-- ---- its components

pub sequences::feed_components-feed_component-requires : goal.sequences::feed_components-feed_component-requires
sequences::feed_components-feed_component-requires g t c κs within =
    let inv = c.loop-alloc.invariant in
    let i = c.len-in-loop-alloc.result in
    let lt : i < length c.args.root.now = still_below (c.len-in-loop-alloc.ensures ∙ sym c.len.ensures) c.loop-alloc-test.true in
    let at : i ≡ length c.loop-alloc.read.entries.items = omega (arith, c.len-in-loop-alloc.ensures, c.loop-alloc.read.entries.ok.0) in
    let next = subst (λ (k : ℕ). drop k (parts_in (fields_seen c.args.root.now)) ≡ part_of_field c.index-root-len.result ∷ map part_of_field (drop (i + 1) c.args.root.now)) at (next_in c.args.root.now i c.index-root-len.result lt c.index-root-len.is) in
    let more = c.requires.reached.0 in
    let good = c.requires.reached.1 in
    let all = c.requires.reached.2 in
    let x = component_ahead g.R.ReadLeaves.rules c.keep_laws.ensures g.R.FeedLeaves.fields g.R.ReadLeaves.ahead g.R.ReadLeaves.is_between (fields_seen c.args.root.now) more good c.loop-alloc.read (nodes c.loop-alloc.frames) (part_of_field c.index-root-len.result) (map part_of_field (drop (i + 1) c.args.root.now)) c.next_of-present.result c.next_of-present.new.self.left all (g.R.ReadLeaves.rules.to_units c.loop-alloc.units) next c.next_of-present.ensures.must c.next_of-present.ensures.bit (inv.0 more good all c.requires.reached.3) in
    (search (rules, the_lemmas), (within.0, (within.1, (inv.2, (x.of_profile, (x.good_demand, ((x.come, x.took), still_below inv.1 c.requires.few)))))))

pub sequences::feed_components-next_of-present-requires : goal.sequences::feed_components-next_of-present-requires
sequences::feed_components-next_of-present-requires g t c =
    let inv = c.loop-alloc.invariant in
    let more = c.requires.reached.0 in
    let good = c.requires.reached.1 in
    let i = c.len-in-loop-alloc.result in
    let lt : i < length c.args.root.now = still_below (c.len-in-loop-alloc.ensures ∙ sym c.len.ensures) c.loop-alloc-test.true in
    let at : i ≡ length c.loop-alloc.read.entries.items = omega (arith, c.len-in-loop-alloc.ensures, c.loop-alloc.read.entries.ok.0) in
    let next = subst (λ (k : ℕ). drop k (parts_in (fields_seen c.args.root.now)) ≡ part_of_field c.index-root-len.result ∷ map part_of_field (drop (i + 1) c.args.root.now)) at (next_in c.args.root.now i c.index-root-len.result lt c.index-root-len.is) in
    let x = presence_left g.R.ReadLeaves.rules c.keep_laws.ensures g.R.FeedLeaves.fields g.R.ReadLeaves.ahead g.R.ReadLeaves.is_between (fields_seen c.args.root.now) more good c.loop-alloc.read (nodes c.loop-alloc.frames) (part_of_field c.index-root-len.result) (map part_of_field (drop (i + 1) c.args.root.now)) c.requires.reached.2 (g.R.ReadLeaves.rules.to_units c.loop-alloc.units) next (inv.0 more good c.requires.reached.2 c.requires.reached.3) in
    record { few = x.1; some = x.0 }

pub sequences::feed_components-returns-in_err-entry-clause-stop : goal.sequences::feed_components-returns-in_err-entry-clause-stop
sequences::feed_components-returns-in_err-entry-clause-stop g t c =
    let inv = c.loop-alloc.invariant in
    let i = c.len-in-loop-alloc.result in
    let lt : i < length c.args.root.now = still_below (c.len-in-loop-alloc.ensures ∙ sym c.len.ensures) c.loop-alloc-test.true in
    let at : i ≡ length c.loop-alloc.read.entries.items = omega (arith, c.len-in-loop-alloc.ensures, c.loop-alloc.read.entries.ok.0) in
    let next = subst (λ (k : ℕ). drop k (parts_in (fields_seen c.args.root.now)) ≡ part_of_field c.index-root-len.result ∷ map part_of_field (drop (i + 1) c.args.root.now)) at (next_in c.args.root.now i c.index-root-len.result lt c.index-root-len.is) in
    let p = err_from_is_err_and c.from_residual.result c.from_residual.ensures.1 in
    rw (p.1, p.2) (λ more good all h. (let x = component_ahead g.R.ReadLeaves.rules c.keep_laws.ensures g.R.FeedLeaves.fields g.R.ReadLeaves.ahead g.R.ReadLeaves.is_between (fields_seen c.args.root.now) more good c.loop-alloc.read (nodes c.loop-alloc.frames) (part_of_field c.index-root-len.result) (map part_of_field (drop (i + 1) c.args.root.now)) c.next_of-present.result c.next_of-present.new.self.left all (g.R.ReadLeaves.rules.to_units c.loop-alloc.units) next c.next_of-present.ensures.must c.next_of-present.ensures.bit (inv.0 more good all h) in x.stops _ (c.in_err-entry.ensures.stop x.come x.took)))

pub sequences::feed_components-returns-in_err-entry-clause-kept : goal.sequences::feed_components-returns-in_err-entry-clause-kept
sequences::feed_components-returns-in_err-entry-clause-kept g t c =
    λ e more good all h.
    let inv = c.loop-alloc.invariant in
    let i = c.len-in-loop-alloc.result in
    let lt : i < length c.args.root.now = still_below (c.len-in-loop-alloc.ensures ∙ sym c.len.ensures) c.loop-alloc-test.true in
    let at : i ≡ length c.loop-alloc.read.entries.items = omega (arith, c.len-in-loop-alloc.ensures, c.loop-alloc.read.entries.ok.0) in
    let next = subst (λ (k : ℕ). drop k (parts_in (fields_seen c.args.root.now)) ≡ part_of_field c.index-root-len.result ∷ map part_of_field (drop (i + 1) c.args.root.now)) at (next_in c.args.root.now i c.index-root-len.result lt c.index-root-len.is) in
    let p = err_from_is_err_and c.from_residual.result c.from_residual.ensures.1 in
    let w : c.in_err-entry.field-0.0 ≡ stop.Short = cc (p.1, p.2, e) in
    let x = component_ahead g.R.ReadLeaves.rules c.keep_laws.ensures g.R.FeedLeaves.fields g.R.ReadLeaves.ahead g.R.ReadLeaves.is_between (fields_seen c.args.root.now) more good c.loop-alloc.read (nodes c.loop-alloc.frames) (part_of_field c.index-root-len.result) (map part_of_field (drop (i + 1) c.args.root.now)) c.next_of-present.result c.next_of-present.new.self.left all (g.R.ReadLeaves.rules.to_units c.loop-alloc.units) next c.next_of-present.ensures.must c.next_of-present.ensures.bit (inv.0 more good all h) in
    x.kept (nodes c.feed_component.new.frames) (g.R.ReadLeaves.rules.to_units c.feed_component.new.units) (rw w at c.in_err-entry.ensures.after) (rw w at (c.in_err-entry.ensures.kept x.come x.took))

pub sequences::feed_components-loop-alloc-preserved : goal.sequences::feed_components-loop-alloc-preserved
sequences::feed_components-loop-alloc-preserved g t c =
    let inv = c.loop-alloc.invariant in
    let i = c.len-in-loop-alloc.result in
    let lt : i < length c.args.root.now = still_below (c.len-in-loop-alloc.ensures ∙ sym c.len.ensures) c.loop-alloc-test.true in
    let at : i ≡ length c.loop-alloc.read.entries.items = omega (arith, c.len-in-loop-alloc.ensures, c.loop-alloc.read.entries.ok.0) in
    let next = subst (λ (k : ℕ). drop k (parts_in (fields_seen c.args.root.now)) ≡ part_of_field c.index-root-len.result ∷ map part_of_field (drop (i + 1) c.args.root.now)) at (next_in c.args.root.now i c.index-root-len.result lt c.index-root-len.is) in (
      λ more good all h. (let x = component_ahead g.R.ReadLeaves.rules c.keep_laws.ensures g.R.FeedLeaves.fields g.R.ReadLeaves.ahead g.R.ReadLeaves.is_between (fields_seen c.args.root.now) more good c.loop-alloc.read (nodes c.loop-alloc.frames) (part_of_field c.index-root-len.result) (map part_of_field (drop (i + 1) c.args.root.now)) c.next_of-present.result c.next_of-present.new.self.left all (g.R.ReadLeaves.rules.to_units c.loop-alloc.units) next c.next_of-present.ensures.must c.next_of-present.ensures.bit (inv.0 more good all h) in x.further _ (nodes c.feed_component.new.frames) c.in_ok-entry.entry (g.R.ReadLeaves.rules.to_units c.feed_component.new.units) refl c.next_of-present.ensures.bitmap refl c.in_ok-push.ensures.items c.in_ok-entry.ensures.emptied (c.in_ok-entry.ensures.done x.come x.took)),
      c.in_ok-entry.ensures.ticked ∙ inv.1,
      c.in_ok-entry.ensures.at_unit,
      le_trans inv.3 c.in_ok-entry.ensures.rising,
      costs_last (costs_then c.loop-alloc.invariant.4 c.feed_component.ensures.inside (le_refl _) (depth_of_component c.args.root.now i c.index-root-len.result lt c.index-root-len.is) (λ n o. o)) (le_refl _) (none_open g.R.ReadLeaves.rules g.R.FeedLeaves.fields g.R.ReadLeaves.ahead g.R.ReadLeaves.is_between (nodes c.feed_component.new.frames) c.in_ok-entry.ensures.emptied) refl (le_refl _),
    )

pub sequences::feed_component-returns-then-not-present-clause-done : goal.sequences::feed_component-returns-then-not-present-clause-done
sequences::feed_component-returns-then-not-present-clause-done g t c =
    λ us k.
    let e : c.args.present ≡ false = c.if-not-present.true in
    let none = absent_took g.R.ReadLeaves.rules g.R.FeedLeaves.fields g.R.ReadLeaves.ahead g.R.ReadLeaves.is_between c.args.field.now c.args.present (nodes c.args.frames.now) us e k in
    rw (none.1, e, c.absent.ensures) (nothing_read g.R.ReadLeaves.rules.ruling.fielding (default_of (part_of_field c.args.field.now).demand) (g.R.ReadLeaves.rules.to_units c.args.units.now))

pub sequences::feed_component-returns-then-not-present-clause-emptied : goal.sequences::feed_component-returns-then-not-present-clause-emptied
sequences::feed_component-returns-then-not-present-clause-emptied g t c =
    (absent_took g.R.ReadLeaves.rules g.R.FeedLeaves.fields g.R.ReadLeaves.ahead g.R.ReadLeaves.is_between c.args.field.now c.args.present (nodes c.args.frames.now) c.requires.reached.0 c.if-not-present.true c.requires.reached.1).0

pub sequences::feed_component-feed_other-requires : goal.sequences::feed_component-feed_other-requires
sequences::feed_component-feed_other-requires g t c =
    let there : c.args.present ≡ true = c.if-not-present.false in
    let e : (part_of_field c.args.field.now).demand ≡ default (datum_of c.in-Default.default) = demand_of_part c.args.field.now ∙ ap demand_of c.in-Default.is in
    let good : IsGoodDemand (default (datum_of c.in-Default.default)) (shape_of c.args.field.now.ty) = rw (e, shape_of_part c.args.field.now) at c.requires.good in
    record { at_unit = c.requires.at_unit; of_profile = rw shape_of_part at c.requires.of_profile; good = good; reached = (c.requires.reached.0, took_other g.R.ReadLeaves.rules g.R.FeedLeaves.fields g.R.ReadLeaves.ahead g.R.ReadLeaves.is_between c.args.field.now c.args.present (nodes c.args.frames.now) c.requires.reached.0 there c.in-Default.default c.in-Default.is c.requires.reached.1); few = c.requires.few }

pub sequences::feed_component-returns-in_err-feed_other-in-Default-clause-stop : goal.sequences::feed_component-returns-in_err-feed_other-in-Default-clause-stop
sequences::feed_component-returns-in_err-feed_other-in-Default-clause-stop g t c =
    let there : c.args.present ≡ true = c.if-not-present.false in
    let d : default_of (part_of_field c.args.field.now).demand ≡ Some (datum_of c.in-Default.default) = ap default_of (demand_of_part c.args.field.now ∙ ap demand_of c.in-Default.is) in
    let p = err_from_is_err_and c.from_residual.result c.from_residual.ensures.1 in
    rw (p.1, p.2) (λ us k. stops_by _ (entry_leads g.R.ReadLeaves.rules c.args.field.now c.args.present _ (us ++ g.R.ReadLeaves.rules.to_units c.args.units.now) there d).stops (c.in_err-feed_other-in-Default.ensures.stop us (took_other g.R.ReadLeaves.rules g.R.FeedLeaves.fields g.R.ReadLeaves.ahead g.R.ReadLeaves.is_between c.args.field.now c.args.present (nodes c.args.frames.now) us there c.in-Default.default c.in-Default.is k)))

pub sequences::feed_component-returns-in_err-feed_other-in-Default-clause-kept : goal.sequences::feed_component-returns-in_err-feed_other-in-Default-clause-kept
sequences::feed_component-returns-in_err-feed_other-in-Default-clause-kept g t c =
    let there : c.args.present ≡ true = c.if-not-present.false in
    let p = err_from_is_err_and c.from_residual.result c.from_residual.ensures.1 in
    rw (p.1, p.2) (λ us k. other_kept g.R.ReadLeaves.rules g.R.FeedLeaves.fields g.R.ReadLeaves.ahead g.R.ReadLeaves.is_between c.args.field.now c.args.present (nodes c.feed_other.new.frames) (us ++ g.R.ReadLeaves.rules.to_units c.args.units.now) _ there c.in-Default.default c.in-Default.is (c.in_err-feed_other-in-Default.ensures.kept us (took_other g.R.ReadLeaves.rules g.R.FeedLeaves.fields g.R.ReadLeaves.ahead g.R.ReadLeaves.is_between c.args.field.now c.args.present (nodes c.args.frames.now) us there c.in-Default.default c.in-Default.is k)))

pub sequences::feed_component-returns-in_ok-feed_other-in-Default-clause-done : goal.sequences::feed_component-returns-in_ok-feed_other-in-Default-clause-done
sequences::feed_component-returns-in_ok-feed_other-in-Default-clause-done g t c =
    let there : c.args.present ≡ true = c.if-not-present.false in
    let d : default_of (part_of_field c.args.field.now).demand ≡ Some (datum_of c.in-Default.default) = ap default_of (demand_of_part c.args.field.now ∙ ap demand_of c.in-Default.is) in
    λ us k. (entry_leads g.R.ReadLeaves.rules c.args.field.now c.args.present _ (us ++ g.R.ReadLeaves.rules.to_units c.args.units.now) there d).done (datum_of c.in_ok-feed_other-in-Default.field-0) (g.R.ReadLeaves.rules.to_units c.feed_other.new.units) (c.in_ok-feed_other-in-Default.ensures.done us (took_other g.R.ReadLeaves.rules g.R.FeedLeaves.fields g.R.ReadLeaves.ahead g.R.ReadLeaves.is_between c.args.field.now c.args.present (nodes c.args.frames.now) us there c.in-Default.default c.in-Default.is k))

pub sequences::feed_component-feed-requires : goal.sequences::feed_component-feed-requires
sequences::feed_component-feed-requires g t c κs within =
    let there : c.args.present ≡ true = c.if-not-present.false in
    (search (rules, the_lemmas), (within.0, (within.1, (c.requires.at_unit, (rw shape_of_part at c.requires.of_profile, ((c.requires.reached.0, took_value g.R.ReadLeaves.rules g.R.FeedLeaves.fields g.R.ReadLeaves.ahead g.R.ReadLeaves.is_between c.args.field.now c.args.present (nodes c.args.frames.now) c.requires.reached.0 there (plain_demand c.args.field.now.need c.in-Must.is) c.requires.reached.1), c.requires.few))))))

pub sequences::feed_component-returns-in_err-feed-in-Must-clause-stop : goal.sequences::feed_component-returns-in_err-feed-in-Must-clause-stop
sequences::feed_component-returns-in_err-feed-in-Must-clause-stop g t c =
    let there : c.args.present ≡ true = c.if-not-present.false in
    let d : default_of (part_of_field c.args.field.now).demand ≡ None = no_default (part_of_field c.args.field.now).demand (subst (λ (z : Demand). (z ≡ must) ⊎ (z ≡ optional)) (sym (demand_of_part c.args.field.now)) (plain_demand c.args.field.now.need c.in-Must.is)) in
    let p = err_from_is_err_and c.from_residual-in_err-feed-in-Must.result c.from_residual-in_err-feed-in-Must.ensures.1 in
    rw (p.1, p.2) (λ us k. stops_by _ (entry_leads g.R.ReadLeaves.rules c.args.field.now c.args.present None (us ++ g.R.ReadLeaves.rules.to_units c.args.units.now) there d).stops (c.in_err-feed-in-Must.ensures.stop us (took_value g.R.ReadLeaves.rules g.R.FeedLeaves.fields g.R.ReadLeaves.ahead g.R.ReadLeaves.is_between c.args.field.now c.args.present (nodes c.args.frames.now) us there (plain_demand c.args.field.now.need c.in-Must.is) k)))

pub sequences::feed_component-returns-in_err-feed-in-Must-clause-kept : goal.sequences::feed_component-returns-in_err-feed-in-Must-clause-kept
sequences::feed_component-returns-in_err-feed-in-Must-clause-kept g t c =
    let there : c.args.present ≡ true = c.if-not-present.false in
    let p = err_from_is_err_and c.from_residual-in_err-feed-in-Must.result c.from_residual-in_err-feed-in-Must.ensures.1 in
    rw (p.1, p.2) (λ us k. value_kept g.R.ReadLeaves.rules g.R.FeedLeaves.fields g.R.ReadLeaves.ahead g.R.ReadLeaves.is_between c.args.field.now c.args.present (nodes c.feed.new.frames) (us ++ g.R.ReadLeaves.rules.to_units c.args.units.now) _ there (plain_demand c.args.field.now.need c.in-Must.is) (c.in_err-feed-in-Must.ensures.kept us (took_value g.R.ReadLeaves.rules g.R.FeedLeaves.fields g.R.ReadLeaves.ahead g.R.ReadLeaves.is_between c.args.field.now c.args.present (nodes c.args.frames.now) us there (plain_demand c.args.field.now.need c.in-Must.is) k)))

pub sequences::feed_component-returns-in_ok-feed-in-Must-clause-done : goal.sequences::feed_component-returns-in_ok-feed-in-Must-clause-done
sequences::feed_component-returns-in_ok-feed-in-Must-clause-done g t c =
    let there : c.args.present ≡ true = c.if-not-present.false in
    let d : default_of (part_of_field c.args.field.now).demand ≡ None = no_default (part_of_field c.args.field.now).demand (subst (λ (z : Demand). (z ≡ must) ⊎ (z ≡ optional)) (sym (demand_of_part c.args.field.now)) (plain_demand c.args.field.now.need c.in-Must.is)) in
    λ us k. (entry_leads g.R.ReadLeaves.rules c.args.field.now c.args.present None (us ++ g.R.ReadLeaves.rules.to_units c.args.units.now) there d).done (datum_of c.in_ok-feed-in-Must.field-0) (g.R.ReadLeaves.rules.to_units c.feed.new.units) (c.in_ok-feed-in-Must.ensures.done us (took_value g.R.ReadLeaves.rules g.R.FeedLeaves.fields g.R.ReadLeaves.ahead g.R.ReadLeaves.is_between c.args.field.now c.args.present (nodes c.args.frames.now) us there (plain_demand c.args.field.now.need c.in-Must.is) k))

-- ---- a SEQUENCE of the program

pub values::feed-resume_sequence-requires : goal.values::feed-resume_sequence-requires
values::feed-resume_sequence-requires g t c κs within =
    let is = sequence_of_fields c.args.ty.now c.in-Seq.root c.in-Seq.ext c.as_slice-root.result.now c.in-Seq.is c.as_slice-root.ensures.value in
    let tk = taken_is c.take-node-in-Seq.result (nodes c.args.frames.now) (nodes c.take-node-in-Seq.new.self) c.take-node-in-Seq.ensures.some c.take-node-in-Seq.ensures.none c.take-node-in-Seq.ensures.empty in
    (search (rules, the_lemmas), (within.0, (within.1, (c.requires.at_unit, (rw is at c.requires.of_profile, (record { components = c.in-Seq.root; is = c.in-Seq.is; root_is = c.as_slice-root.ensures.value }, (few_components c.as_slice-root.result.now is c.requires.of_profile, ((c.requires.reached.0, rw (is, tk) at c.requires.reached.1), (c.take-node-in-Seq.ensures.empty, c.requires.few)))))))))

pub values::feed-returns-in-Seq-clause-done : goal.values::feed-returns-in-Seq-clause-done
values::feed-returns-in-Seq-clause-done g t c =
    let is = sequence_of_fields c.args.ty.now c.in-Seq.root c.in-Seq.ext c.as_slice-root.result.now c.in-Seq.is c.as_slice-root.ensures.value in
    let tk = taken_is c.take-node-in-Seq.result (nodes c.args.frames.now) (nodes c.take-node-in-Seq.new.self) c.take-node-in-Seq.ensures.some c.take-node-in-Seq.ensures.none c.take-node-in-Seq.ensures.empty in
    IfOk-weaker c.resume_sequence.result _ _ (λ v s us k. rw is (s us (rw (is, tk) at k))) c.resume_sequence.ensures.done

pub values::feed-returns-in-Seq-clause-stop : goal.values::feed-returns-in-Seq-clause-stop
values::feed-returns-in-Seq-clause-stop g t c =
    let is = sequence_of_fields c.args.ty.now c.in-Seq.root c.in-Seq.ext c.as_slice-root.result.now c.in-Seq.is c.as_slice-root.ensures.value in
    let tk = taken_is c.take-node-in-Seq.result (nodes c.args.frames.now) (nodes c.take-node-in-Seq.new.self) c.take-node-in-Seq.ensures.some c.take-node-in-Seq.ensures.none c.take-node-in-Seq.ensures.empty in
    IfErr-weaker c.resume_sequence.result _ _ (λ why s us k. rw is (s us (rw (is, tk) at k))) c.resume_sequence.ensures.stop

pub values::feed-returns-in-Seq-clause-kept : goal.values::feed-returns-in-Seq-clause-kept
values::feed-returns-in-Seq-clause-kept g t c =
    let is = sequence_of_fields c.args.ty.now c.in-Seq.root c.in-Seq.ext c.as_slice-root.result.now c.in-Seq.is c.as_slice-root.ensures.value in
    let tk = taken_is c.take-node-in-Seq.result (nodes c.args.frames.now) (nodes c.take-node-in-Seq.new.self) c.take-node-in-Seq.ensures.some c.take-node-in-Seq.ensures.none c.take-node-in-Seq.ensures.empty in
    IfErr-weaker c.resume_sequence.result _ _ (λ why s us k. rw is (s us (rw (is, tk) at k))) c.resume_sequence.ensures.kept

-- ---- the alternatives of a CHOICE

pub choices::resume_choice-start_choice-requires-in-None : goal.choices::resume_choice-start_choice-requires-in-None
choices::resume_choice-start_choice-requires-in-None g t c κs within =
    (search (rules, the_lemmas), (within.0, (within.1, (c.requires.at_unit, (c.requires.of_profile, (c.requires.parts, (c.requires.some, (c.requires.last (ap is_some c.in-None.is), (record { come = refl; at_unit = rw c.none.ensures c.keep_feed_laws.ensures.begin; begins = inl c.none.ensures }, c.requires.few)))))))))

pub choices::resume_choice-feed_choice-requires : goal.choices::resume_choice-feed_choice-requires
choices::resume_choice-feed_choice-requires g t c κs within =
    let small = root_smaller c.args._ty.now c.requires.parts.alternatives c.args.ext.now c.args.root.now c.requires.parts.is c.requires.parts.root_is in
    let us = c.requires.reached.0 in
    let k = took_chosen g.R.ReadLeaves.rules c.keep_laws.ensures g.R.FeedLeaves.fields g.R.ReadLeaves.ahead g.R.ReadLeaves.is_between c.args.root.now (more_alternatives_of c.args.ext.now) c.requires.of_profile c.args.node c.in-Some-Chosen.field-0 c.in-Some-Chosen.index (nodes c.args.frames.now) us c.in-Some-Chosen.is c.in-Some-Chosen.field-0-is c.requires.reached.1 in
    (search (rules, the_lemmas, small), (within.0, (within.1, (c.requires.at_unit, (rw c.in-Some-Chosen.index-is (index_inside g.R.ReadLeaves.rules c.keep_laws.ensures g.R.FeedLeaves.fields g.R.ReadLeaves.ahead g.R.ReadLeaves.is_between c.args.root.now (more_alternatives_of c.args.ext.now) c.requires.of_profile c.in-Some-Chosen.index (nodes c.args.frames.now) us [] k), (((more_alternatives_of c.args.ext.now), c.requires.of_profile, us ++ g.R.ReadLeaves.rules.to_units c.args.units.now, rw c.in-Some-Chosen.index-is (choice_goes_on g.R.ReadLeaves.rules c.keep_laws.ensures g.R.FeedLeaves.fields g.R.ReadLeaves.ahead g.R.ReadLeaves.is_between c.args.root.now (more_alternatives_of c.args.ext.now) c.requires.of_profile c.in-Some-Chosen.index (nodes c.args.frames.now) us (g.R.ReadLeaves.rules.to_units c.args.units.now) k)), c.requires.few))))))

pub choices::resume_choice-returns-in-Some-Chosen-clause-done : goal.choices::resume_choice-returns-in-Some-Chosen-clause-done
choices::resume_choice-returns-in-Some-Chosen-clause-done g t c =
    IfOk-weaker c.feed_choice.result _ _ (λ v s us k. s (more_alternatives_of c.args.ext.now) c.requires.of_profile (us ++ g.R.ReadLeaves.rules.to_units c.args.units.now) (rw c.in-Some-Chosen.index-is (choice_goes_on g.R.ReadLeaves.rules c.keep_laws.ensures g.R.FeedLeaves.fields g.R.ReadLeaves.ahead g.R.ReadLeaves.is_between c.args.root.now (more_alternatives_of c.args.ext.now) c.requires.of_profile c.in-Some-Chosen.index (nodes c.args.frames.now) us (g.R.ReadLeaves.rules.to_units c.args.units.now) (took_chosen g.R.ReadLeaves.rules c.keep_laws.ensures g.R.FeedLeaves.fields g.R.ReadLeaves.ahead g.R.ReadLeaves.is_between c.args.root.now (more_alternatives_of c.args.ext.now) c.requires.of_profile c.args.node c.in-Some-Chosen.field-0 c.in-Some-Chosen.index (nodes c.args.frames.now) us c.in-Some-Chosen.is c.in-Some-Chosen.field-0-is k)))) c.feed_choice.ensures.done

pub choices::resume_choice-returns-in-Some-Chosen-clause-stop : goal.choices::resume_choice-returns-in-Some-Chosen-clause-stop
choices::resume_choice-returns-in-Some-Chosen-clause-stop g t c =
    IfErr-weaker c.feed_choice.result _ _ (λ why s us k. s (more_alternatives_of c.args.ext.now) c.requires.of_profile (us ++ g.R.ReadLeaves.rules.to_units c.args.units.now) (rw c.in-Some-Chosen.index-is (choice_goes_on g.R.ReadLeaves.rules c.keep_laws.ensures g.R.FeedLeaves.fields g.R.ReadLeaves.ahead g.R.ReadLeaves.is_between c.args.root.now (more_alternatives_of c.args.ext.now) c.requires.of_profile c.in-Some-Chosen.index (nodes c.args.frames.now) us (g.R.ReadLeaves.rules.to_units c.args.units.now) (took_chosen g.R.ReadLeaves.rules c.keep_laws.ensures g.R.FeedLeaves.fields g.R.ReadLeaves.ahead g.R.ReadLeaves.is_between c.args.root.now (more_alternatives_of c.args.ext.now) c.requires.of_profile c.args.node c.in-Some-Chosen.field-0 c.in-Some-Chosen.index (nodes c.args.frames.now) us c.in-Some-Chosen.is c.in-Some-Chosen.field-0-is k)))) c.feed_choice.ensures.stop

pub choices::resume_choice-returns-in-Some-Chosen-clause-kept : goal.choices::resume_choice-returns-in-Some-Chosen-clause-kept
choices::resume_choice-returns-in-Some-Chosen-clause-kept g t c =
    IfErr-weaker c.feed_choice.result _ _ (λ why s us k. s (more_alternatives_of c.args.ext.now) c.requires.of_profile (us ++ g.R.ReadLeaves.rules.to_units c.args.units.now) (rw c.in-Some-Chosen.index-is (choice_goes_on g.R.ReadLeaves.rules c.keep_laws.ensures g.R.FeedLeaves.fields g.R.ReadLeaves.ahead g.R.ReadLeaves.is_between c.args.root.now (more_alternatives_of c.args.ext.now) c.requires.of_profile c.in-Some-Chosen.index (nodes c.args.frames.now) us (g.R.ReadLeaves.rules.to_units c.args.units.now) (took_chosen g.R.ReadLeaves.rules c.keep_laws.ensures g.R.FeedLeaves.fields g.R.ReadLeaves.ahead g.R.ReadLeaves.is_between c.args.root.now (more_alternatives_of c.args.ext.now) c.requires.of_profile c.args.node c.in-Some-Chosen.field-0 c.in-Some-Chosen.index (nodes c.args.frames.now) us c.in-Some-Chosen.is c.in-Some-Chosen.field-0-is k)))) c.feed_choice.ensures.kept

pub choices::resume_choice-returns-in-None-clause-done : goal.choices::resume_choice-returns-in-None-clause-done
choices::resume_choice-returns-in-None-clause-done g t c =
    IfOk-weaker c.start_choice-in-None.result _ _ (λ v s us k. subst (λ (xs : List ℕ). Spells g.R.ReadLeaves.rules.ruling.fielding (ValuesOf g.R.ReadLeaves.rules (choice_seen c.args.root.now c.args.ext.now)) (datum_of v) xs (g.R.ReadLeaves.rules.to_units c.start_choice-in-None.new.units)) (ap (λ (xs : List ℕ). xs ++ g.R.ReadLeaves.rules.to_units c.args.units.now) (ap g.R.ReadLeaves.rules.to_units c.none.ensures ∙ c.keep_feed_laws.ensures.none ∙ sym (choice_none g.R.ReadLeaves.rules c.keep_laws.ensures g.R.FeedLeaves.fields g.R.ReadLeaves.ahead g.R.ReadLeaves.is_between c.args.root.now (more_alternatives_of c.args.ext.now) c.requires.of_profile c.args.node (nodes c.args.frames.now) us c.in-None.is (c.requires.last (ap is_some c.in-None.is)) k))) s) c.start_choice-in-None.ensures.done

pub choices::resume_choice-returns-in-None-clause-stop : goal.choices::resume_choice-returns-in-None-clause-stop
choices::resume_choice-returns-in-None-clause-stop g t c =
    IfErr-weaker c.start_choice-in-None.result _ _ (λ why s us k. subst (λ (xs : List ℕ). Stops g.R.ReadLeaves.rules.ruling.fielding (ValuesOf g.R.ReadLeaves.rules (choice_seen c.args.root.now c.args.ext.now)) xs why) (ap (λ (xs : List ℕ). xs ++ g.R.ReadLeaves.rules.to_units c.args.units.now) (ap g.R.ReadLeaves.rules.to_units c.none.ensures ∙ c.keep_feed_laws.ensures.none ∙ sym (choice_none g.R.ReadLeaves.rules c.keep_laws.ensures g.R.FeedLeaves.fields g.R.ReadLeaves.ahead g.R.ReadLeaves.is_between c.args.root.now (more_alternatives_of c.args.ext.now) c.requires.of_profile c.args.node (nodes c.args.frames.now) us c.in-None.is (c.requires.last (ap is_some c.in-None.is)) k))) s) c.start_choice-in-None.ensures.stop

pub choices::resume_choice-returns-in-None-clause-kept : goal.choices::resume_choice-returns-in-None-clause-kept
choices::resume_choice-returns-in-None-clause-kept g t c =
    IfErr-weaker c.start_choice-in-None.result _ _ (λ why s us k. subst (λ (xs : List ℕ). KeepsFrames g.R.ReadLeaves.rules g.R.FeedLeaves.fields g.R.ReadLeaves.ahead g.R.ReadLeaves.is_between (nodes c.start_choice-in-None.new.frames) (choice_seen c.args.root.now c.args.ext.now) xs why) (ap (λ (xs : List ℕ). xs ++ g.R.ReadLeaves.rules.to_units c.args.units.now) (ap g.R.ReadLeaves.rules.to_units c.none.ensures ∙ c.keep_feed_laws.ensures.none ∙ sym (choice_none g.R.ReadLeaves.rules c.keep_laws.ensures g.R.FeedLeaves.fields g.R.ReadLeaves.ahead g.R.ReadLeaves.is_between c.args.root.now (more_alternatives_of c.args.ext.now) c.requires.of_profile c.args.node (nodes c.args.frames.now) us c.in-None.is (c.requires.last (ap is_some c.in-None.is)) k))) s) c.start_choice-in-None.ensures.kept

pub choices::resume_choice-returns-in-Some-Start-clause-done : goal.choices::resume_choice-returns-in-Some-Start-clause-done
choices::resume_choice-returns-in-Some-Start-clause-done g t c =
    IfOk-weaker c.start_choice.result _ _ (λ v s us k. subst (λ (xs : List ℕ). Spells g.R.ReadLeaves.rules.ruling.fielding (ValuesOf g.R.ReadLeaves.rules (choice_seen c.args.root.now c.args.ext.now)) (datum_of v) (xs ++ g.R.ReadLeaves.rules.to_units c.args.units.now) (g.R.ReadLeaves.rules.to_units c.start_choice.new.units)) (choice_start g.R.ReadLeaves.rules c.keep_laws.ensures g.R.FeedLeaves.fields g.R.ReadLeaves.ahead g.R.ReadLeaves.is_between c.args.root.now (more_alternatives_of c.args.ext.now) c.requires.of_profile c.args.node c.in-Some-Start.field-0 c.in-Some-Start.begun (nodes c.args.frames.now) us c.in-Some-Start.is c.in-Some-Start.field-0-is k).1.come s) c.start_choice.ensures.done

pub choices::resume_choice-returns-in-Some-Start-clause-stop : goal.choices::resume_choice-returns-in-Some-Start-clause-stop
choices::resume_choice-returns-in-Some-Start-clause-stop g t c =
    IfErr-weaker c.start_choice.result _ _ (λ why s us k. subst (λ (xs : List ℕ). Stops g.R.ReadLeaves.rules.ruling.fielding (ValuesOf g.R.ReadLeaves.rules (choice_seen c.args.root.now c.args.ext.now)) (xs ++ g.R.ReadLeaves.rules.to_units c.args.units.now) why) (choice_start g.R.ReadLeaves.rules c.keep_laws.ensures g.R.FeedLeaves.fields g.R.ReadLeaves.ahead g.R.ReadLeaves.is_between c.args.root.now (more_alternatives_of c.args.ext.now) c.requires.of_profile c.args.node c.in-Some-Start.field-0 c.in-Some-Start.begun (nodes c.args.frames.now) us c.in-Some-Start.is c.in-Some-Start.field-0-is k).1.come s) c.start_choice.ensures.stop

pub choices::resume_choice-returns-in-Some-Start-clause-kept : goal.choices::resume_choice-returns-in-Some-Start-clause-kept
choices::resume_choice-returns-in-Some-Start-clause-kept g t c =
    IfErr-weaker c.start_choice.result _ _ (λ why s us k. subst (λ (xs : List ℕ). KeepsFrames g.R.ReadLeaves.rules g.R.FeedLeaves.fields g.R.ReadLeaves.ahead g.R.ReadLeaves.is_between (nodes c.start_choice.new.frames) (choice_seen c.args.root.now c.args.ext.now) (xs ++ g.R.ReadLeaves.rules.to_units c.args.units.now) why) (choice_start g.R.ReadLeaves.rules c.keep_laws.ensures g.R.FeedLeaves.fields g.R.ReadLeaves.ahead g.R.ReadLeaves.is_between c.args.root.now (more_alternatives_of c.args.ext.now) c.requires.of_profile c.args.node c.in-Some-Start.field-0 c.in-Some-Start.begun (nodes c.args.frames.now) us c.in-Some-Start.is c.in-Some-Start.field-0-is k).1.come s) c.start_choice.ensures.kept

pub choices::resume_choice-start_choice-requires : goal.choices::resume_choice-start_choice-requires
choices::resume_choice-start_choice-requires g t c κs within =
    let us = c.requires.reached.0 in
    let w = choice_start g.R.ReadLeaves.rules c.keep_laws.ensures g.R.FeedLeaves.fields g.R.ReadLeaves.ahead g.R.ReadLeaves.is_between c.args.root.now (more_alternatives_of c.args.ext.now) c.requires.of_profile c.args.node c.in-Some-Start.field-0 c.in-Some-Start.begun (nodes c.args.frames.now) us c.in-Some-Start.is c.in-Some-Start.field-0-is c.requires.reached.1 in
    (search (rules, the_lemmas), (within.0, (within.1, (c.requires.at_unit, (c.requires.of_profile, (c.requires.parts, (c.requires.some, (w.0, (record { come = refl; at_unit = w.1.at_unit; begins = w.1.begins }, c.requires.few)))))))))

pub choices::start_choice-feed_leaf-requires-clause-good : goal.choices::start_choice-feed_leaf-requires-clause-good
choices::start_choice-feed_leaf-requires-clause-good g t c = (c.requires.some, rw (c.addition_count.ensures, ← more_count c.args.ext.now) (few_seen c.args.root.now (more_alternatives_of c.args.ext.now) c.requires.of_profile))

pub choices::start_choice-feed_leaf-requires-clause-begins : goal.choices::start_choice-feed_leaf-requires-clause-begins
choices::start_choice-feed_leaf-requires-clause-begins g t c = rw (c.addition_count.ensures, ← more_count c.args.ext.now) c.requires.waits.begins

pub choices::start_choice-feed_choice-requires : goal.choices::start_choice-feed_choice-requires
choices::start_choice-feed_choice-requires g t c κs within =
    let small = root_smaller c.args._ty.now c.requires.parts.alternatives c.args.ext.now c.args.root.now c.requires.parts.is c.requires.parts.root_is in
    let told : Spells g.R.ReadLeaves.rules.ruling.fielding (IndexOf g.R.ReadLeaves.rules (length c.args.root.now) (added_alternatives (more_alternatives_of c.args.ext.now))) (inl c.in-Ok-Root.index) (g.R.ReadLeaves.rules.to_units c.args.begun ++ g.R.ReadLeaves.rules.to_units c.args.units.now) (g.R.ReadLeaves.rules.to_units c.feed_leaf.new.units) = rw (c.addition_count.ensures, ← more_count c.args.ext.now, c.in-Ok-Root.field-0-is) at c.in-Ok-Root.ensures.done in
    (search (rules, the_lemmas, small), (within.0, (within.1, (c.in-Ok-Root.ensures.at_unit, (rw c.in-Ok-Root.index-is told.spelt.fits, (((more_alternatives_of c.args.ext.now), c.requires.of_profile, (g.R.ReadLeaves.rules.to_units c.args.begun ++ g.R.ReadLeaves.rules.to_units c.args.units.now), rw c.in-Ok-Root.index-is (choice_starts g.R.ReadLeaves.rules c.keep_laws.ensures g.R.FeedLeaves.fields g.R.ReadLeaves.ahead g.R.ReadLeaves.is_between c.args.root.now (more_alternatives_of c.args.ext.now) c.requires.of_profile c.in-Ok-Root.index (nodes c.args.frames.now) (g.R.ReadLeaves.rules.to_units c.args.begun ++ g.R.ReadLeaves.rules.to_units c.args.units.now) (g.R.ReadLeaves.rules.to_units c.feed_leaf.new.units) told c.requires.empty)), still_below c.in-Ok-Root.ensures.ticked c.requires.few))))))

pub choices::start_choice-returns-in-Ok-Root-clause-done : goal.choices::start_choice-returns-in-Ok-Root-clause-done
choices::start_choice-returns-in-Ok-Root-clause-done g t c =
    let told : Spells g.R.ReadLeaves.rules.ruling.fielding (IndexOf g.R.ReadLeaves.rules (length c.args.root.now) (added_alternatives (more_alternatives_of c.args.ext.now))) (inl c.in-Ok-Root.index) (g.R.ReadLeaves.rules.to_units c.args.begun ++ g.R.ReadLeaves.rules.to_units c.args.units.now) (g.R.ReadLeaves.rules.to_units c.feed_leaf.new.units) = rw (c.addition_count.ensures, ← more_count c.args.ext.now, c.in-Ok-Root.field-0-is) at c.in-Ok-Root.ensures.done in
    IfOk-weaker c.feed_choice.result _ _ (λ v s. s (more_alternatives_of c.args.ext.now) c.requires.of_profile (g.R.ReadLeaves.rules.to_units c.args.begun ++ g.R.ReadLeaves.rules.to_units c.args.units.now) (rw c.in-Ok-Root.index-is (choice_starts g.R.ReadLeaves.rules c.keep_laws.ensures g.R.FeedLeaves.fields g.R.ReadLeaves.ahead g.R.ReadLeaves.is_between c.args.root.now (more_alternatives_of c.args.ext.now) c.requires.of_profile c.in-Ok-Root.index (nodes c.args.frames.now) (g.R.ReadLeaves.rules.to_units c.args.begun ++ g.R.ReadLeaves.rules.to_units c.args.units.now) (g.R.ReadLeaves.rules.to_units c.feed_leaf.new.units) told c.requires.empty))) c.feed_choice.ensures.done

pub choices::start_choice-returns-in-Ok-Root-clause-stop : goal.choices::start_choice-returns-in-Ok-Root-clause-stop
choices::start_choice-returns-in-Ok-Root-clause-stop g t c =
    let told : Spells g.R.ReadLeaves.rules.ruling.fielding (IndexOf g.R.ReadLeaves.rules (length c.args.root.now) (added_alternatives (more_alternatives_of c.args.ext.now))) (inl c.in-Ok-Root.index) (g.R.ReadLeaves.rules.to_units c.args.begun ++ g.R.ReadLeaves.rules.to_units c.args.units.now) (g.R.ReadLeaves.rules.to_units c.feed_leaf.new.units) = rw (c.addition_count.ensures, ← more_count c.args.ext.now, c.in-Ok-Root.field-0-is) at c.in-Ok-Root.ensures.done in
    IfErr-weaker c.feed_choice.result _ _ (λ why s. s (more_alternatives_of c.args.ext.now) c.requires.of_profile (g.R.ReadLeaves.rules.to_units c.args.begun ++ g.R.ReadLeaves.rules.to_units c.args.units.now) (rw c.in-Ok-Root.index-is (choice_starts g.R.ReadLeaves.rules c.keep_laws.ensures g.R.FeedLeaves.fields g.R.ReadLeaves.ahead g.R.ReadLeaves.is_between c.args.root.now (more_alternatives_of c.args.ext.now) c.requires.of_profile c.in-Ok-Root.index (nodes c.args.frames.now) (g.R.ReadLeaves.rules.to_units c.args.begun ++ g.R.ReadLeaves.rules.to_units c.args.units.now) (g.R.ReadLeaves.rules.to_units c.feed_leaf.new.units) told c.requires.empty))) c.feed_choice.ensures.stop

pub choices::start_choice-returns-in-Ok-Root-clause-kept : goal.choices::start_choice-returns-in-Ok-Root-clause-kept
choices::start_choice-returns-in-Ok-Root-clause-kept g t c =
    let told : Spells g.R.ReadLeaves.rules.ruling.fielding (IndexOf g.R.ReadLeaves.rules (length c.args.root.now) (added_alternatives (more_alternatives_of c.args.ext.now))) (inl c.in-Ok-Root.index) (g.R.ReadLeaves.rules.to_units c.args.begun ++ g.R.ReadLeaves.rules.to_units c.args.units.now) (g.R.ReadLeaves.rules.to_units c.feed_leaf.new.units) = rw (c.addition_count.ensures, ← more_count c.args.ext.now, c.in-Ok-Root.field-0-is) at c.in-Ok-Root.ensures.done in
    IfErr-weaker c.feed_choice.result _ _ (λ why s. s (more_alternatives_of c.args.ext.now) c.requires.of_profile (g.R.ReadLeaves.rules.to_units c.args.begun ++ g.R.ReadLeaves.rules.to_units c.args.units.now) (rw c.in-Ok-Root.index-is (choice_starts g.R.ReadLeaves.rules c.keep_laws.ensures g.R.FeedLeaves.fields g.R.ReadLeaves.ahead g.R.ReadLeaves.is_between c.args.root.now (more_alternatives_of c.args.ext.now) c.requires.of_profile c.in-Ok-Root.index (nodes c.args.frames.now) (g.R.ReadLeaves.rules.to_units c.args.begun ++ g.R.ReadLeaves.rules.to_units c.args.units.now) (g.R.ReadLeaves.rules.to_units c.feed_leaf.new.units) told c.requires.empty))) c.feed_choice.ensures.kept

pub choices::start_choice-returns-in-Ok-clause-stop : goal.choices::start_choice-returns-in-Ok-clause-stop
choices::start_choice-returns-in-Ok-clause-stop g t c =
    let a : Stops g.R.ReadLeaves.rules.ruling.fielding (IndexOf g.R.ReadLeaves.rules (length c.args.root.now) (added_alternatives (more_alternatives_of c.args.ext.now))) (g.R.ReadLeaves.rules.to_units c.args.begun ++ g.R.ReadLeaves.rules.to_units c.args.units.now) stop.Short = rw (c.addition_count.ensures, ← more_count c.args.ext.now, c.in-Err-Short.field-0-is) at c.in-Err-Short.ensures.stop in
    stops_by stop.Short (choice_stops g.R.ReadLeaves.rules c.keep_laws.ensures g.R.FeedLeaves.fields g.R.ReadLeaves.ahead g.R.ReadLeaves.is_between c.args.root.now (more_alternatives_of c.args.ext.now) c.requires.of_profile (g.R.ReadLeaves.rules.to_units c.args.begun ++ g.R.ReadLeaves.rules.to_units c.args.units.now)) a

pub choices::start_choice-returns-in-Ok-clause-kept : goal.choices::start_choice-returns-in-Ok-clause-kept
choices::start_choice-returns-in-Ok-clause-kept g t c =
    let b = c.feed_leaf.new.begun in
    let a : Stops g.R.ReadLeaves.rules.ruling.fielding (IndexOf g.R.ReadLeaves.rules (length c.args.root.now) (added_alternatives (more_alternatives_of c.args.ext.now))) (g.R.ReadLeaves.rules.to_units c.args.begun ++ g.R.ReadLeaves.rules.to_units c.args.units.now) stop.Short = rw (c.addition_count.ensures, ← more_count c.args.ext.now, c.in-Err-Short.field-0-is) at c.in-Err-Short.ensures.stop in
    let e : g.R.ReadLeaves.rules.to_units b ≡ (g.R.ReadLeaves.rules.to_units c.args.begun ++ g.R.ReadLeaves.rules.to_units c.args.units.now) = rw c.in-Err-Short.field-0-is at c.in-Err-Short.ensures.kept in
    let s : Short g.R.ReadLeaves.rules.ruling.fielding (IndexOf g.R.ReadLeaves.rules (length c.args.root.now) (added_alternatives (more_alternatives_of c.args.ext.now))) (g.R.ReadLeaves.rules.to_units b) = subst (λ (xs : List ℕ). Short g.R.ReadLeaves.rules.ruling.fielding (IndexOf g.R.ReadLeaves.rules (length c.args.root.now) (added_alternatives (more_alternatives_of c.args.ext.now))) xs) (sym e) a.told in
    let fs : nodes c.put.new.self ≡ frame.Start b ∷ [] = c.in-Ok.ensures ∙ ap (λ (gs : List (Frame g.row.R-Fragments.Denot)). frame.Start b ∷ gs) c.requires.empty in
    choice_took g.R.ReadLeaves.rules c.keep_laws.ensures g.R.FeedLeaves.fields g.R.ReadLeaves.ahead g.R.ReadLeaves.is_between c.args.root.now (more_alternatives_of c.args.ext.now) c.requires.of_profile (nodes c.put.new.self) b (g.R.ReadLeaves.rules.to_units c.args.begun ++ g.R.ReadLeaves.rules.to_units c.args.units.now) fs (record { come = e; at_unit = c.in-Err-Short.ensures.begun; begins = inr s })

pub choices::start_choice-returns-in-Err-Refused-clause-stop : goal.choices::start_choice-returns-in-Err-Refused-clause-stop
choices::start_choice-returns-in-Err-Refused-clause-stop g t c =
    let w = stop.Refused c.in-Err-Refused.left c.in-Err-Refused.why in
    let a : Stops g.R.ReadLeaves.rules.ruling.fielding (IndexOf g.R.ReadLeaves.rules (length c.args.root.now) (added_alternatives (more_alternatives_of c.args.ext.now))) (g.R.ReadLeaves.rules.to_units c.args.begun ++ g.R.ReadLeaves.rules.to_units c.args.units.now) w = rw (c.addition_count.ensures, ← more_count c.args.ext.now, c.in-Err-Refused.field-0-is) at c.in-Err-Refused.ensures.stop in
    rw (c.in-Err-Refused.left-is, c.in-Err-Refused.why-is) (stops_by w (choice_stops g.R.ReadLeaves.rules c.keep_laws.ensures g.R.FeedLeaves.fields g.R.ReadLeaves.ahead g.R.ReadLeaves.is_between c.args.root.now (more_alternatives_of c.args.ext.now) c.requires.of_profile (g.R.ReadLeaves.rules.to_units c.args.begun ++ g.R.ReadLeaves.rules.to_units c.args.units.now)) a)

-- ---- the value of its alternative

pub choices::feed_choice-overflow_cast-result : goal.choices::feed_choice-overflow_cast-result
choices::feed_choice-overflow_cast-result g t c =
    let few : length c.args.root.now ≤ most_alternatives = few_of_root (length c.args.root.now) (added_alternatives c.requires.reached.0) (few_seen c.args.root.now c.requires.reached.0 c.requires.reached.1) in
    omega (arith, c.requires.inside, few)

pub choices::feed_choice-feed-requires : goal.choices::feed_choice-feed-requires
choices::feed_choice-feed-requires g t c κs within =
    let more = c.requires.reached.0 in
    let good = c.requires.reached.1 in
    let x = alternative_ahead g.R.ReadLeaves.rules c.keep_laws.ensures g.R.FeedLeaves.fields g.R.ReadLeaves.ahead g.R.ReadLeaves.is_between c.args.root.now more good c.args.index (nodes c.args.frames.now) c.index-root-index.result c.requires.reached.2 (g.R.ReadLeaves.rules.to_units c.args.units.now) c.index-root-index.is c.requires.reached.3 in
    (search (rules, the_lemmas), (within.0, (within.1, (c.requires.at_unit, (x.of_profile, ((x.come, x.took), c.requires.few))))))

pub choices::feed_choice-returns-in-Ok-new-clause-done : goal.choices::feed_choice-returns-in-Ok-new-clause-done
choices::feed_choice-returns-in-Ok-new-clause-done g t c = λ more good all h.
    let x = alternative_ahead g.R.ReadLeaves.rules c.keep_laws.ensures g.R.FeedLeaves.fields g.R.ReadLeaves.ahead g.R.ReadLeaves.is_between c.args.root.now more good c.args.index (nodes c.args.frames.now) c.index-root-index.result all (g.R.ReadLeaves.rules.to_units c.args.units.now) c.index-root-index.is h in
    rw (datum_of-Choice c.args.index c.in-Ok-new.value, c.in-Ok-new.ensures.ok) (x.leads.done (datum_of c.in-Ok.value) (g.R.ReadLeaves.rules.to_units c.feed.new.units) (c.in-Ok.ensures.done x.come x.took))

pub choices::feed_choice-returns-in-Ok-put-clause-stop : goal.choices::feed_choice-returns-in-Ok-put-clause-stop
choices::feed_choice-returns-in-Ok-put-clause-stop g t c = λ more good all h.
    let x = alternative_ahead g.R.ReadLeaves.rules c.keep_laws.ensures g.R.FeedLeaves.fields g.R.ReadLeaves.ahead g.R.ReadLeaves.is_between c.args.root.now more good c.args.index (nodes c.args.frames.now) c.index-root-index.result all (g.R.ReadLeaves.rules.to_units c.args.units.now) c.index-root-index.is h in
    let a : Stops g.R.ReadLeaves.rules.ruling.fielding (ValuesOf g.R.ReadLeaves.rules (shape_of c.index-root-index.result.ty)) (x.come ++ g.R.ReadLeaves.rules.to_units c.args.units.now) stop.Short = rw c.in-Err-Short.field-0-is at (c.in-Err-Short.ensures.stop x.come x.took) in
    stops_by stop.Short x.leads.stops a

pub choices::feed_choice-returns-in-Err-Refused-clause-stop : goal.choices::feed_choice-returns-in-Err-Refused-clause-stop
choices::feed_choice-returns-in-Err-Refused-clause-stop g t c = λ more good all h.
    let x = alternative_ahead g.R.ReadLeaves.rules c.keep_laws.ensures g.R.FeedLeaves.fields g.R.ReadLeaves.ahead g.R.ReadLeaves.is_between c.args.root.now more good c.args.index (nodes c.args.frames.now) c.index-root-index.result all (g.R.ReadLeaves.rules.to_units c.args.units.now) c.index-root-index.is h in
    let w = stop.Refused c.in-Err-Refused.left c.in-Err-Refused.why in
    let a : Stops g.R.ReadLeaves.rules.ruling.fielding (ValuesOf g.R.ReadLeaves.rules (shape_of c.index-root-index.result.ty)) (x.come ++ g.R.ReadLeaves.rules.to_units c.args.units.now) w = rw c.in-Err-Refused.field-0-is at (c.in-Err-Refused.ensures.stop x.come x.took) in
    rw (c.in-Err-Refused.left-is, c.in-Err-Refused.why-is) (stops_by w x.leads.stops a)

pub choices::feed_choice-returns-in-Ok-put-clause-kept : goal.choices::feed_choice-returns-in-Ok-put-clause-kept
choices::feed_choice-returns-in-Ok-put-clause-kept g t c = λ more good all h.
    let x = alternative_ahead g.R.ReadLeaves.rules c.keep_laws.ensures g.R.FeedLeaves.fields g.R.ReadLeaves.ahead g.R.ReadLeaves.is_between c.args.root.now more good c.args.index (nodes c.args.frames.now) c.index-root-index.result all (g.R.ReadLeaves.rules.to_units c.args.units.now) c.index-root-index.is h in
    let none : g.R.ReadLeaves.rules.to_units c.feed.new.units ≡ [] = rw c.in-Err-Short.field-0-is at c.in-Err-Short.ensures.after in
    let took : Took g.R.ReadLeaves.rules g.R.FeedLeaves.fields g.R.ReadLeaves.ahead g.R.ReadLeaves.is_between (nodes c.feed.new.frames) (shape_of c.index-root-index.result.ty) (x.come ++ g.R.ReadLeaves.rules.to_units c.args.units.now) = rw c.in-Err-Short.field-0-is at (c.in-Err-Short.ensures.kept x.come x.took) in
    rw c.in-Ok-put.ensures (x.kept (nodes c.feed.new.frames) [] refl took)

-- ---- a CHOICE of the program

pub values::feed-resume_choice-requires : goal.values::feed-resume_choice-requires
values::feed-resume_choice-requires g t c κs within =
    let is = choice_of_alternatives c.args.ty.now c.in-Choice.root c.in-Choice.ext c.as_slice-root-in-Choice.result.now c.in-Choice.is c.as_slice-root-in-Choice.ensures.value in
    let tk = taken_is c.take-node-in-Choice.result (nodes c.args.frames.now) (nodes c.take-node-in-Choice.new.self) c.take-node-in-Choice.ensures.some c.take-node-in-Choice.ensures.none c.take-node-in-Choice.ensures.empty in
    (search (rules, the_lemmas), (within.0, (within.1, (c.requires.at_unit, (rw is at c.requires.of_profile, (record { alternatives = c.in-Choice.root; is = c.in-Choice.is; root_is = c.as_slice-root-in-Choice.ensures.value }, (rw c.as_slice-root-in-Choice.ensures.len (some_root c.args.ty.now c.in-Choice.root c.in-Choice.ext c.in-Choice.is c.requires.of_profile (vec_len c.in-Choice.root) refl), ((c.requires.reached.0, rw (is, tk) at c.requires.reached.1), (c.take-node-in-Choice.ensures.empty, c.requires.few)))))))))

pub values::feed-returns-in-Choice-clause-done : goal.values::feed-returns-in-Choice-clause-done
values::feed-returns-in-Choice-clause-done g t c =
    let is = choice_of_alternatives c.args.ty.now c.in-Choice.root c.in-Choice.ext c.as_slice-root-in-Choice.result.now c.in-Choice.is c.as_slice-root-in-Choice.ensures.value in
    let tk = taken_is c.take-node-in-Choice.result (nodes c.args.frames.now) (nodes c.take-node-in-Choice.new.self) c.take-node-in-Choice.ensures.some c.take-node-in-Choice.ensures.none c.take-node-in-Choice.ensures.empty in
    IfOk-weaker c.resume_choice.result _ _ (λ v s us k. rw is (s us (rw (is, tk) at k))) c.resume_choice.ensures.done

pub values::feed-returns-in-Choice-clause-stop : goal.values::feed-returns-in-Choice-clause-stop
values::feed-returns-in-Choice-clause-stop g t c =
    let is = choice_of_alternatives c.args.ty.now c.in-Choice.root c.in-Choice.ext c.as_slice-root-in-Choice.result.now c.in-Choice.is c.as_slice-root-in-Choice.ensures.value in
    let tk = taken_is c.take-node-in-Choice.result (nodes c.args.frames.now) (nodes c.take-node-in-Choice.new.self) c.take-node-in-Choice.ensures.some c.take-node-in-Choice.ensures.none c.take-node-in-Choice.ensures.empty in
    IfErr-weaker c.resume_choice.result _ _ (λ why s us k. rw is (s us (rw (is, tk) at k))) c.resume_choice.ensures.stop

pub values::feed-returns-in-Choice-clause-kept : goal.values::feed-returns-in-Choice-clause-kept
values::feed-returns-in-Choice-clause-kept g t c =
    let is = choice_of_alternatives c.args.ty.now c.in-Choice.root c.in-Choice.ext c.as_slice-root-in-Choice.result.now c.in-Choice.is c.as_slice-root-in-Choice.ensures.value in
    let tk = taken_is c.take-node-in-Choice.result (nodes c.args.frames.now) (nodes c.take-node-in-Choice.new.self) c.take-node-in-Choice.ensures.some c.take-node-in-Choice.ensures.none c.take-node-in-Choice.ensures.empty in
    IfErr-weaker c.resume_choice.result _ _ (λ why s us k. rw is (s us (rw (is, tk) at k))) c.resume_choice.ensures.kept

-- ---- an extension addition of a CHOICE

pub choices::resume_choice-feed_added-requires : goal.choices::resume_choice-feed_added-requires
choices::resume_choice-feed_added-requires g t c κs within =
    let us = c.requires.reached.0 in
    (search (rules, the_lemmas), (within.0, (within.1, (c.requires.at_unit, (c.requires.of_profile, (c.requires.parts, ((us ++ g.R.ReadLeaves.rules.to_units c.args.units.now, (rw c.in-Some-Added.index-is (addition_goes_on g.R.ReadLeaves.rules c.keep_laws.ensures g.R.FeedLeaves.fields g.R.ReadLeaves.ahead g.R.ReadLeaves.is_between c.args.root.now c.args.ext.now c.requires.of_profile c.in-Some-Added.index (nodes c.args.frames.now) us (g.R.ReadLeaves.rules.to_units c.args.units.now) (took_added g.R.ReadLeaves.rules c.keep_laws.ensures g.R.FeedLeaves.fields g.R.ReadLeaves.ahead g.R.ReadLeaves.is_between c.args.root.now c.args.ext.now c.requires.of_profile c.args.node c.in-Some-Added.field-0 c.in-Some-Added.index (nodes c.args.frames.now) us c.in-Some-Added.is c.in-Some-Added.field-0-is c.requires.reached.1)))), c.requires.few)))))))

pub choices::resume_choice-returns-in-Some-Added-clause-done : goal.choices::resume_choice-returns-in-Some-Added-clause-done
choices::resume_choice-returns-in-Some-Added-clause-done g t c =
    IfOk-weaker c.feed_added.result _ _ (λ v s us k. s (us ++ g.R.ReadLeaves.rules.to_units c.args.units.now) (rw c.in-Some-Added.index-is (addition_goes_on g.R.ReadLeaves.rules c.keep_laws.ensures g.R.FeedLeaves.fields g.R.ReadLeaves.ahead g.R.ReadLeaves.is_between c.args.root.now c.args.ext.now c.requires.of_profile c.in-Some-Added.index (nodes c.args.frames.now) us (g.R.ReadLeaves.rules.to_units c.args.units.now) (took_added g.R.ReadLeaves.rules c.keep_laws.ensures g.R.FeedLeaves.fields g.R.ReadLeaves.ahead g.R.ReadLeaves.is_between c.args.root.now c.args.ext.now c.requires.of_profile c.args.node c.in-Some-Added.field-0 c.in-Some-Added.index (nodes c.args.frames.now) us c.in-Some-Added.is c.in-Some-Added.field-0-is k)))) c.feed_added.ensures.done

pub choices::resume_choice-returns-in-Some-Added-clause-stop : goal.choices::resume_choice-returns-in-Some-Added-clause-stop
choices::resume_choice-returns-in-Some-Added-clause-stop g t c =
    IfErr-weaker c.feed_added.result _ _ (λ why s us k. s (us ++ g.R.ReadLeaves.rules.to_units c.args.units.now) (rw c.in-Some-Added.index-is (addition_goes_on g.R.ReadLeaves.rules c.keep_laws.ensures g.R.FeedLeaves.fields g.R.ReadLeaves.ahead g.R.ReadLeaves.is_between c.args.root.now c.args.ext.now c.requires.of_profile c.in-Some-Added.index (nodes c.args.frames.now) us (g.R.ReadLeaves.rules.to_units c.args.units.now) (took_added g.R.ReadLeaves.rules c.keep_laws.ensures g.R.FeedLeaves.fields g.R.ReadLeaves.ahead g.R.ReadLeaves.is_between c.args.root.now c.args.ext.now c.requires.of_profile c.args.node c.in-Some-Added.field-0 c.in-Some-Added.index (nodes c.args.frames.now) us c.in-Some-Added.is c.in-Some-Added.field-0-is k)))) c.feed_added.ensures.stop

pub choices::resume_choice-returns-in-Some-Added-clause-kept : goal.choices::resume_choice-returns-in-Some-Added-clause-kept
choices::resume_choice-returns-in-Some-Added-clause-kept g t c =
    IfErr-weaker c.feed_added.result _ _ (λ why s us k. s (us ++ g.R.ReadLeaves.rules.to_units c.args.units.now) (rw c.in-Some-Added.index-is (addition_goes_on g.R.ReadLeaves.rules c.keep_laws.ensures g.R.FeedLeaves.fields g.R.ReadLeaves.ahead g.R.ReadLeaves.is_between c.args.root.now c.args.ext.now c.requires.of_profile c.in-Some-Added.index (nodes c.args.frames.now) us (g.R.ReadLeaves.rules.to_units c.args.units.now) (took_added g.R.ReadLeaves.rules c.keep_laws.ensures g.R.FeedLeaves.fields g.R.ReadLeaves.ahead g.R.ReadLeaves.is_between c.args.root.now c.args.ext.now c.requires.of_profile c.args.node c.in-Some-Added.field-0 c.in-Some-Added.index (nodes c.args.frames.now) us c.in-Some-Added.is c.in-Some-Added.field-0-is k)))) c.feed_added.ensures.kept

pub choices::start_choice-feed_added-requires : goal.choices::start_choice-feed_added-requires
choices::start_choice-feed_added-requires g t c κs within =
    let told : Spells g.R.ReadLeaves.rules.ruling.fielding (IndexOf g.R.ReadLeaves.rules (length c.args.root.now) (added_alternatives (more_alternatives_of c.args.ext.now))) (inr c.in-Ok-Added.index) (g.R.ReadLeaves.rules.to_units c.args.begun ++ g.R.ReadLeaves.rules.to_units c.args.units.now) (g.R.ReadLeaves.rules.to_units c.feed_leaf.new.units) = rw (c.addition_count.ensures, ← more_count c.args.ext.now, c.in-Ok-Added.field-0-is) at c.in-Ok-Added.ensures.done in
    (search (rules, the_lemmas), (within.0, (within.1, (c.in-Ok-Added.ensures.at_unit, (c.requires.of_profile, (c.requires.parts, (((g.R.ReadLeaves.rules.to_units c.args.begun ++ g.R.ReadLeaves.rules.to_units c.args.units.now), (rw c.in-Ok-Added.index-is (addition_starts g.R.ReadLeaves.rules c.keep_laws.ensures g.R.FeedLeaves.fields g.R.ReadLeaves.ahead g.R.ReadLeaves.is_between c.args.root.now c.args.ext.now c.requires.of_profile c.in-Ok-Added.index (nodes c.args.frames.now) (g.R.ReadLeaves.rules.to_units c.args.begun ++ g.R.ReadLeaves.rules.to_units c.args.units.now) (g.R.ReadLeaves.rules.to_units c.feed_leaf.new.units) told c.requires.empty))), still_below c.in-Ok-Added.ensures.ticked c.requires.few)))))))

pub choices::start_choice-returns-in-Ok-Added-clause-done : goal.choices::start_choice-returns-in-Ok-Added-clause-done
choices::start_choice-returns-in-Ok-Added-clause-done g t c =
    let told : Spells g.R.ReadLeaves.rules.ruling.fielding (IndexOf g.R.ReadLeaves.rules (length c.args.root.now) (added_alternatives (more_alternatives_of c.args.ext.now))) (inr c.in-Ok-Added.index) (g.R.ReadLeaves.rules.to_units c.args.begun ++ g.R.ReadLeaves.rules.to_units c.args.units.now) (g.R.ReadLeaves.rules.to_units c.feed_leaf.new.units) = rw (c.addition_count.ensures, ← more_count c.args.ext.now, c.in-Ok-Added.field-0-is) at c.in-Ok-Added.ensures.done in
    IfOk-weaker c.feed_added.result _ _ (λ v s. s (g.R.ReadLeaves.rules.to_units c.args.begun ++ g.R.ReadLeaves.rules.to_units c.args.units.now) (rw c.in-Ok-Added.index-is (addition_starts g.R.ReadLeaves.rules c.keep_laws.ensures g.R.FeedLeaves.fields g.R.ReadLeaves.ahead g.R.ReadLeaves.is_between c.args.root.now c.args.ext.now c.requires.of_profile c.in-Ok-Added.index (nodes c.args.frames.now) (g.R.ReadLeaves.rules.to_units c.args.begun ++ g.R.ReadLeaves.rules.to_units c.args.units.now) (g.R.ReadLeaves.rules.to_units c.feed_leaf.new.units) told c.requires.empty))) c.feed_added.ensures.done

pub choices::start_choice-returns-in-Ok-Added-clause-stop : goal.choices::start_choice-returns-in-Ok-Added-clause-stop
choices::start_choice-returns-in-Ok-Added-clause-stop g t c =
    let told : Spells g.R.ReadLeaves.rules.ruling.fielding (IndexOf g.R.ReadLeaves.rules (length c.args.root.now) (added_alternatives (more_alternatives_of c.args.ext.now))) (inr c.in-Ok-Added.index) (g.R.ReadLeaves.rules.to_units c.args.begun ++ g.R.ReadLeaves.rules.to_units c.args.units.now) (g.R.ReadLeaves.rules.to_units c.feed_leaf.new.units) = rw (c.addition_count.ensures, ← more_count c.args.ext.now, c.in-Ok-Added.field-0-is) at c.in-Ok-Added.ensures.done in
    IfErr-weaker c.feed_added.result _ _ (λ why s. s (g.R.ReadLeaves.rules.to_units c.args.begun ++ g.R.ReadLeaves.rules.to_units c.args.units.now) (rw c.in-Ok-Added.index-is (addition_starts g.R.ReadLeaves.rules c.keep_laws.ensures g.R.FeedLeaves.fields g.R.ReadLeaves.ahead g.R.ReadLeaves.is_between c.args.root.now c.args.ext.now c.requires.of_profile c.in-Ok-Added.index (nodes c.args.frames.now) (g.R.ReadLeaves.rules.to_units c.args.begun ++ g.R.ReadLeaves.rules.to_units c.args.units.now) (g.R.ReadLeaves.rules.to_units c.feed_leaf.new.units) told c.requires.empty))) c.feed_added.ensures.stop

pub choices::start_choice-returns-in-Ok-Added-clause-kept : goal.choices::start_choice-returns-in-Ok-Added-clause-kept
choices::start_choice-returns-in-Ok-Added-clause-kept g t c =
    let told : Spells g.R.ReadLeaves.rules.ruling.fielding (IndexOf g.R.ReadLeaves.rules (length c.args.root.now) (added_alternatives (more_alternatives_of c.args.ext.now))) (inr c.in-Ok-Added.index) (g.R.ReadLeaves.rules.to_units c.args.begun ++ g.R.ReadLeaves.rules.to_units c.args.units.now) (g.R.ReadLeaves.rules.to_units c.feed_leaf.new.units) = rw (c.addition_count.ensures, ← more_count c.args.ext.now, c.in-Ok-Added.field-0-is) at c.in-Ok-Added.ensures.done in
    IfErr-weaker c.feed_added.result _ _ (λ why s. s (g.R.ReadLeaves.rules.to_units c.args.begun ++ g.R.ReadLeaves.rules.to_units c.args.units.now) (rw c.in-Ok-Added.index-is (addition_starts g.R.ReadLeaves.rules c.keep_laws.ensures g.R.FeedLeaves.fields g.R.ReadLeaves.ahead g.R.ReadLeaves.is_between c.args.root.now c.args.ext.now c.requires.of_profile c.in-Ok-Added.index (nodes c.args.frames.now) (g.R.ReadLeaves.rules.to_units c.args.begun ++ g.R.ReadLeaves.rules.to_units c.args.units.now) (g.R.ReadLeaves.rules.to_units c.feed_leaf.new.units) told c.requires.empty))) c.feed_added.ensures.kept

pub choices::feed_added-unreachable-requires : goal.choices::feed_added-unreachable-requires
choices::feed_added-unreachable-requires g t c =
    no_addition g.R.ReadLeaves.rules c.keep_laws.ensures g.R.FeedLeaves.fields g.R.ReadLeaves.ahead g.R.ReadLeaves.is_between c.args.root.now c.args.ext.now c.requires.of_profile c.args.index (nodes c.args.frames.now) c.requires.reached.0 (g.R.ReadLeaves.rules.to_units c.args.units.now) c.in_default.is c.requires.reached.1

pub choices::feed_added-bounds-additions-index : goal.choices::feed_added-bounds-additions-index
choices::feed_added-bounds-additions-index g t c =
    rw c.as_slice-additions.ensures.value (addition_inside g.R.ReadLeaves.rules c.keep_laws.ensures g.R.FeedLeaves.fields g.R.ReadLeaves.ahead g.R.ReadLeaves.is_between c.args.root.now c.args.ext.now c.requires.of_profile c.in-Some.additions c.in-Some.is c.args.index (nodes c.args.frames.now) c.requires.reached.0 (g.R.ReadLeaves.rules.to_units c.args.units.now) c.requires.reached.1)

pub choices::feed_added-offset_bounds-additions-index : goal.choices::feed_added-offset_bounds-additions-index
choices::feed_added-offset_bounds-additions-index g t c =
    let few : length c.args.root.now + c.args.index ≤ most_alternatives = few_tags g.R.ReadLeaves.rules c.keep_laws.ensures g.R.FeedLeaves.fields g.R.ReadLeaves.ahead g.R.ReadLeaves.is_between c.args.root.now c.args.ext.now c.requires.of_profile c.in-Some.additions c.in-Some.is c.args.index (nodes c.args.frames.now) c.requires.reached.0 (g.R.ReadLeaves.rules.to_units c.args.units.now) c.requires.reached.1 in
    omega (arith, few)

pub choices::feed_added-overflow_add-result : goal.choices::feed_added-overflow_add-result
choices::feed_added-overflow_add-result g t c =
    let few : length c.args.root.now + c.args.index ≤ most_alternatives = few_tags g.R.ReadLeaves.rules c.keep_laws.ensures g.R.FeedLeaves.fields g.R.ReadLeaves.ahead g.R.ReadLeaves.is_between c.args.root.now c.args.ext.now c.requires.of_profile c.in-Some.additions c.in-Some.is c.args.index (nodes c.args.frames.now) c.requires.reached.0 (g.R.ReadLeaves.rules.to_units c.args.units.now) c.requires.reached.1 in
    omega (arith, few)

pub choices::feed_added-overflow_cast-result : goal.choices::feed_added-overflow_cast-result
choices::feed_added-overflow_cast-result g t c =
    let few : length c.args.root.now + c.args.index ≤ most_alternatives = few_tags g.R.ReadLeaves.rules c.keep_laws.ensures g.R.FeedLeaves.fields g.R.ReadLeaves.ahead g.R.ReadLeaves.is_between c.args.root.now c.args.ext.now c.requires.of_profile c.in-Some.additions c.in-Some.is c.args.index (nodes c.args.frames.now) c.requires.reached.0 (g.R.ReadLeaves.rules.to_units c.args.units.now) c.requires.reached.1 in
    omega (arith, few)

pub choices::feed_added-feed_open_field-requires : goal.choices::feed_added-feed_open_field-requires
choices::feed_added-feed_open_field-requires g t c κs within =
    let inside : c.args.index < length c.as_slice-additions.result.now = rw c.as_slice-additions.ensures.value (addition_inside g.R.ReadLeaves.rules c.keep_laws.ensures g.R.FeedLeaves.fields g.R.ReadLeaves.ahead g.R.ReadLeaves.is_between c.args.root.now c.args.ext.now c.requires.of_profile c.in-Some.additions c.in-Some.is c.args.index (nodes c.args.frames.now) c.requires.reached.0 (g.R.ReadLeaves.rules.to_units c.args.units.now) c.requires.reached.1) in
    let small = added_type_smaller c.args._ty.now c.requires.parts.alternatives c.args.ext.now c.in-Some.additions c.as_slice-additions.result.now c.args.index c.index-additions-index.result c.requires.parts.is c.in-Some.is c.as_slice-additions.ensures.value inside c.index-additions-index.is in
    let x = addition_ahead g.R.ReadLeaves.rules c.keep_laws.ensures g.R.FeedLeaves.fields g.R.ReadLeaves.ahead g.R.ReadLeaves.is_between c.args.root.now c.args.ext.now c.requires.of_profile c.in-Some.additions c.in-Some.is c.args.index (nodes c.args.frames.now) c.index-additions-index.result c.requires.reached.0 (g.R.ReadLeaves.rules.to_units c.args.units.now) (rw c.as_slice-additions.ensures.value at c.index-additions-index.is) c.requires.reached.1 in
    (search (rules, the_lemmas, small), (within.0, (within.1, (c.requires.at_unit, (x.of_profile, ((x.come, x.took), c.requires.few))))))

pub choices::feed_added-returns-in-Ok-new-clause-done : goal.choices::feed_added-returns-in-Ok-new-clause-done
choices::feed_added-returns-in-Ok-new-clause-done g t c =
    λ all h.
    let x = addition_ahead g.R.ReadLeaves.rules c.keep_laws.ensures g.R.FeedLeaves.fields g.R.ReadLeaves.ahead g.R.ReadLeaves.is_between c.args.root.now c.args.ext.now c.requires.of_profile c.in-Some.additions c.in-Some.is c.args.index (nodes c.args.frames.now) c.index-additions-index.result all (g.R.ReadLeaves.rules.to_units c.args.units.now) (rw c.as_slice-additions.ensures.value at c.index-additions-index.is) h in
    rw (datum_of-Choice (length c.args.root.now + c.args.index) c.in-Ok-new.value, c.in-Ok-new.ensures.ok) (x.leads.done (datum_of c.in-Ok.value) (g.R.ReadLeaves.rules.to_units c.feed_open_field.new.units) (c.in-Ok.ensures.done x.come x.took))

pub choices::feed_added-returns-in-Ok-put-clause-stop : goal.choices::feed_added-returns-in-Ok-put-clause-stop
choices::feed_added-returns-in-Ok-put-clause-stop g t c =
    λ all h.
    let x = addition_ahead g.R.ReadLeaves.rules c.keep_laws.ensures g.R.FeedLeaves.fields g.R.ReadLeaves.ahead g.R.ReadLeaves.is_between c.args.root.now c.args.ext.now c.requires.of_profile c.in-Some.additions c.in-Some.is c.args.index (nodes c.args.frames.now) c.index-additions-index.result all (g.R.ReadLeaves.rules.to_units c.args.units.now) (rw c.as_slice-additions.ensures.value at c.index-additions-index.is) h in
    let a : Stops g.R.ReadLeaves.rules.ruling.fielding (OpenOf g.R.ReadLeaves.rules (shape_of c.index-additions-index.result.ty)) (x.come ++ g.R.ReadLeaves.rules.to_units c.args.units.now) stop.Short = rw c.in-Err-Short.field-0-is at (c.in-Err-Short.ensures.stop x.come x.took) in
    stops_by stop.Short x.leads.stops a

pub choices::feed_added-returns-in-Err-Refused-clause-stop : goal.choices::feed_added-returns-in-Err-Refused-clause-stop
choices::feed_added-returns-in-Err-Refused-clause-stop g t c =
    λ all h.
    let x = addition_ahead g.R.ReadLeaves.rules c.keep_laws.ensures g.R.FeedLeaves.fields g.R.ReadLeaves.ahead g.R.ReadLeaves.is_between c.args.root.now c.args.ext.now c.requires.of_profile c.in-Some.additions c.in-Some.is c.args.index (nodes c.args.frames.now) c.index-additions-index.result all (g.R.ReadLeaves.rules.to_units c.args.units.now) (rw c.as_slice-additions.ensures.value at c.index-additions-index.is) h in
    let w = stop.Refused c.in-Err-Refused.left c.in-Err-Refused.why in
    let a : Stops g.R.ReadLeaves.rules.ruling.fielding (OpenOf g.R.ReadLeaves.rules (shape_of c.index-additions-index.result.ty)) (x.come ++ g.R.ReadLeaves.rules.to_units c.args.units.now) w = rw c.in-Err-Refused.field-0-is at (c.in-Err-Refused.ensures.stop x.come x.took) in
    rw (c.in-Err-Refused.left-is, c.in-Err-Refused.why-is) (stops_by w x.leads.stops a)

pub choices::feed_added-returns-in-Ok-put-clause-kept : goal.choices::feed_added-returns-in-Ok-put-clause-kept
choices::feed_added-returns-in-Ok-put-clause-kept g t c =
    λ all h.
    let x = addition_ahead g.R.ReadLeaves.rules c.keep_laws.ensures g.R.FeedLeaves.fields g.R.ReadLeaves.ahead g.R.ReadLeaves.is_between c.args.root.now c.args.ext.now c.requires.of_profile c.in-Some.additions c.in-Some.is c.args.index (nodes c.args.frames.now) c.index-additions-index.result all (g.R.ReadLeaves.rules.to_units c.args.units.now) (rw c.as_slice-additions.ensures.value at c.index-additions-index.is) h in
    let took : OctetsTook g.R.ReadLeaves.rules g.R.FeedLeaves.fields.open_type g.R.ReadLeaves.ahead g.R.ReadLeaves.is_between (nodes c.feed_open_field.new.frames) (x.come ++ g.R.ReadLeaves.rules.to_units c.args.units.now) = rw c.in-Err-Short.field-0-is at (c.in-Err-Short.ensures.kept x.come x.took) in
    rw c.in-Ok-put.ensures (x.kept (nodes c.feed_open_field.new.frames) [] refl took)

-- ---- open type fields

pub open_fields::feed_open_field-returns-in_err-octets-clause-stop : goal.open_fields::feed_open_field-returns-in_err-octets-clause-stop
open_fields::feed_open_field-returns-in_err-octets-clause-stop g t c =
    let p = err_from_is_err_and c.from_residual.result c.from_residual.ensures.1 in
    rw (p.1, p.2) (λ us k. stops_by _ (stops_on (leads_same g.R.ReadLeaves.rules.ruling.fielding (us ++ g.R.ReadLeaves.rules.to_units c.args.units.now) c.keep_field_laws.ensures.same).stops (octets_stop g.R.ReadLeaves.rules c.keep_laws.ensures (shape_of c.args.ty.now) c.requires.of_profile (us ++ g.R.ReadLeaves.rules.to_units c.args.units.now))) (c.in_err-octets.ensures.stop us k))

pub open_fields::feed_open_field-returns-in_err-octets-clause-kept : goal.open_fields::feed_open_field-returns-in_err-octets-clause-kept
open_fields::feed_open_field-returns-in_err-octets-clause-kept g t c =
    let p = err_from_is_err_and c.from_residual.result c.from_residual.ensures.1 in
    rw (p.1, p.2) c.in_err-octets.ensures.kept

pub open_fields::feed_open_field-read_content-value-requires : goal.open_fields::feed_open_field-read_content-value-requires
open_fields::feed_open_field-read_content-value-requires g t c κs within =
    (search (rules, the_lemmas), (within.0, (within.1, (c.requires.of_profile, (rw c.as_slice.ensures.value (content_of (same_spells c.keep_field_laws.ensures.same (c.in_ok-octets.ensures.done c.requires.reached.0 c.requires.reached.1))), (c.none-level.ensures.taken, c.none-level.ensures.inside))))))

pub open_fields::feed_open_field-returns-clause-done : goal.open_fields::feed_open_field-returns-clause-done
open_fields::feed_open_field-returns-clause-done g t c =
    IfOk-weaker c.read_content-value.result _ _ (λ v s us k. s (us ++ g.R.ReadLeaves.rules.to_units c.args.units.now) (g.R.ReadLeaves.rules.to_units c.feed_octets.new.units) (rw (← c.as_slice.ensures.value) at (same_spells c.keep_field_laws.ensures.same (c.in_ok-octets.ensures.done us k)))) c.read_content-value.ensures.done

pub open_fields::feed_open_field-returns-clause-stop : goal.open_fields::feed_open_field-returns-clause-stop
open_fields::feed_open_field-returns-clause-stop g t c =
    IfErr-weaker c.read_content-value.result _ _ (λ why s us k. s (us ++ g.R.ReadLeaves.rules.to_units c.args.units.now) (g.R.ReadLeaves.rules.to_units c.feed_octets.new.units) (rw (← c.as_slice.ensures.value) at (same_spells c.keep_field_laws.ensures.same (c.in_ok-octets.ensures.done us k))) (ap (λ (xs : List ℕ). length (g.R.ReadLeaves.rules.to_units xs)) (sym c.ahead.ensures) ∙ sym c.units_left-left.ensures)) c.read_content-value.ensures.stop

pub open_fields::feed_open_field-returns-clause-after : goal.open_fields::feed_open_field-returns-clause-after
open_fields::feed_open_field-returns-clause-after g t c =
    IfErr-weaker c.read_content-value.result _ _ (λ why s. stands_after g.R.ReadLeaves.rules c.feed_octets.new.units c.units_left-left.result why (ap (λ (xs : List ℕ). length (g.R.ReadLeaves.rules.to_units xs)) (sym c.ahead.ensures) ∙ sym c.units_left-left.ensures) s) c.read_content-value.ensures.after

pub open_fields::feed_open_field-returns-clause-kept : goal.open_fields::feed_open_field-returns-clause-kept
open_fields::feed_open_field-returns-clause-kept g t c =
    IfErr-weaker c.read_content-value.result _ _ (λ why s us k. keeps_none g.R.ReadLeaves.rules g.R.FeedLeaves.fields.open_type g.R.ReadLeaves.ahead g.R.ReadLeaves.is_between (nodes c.feed_octets.new.frames) (us ++ g.R.ReadLeaves.rules.to_units c.args.units.now) c.units_left-left.result why s) c.read_content-value.ensures.after

pub open_fields::read_content-read_complete-requires : goal.open_fields::read_content-read_complete-requires
open_fields::read_content-read_complete-requires g t c κs within =
    let os = c.args.octets.now in
    let held : AreOctets os = c.requires.content.2 in
    let over : g.R.ReadLeaves.rules.to_units c.over-units.result ≡ g.R.ReadLeaves.rules.ruling.units os = ap g.R.ReadLeaves.rules.to_units c.over-units.ensures ∙ c.keep_laws.ensures.over os held in
    let many : length (g.R.ReadLeaves.rules.to_units c.over-units.result) ≡ g.R.ReadLeaves.rules.octet_units * length os = ap length over ∙ c.keep_laws.ensures.count os in
    let fill : length (g.R.ReadLeaves.rules.to_units c.over-units.result) % g.R.ReadLeaves.rules.octet_units ≡ 0 = rw over (units_fill g.R.ReadLeaves.rules c.keep_laws.ensures os) in
    (search (rules, the_lemmas), (within.0, (within.1, (rw c.over-units.ensures (c.keep_laws.ensures.begin os held), (c.requires.of_profile, (fill, few_units g.R.ReadLeaves.rules c.keep_laws.ensures c.args.ticks.now.taken c.requires.none (length (g.R.ReadLeaves.rules.to_units c.over-units.result)) os many c.requires.content.1))))))

pub open_fields::read_content-returns-in-Ok-clause-done : goal.open_fields::read_content-returns-in-Ok-clause-done
open_fields::read_content-returns-in-Ok-clause-done g t c =
    λ us r h.
    let os = c.args.octets.now in
    let held : AreOctets os = c.requires.content.2 in
    let over : g.R.ReadLeaves.rules.to_units c.over-units.result ≡ g.R.ReadLeaves.rules.ruling.units os = ap g.R.ReadLeaves.rules.to_units c.over-units.ensures ∙ c.keep_laws.ensures.over os held in
    let read = rw over at c.in-Ok.ensures.done in
    let none : (g.R.ReadLeaves.rules.to_units c.read_complete.new.units) ≡ [] = length_none _ (sym (c.units_left.ensures ∙ ap (λ (xs : List ℕ). length (g.R.ReadLeaves.rules.to_units xs)) c.ahead.ensures) ∙ c.if-units_left-eq0.true) in
    value_held g.R.ReadLeaves.rules c.keep_laws.ensures (shape_of c.args.ty.now) c.requires.of_profile h read none

pub open_fields::read_content-returns-in-Ok-2-clause-stop : goal.open_fields::read_content-returns-in-Ok-2-clause-stop
open_fields::read_content-returns-in-Ok-2-clause-stop g t c =
    λ us r h e.
    let os = c.args.octets.now in
    let held : AreOctets os = c.requires.content.2 in
    let over : g.R.ReadLeaves.rules.to_units c.over-units.result ≡ g.R.ReadLeaves.rules.ruling.units os = ap g.R.ReadLeaves.rules.to_units c.over-units.ensures ∙ c.keep_laws.ensures.over os held in
    let read = rw over at c.in-Ok-2.ensures.done in
    let more : (g.R.ReadLeaves.rules.to_units c.read_complete.new.units) ≡ [] → ⊥ = λ z. c.if-units_left-eq0.false (c.units_left.ensures ∙ ap (λ (xs : List ℕ). length (g.R.ReadLeaves.rules.to_units xs)) c.ahead.ensures ∙ ap length z) in
    rw (sym e) (record { told = more_held g.R.ReadLeaves.rules c.keep_laws.ensures (shape_of c.args.ty.now) c.requires.of_profile h read more })

pub open_fields::read_content-returns-in-Err-Short-clause-stop : goal.open_fields::read_content-returns-in-Err-Short-clause-stop
open_fields::read_content-returns-in-Err-Short-clause-stop g t c =
    λ us r h e.
    let os = c.args.octets.now in
    let held : AreOctets os = c.requires.content.2 in
    let over : g.R.ReadLeaves.rules.to_units c.over-units.result ≡ g.R.ReadLeaves.rules.ruling.units os = ap g.R.ReadLeaves.rules.to_units c.over-units.ensures ∙ c.keep_laws.ensures.over os held in
    let stopped = rw over at c.in-Err-Short.ensures.stop in
    let told = none_held g.R.ReadLeaves.rules c.keep_laws.ensures (shape_of c.args.ty.now) c.requires.of_profile c.in-Err-Short.field-0 (λ z. cc) h stopped in
    rw (sym e) (record { told = told })

pub open_fields::read_content-returns-in-Err-Refused-clause-stop : goal.open_fields::read_content-returns-in-Err-Refused-clause-stop
open_fields::read_content-returns-in-Err-Refused-clause-stop g t c =
    λ us r h e.
    let os = c.args.octets.now in
    let held : AreOctets os = c.requires.content.2 in
    let over : g.R.ReadLeaves.rules.to_units c.over-units.result ≡ g.R.ReadLeaves.rules.ruling.units os = ap g.R.ReadLeaves.rules.to_units c.over-units.ensures ∙ c.keep_laws.ensures.over os held in
    let stopped = rw over at c.in-Err-Refused.ensures.stop in
    let told = none_held g.R.ReadLeaves.rules c.keep_laws.ensures (shape_of c.args.ty.now) c.requires.of_profile c.in-Err-Refused.field-0 (λ z. cc) h stopped in
    rw (sym e) (record { told = told })

pub open_fields::read_complete-feed-requires : goal.open_fields::read_complete-feed-requires
open_fields::read_complete-feed-requires g t c κs within =
    (search (rules, the_lemmas), (within.0, (within.1, (c.requires.at_unit, (c.requires.of_profile, (([], rw c.none-frames.ensures refl), c.requires.few))))))

pub open_fields::read_complete-returns-in_err-value-clause-stop : goal.open_fields::read_complete-returns-in_err-value-clause-stop
open_fields::read_complete-returns-in_err-value-clause-stop g t c =
    let p = err_from_is_err_and c.from_residual.result c.from_residual.ensures.1 in
    rw (p.1, p.2) (stops_by _ (value_stops g.R.ReadLeaves.rules c.keep_laws.ensures (shape_of c.args.ty.now) c.requires.of_profile (g.R.ReadLeaves.rules.to_units c.args.units.now)) (c.in_err-value.ensures.stop [] (rw c.none-frames.ensures refl)))

pub open_fields::read_complete-read_padding-requires : goal.open_fields::read_complete-read_padding-requires
open_fields::read_complete-read_padding-requires g t c =
    let g0 = (c.units_left-given.ensures ∙ ap (λ (xs : List ℕ). length (g.R.ReadLeaves.rules.to_units xs)) c.ahead.ensures) in
    record { at_unit = rw c.ahead-ahead.ensures c.in_ok-value.ensures.at_unit; more = rw (g0, c.ahead-ahead.ensures) (left_fewer (c.in_ok-value.ensures.done [] (rw c.none-frames.ensures refl))); octets = rw g0 c.requires.octets }

pub open_fields::read_complete-returns-in_err-read_padding-clause-stop : goal.open_fields::read_complete-returns-in_err-read_padding-clause-stop
open_fields::read_complete-returns-in_err-read_padding-clause-stop g t c =
    let p = err_from_is_err_and c.from_residual-in_err-read_padding.result c.from_residual-in_err-read_padding.ensures.1 in
    let lead = fill_leads g.R.ReadLeaves.rules c.keep_laws.ensures (shape_of c.args.ty.now) c.requires.of_profile (datum_of c.in_ok-value.value) (g.R.ReadLeaves.rules.to_units c.args.units.now) (g.R.ReadLeaves.rules.to_units c.feed.new.units) (c.in_ok-value.ensures.done [] (rw c.none-frames.ensures refl)) in
    rw (p.1, p.2) (stops_by _ lead.stops (rw ((c.units_left-given.ensures ∙ ap (λ (xs : List ℕ). length (g.R.ReadLeaves.rules.to_units xs)) c.ahead.ensures), c.ahead-ahead.ensures) at c.in_err-read_padding.ensures.stop))

pub open_fields::read_complete-take_to-requires : goal.open_fields::read_complete-take_to-requires
open_fields::read_complete-take_to-requires g t c =
    record { at_unit = c.in_ok-value.ensures.at_unit; ahead = c.in_ok-read_padding.ensures.at_unit; after = left_fewer (rw ((c.units_left-given.ensures ∙ ap (λ (xs : List ℕ). length (g.R.ReadLeaves.rules.to_units xs)) c.ahead.ensures), c.ahead-ahead.ensures) at c.in_ok-read_padding.ensures.done); few = still_below c.in_ok-value.ensures.ticked c.requires.few }

pub open_fields::read_complete-returns-clause-done : goal.open_fields::read_complete-returns-clause-done
open_fields::read_complete-returns-clause-done g t c =
    let lead = fill_leads g.R.ReadLeaves.rules c.keep_laws.ensures (shape_of c.args.ty.now) c.requires.of_profile (datum_of c.in_ok-value.value) (g.R.ReadLeaves.rules.to_units c.args.units.now) (g.R.ReadLeaves.rules.to_units c.feed.new.units) (c.in_ok-value.ensures.done [] (rw c.none-frames.ensures refl)) in
    rw c.take_to.ensures.left (lead.done c.in_ok-read_padding.field-0 (g.R.ReadLeaves.rules.to_units c.read_padding.new.units) (rw ((c.units_left-given.ensures ∙ ap (λ (xs : List ℕ). length (g.R.ReadLeaves.rules.to_units xs)) c.ahead.ensures), c.ahead-ahead.ensures) at c.in_ok-read_padding.ensures.done))

pub sequences::feed_sequence-returns-in-Ok-clause-stop : goal.sequences::feed_sequence-returns-in-Ok-clause-stop
sequences::feed_sequence-returns-in-Ok-clause-stop g t c =
    IfErr-weaker c.end_sequence.result _ _ (λ why s all h. s all (c.in-Ok.ensures.done (more_fields_of c.args.ext.now) c.requires.of_profile all h)) c.end_sequence.ensures.stop

pub sequences::feed_sequence-returns-in-Ok-clause-kept : goal.sequences::feed_sequence-returns-in-Ok-clause-kept
sequences::feed_sequence-returns-in-Ok-clause-kept g t c =
    IfErr-weaker c.end_sequence.result _ _ (λ why s all h. s all (c.in-Ok.ensures.done (more_fields_of c.args.ext.now) c.requires.of_profile all h)) c.end_sequence.ensures.kept

pub sequences::feed_sequence-feed_components-requires : goal.sequences::feed_sequence-feed_components-requires
sequences::feed_sequence-feed_components-requires g t c κs within =
    let small = components_smaller c.args._ty.now c.requires.parts.components c.args.ext.now c.args.root.now c.requires.parts.is c.requires.parts.root_is in
    (search (rules, the_lemmas, small), (within.0, (within.1, (c.requires.at_unit, (((more_fields_of c.args.ext.now), c.requires.of_profile, c.requires.reached.0, c.requires.reached.1), c.requires.few)))))

pub sequences::feed_sequence-end_sequence-requires : goal.sequences::feed_sequence-end_sequence-requires
sequences::feed_sequence-end_sequence-requires g t c κs within =
    let all = c.requires.reached.0 in
    let k = c.in-Ok.ensures.done (more_fields_of c.args.ext.now) c.requires.of_profile all c.requires.reached.1 in
    let over = none_left c.args.root.now (length c.feed_components.new.read.entries.items) c.in-Ok.ensures.over in
    let none = root_emptied g.R.ReadLeaves.rules c.keep_laws.ensures g.R.FeedLeaves.fields g.R.ReadLeaves.ahead g.R.ReadLeaves.is_between (fields_seen c.args.root.now) (more_fields_of c.args.ext.now) c.requires.of_profile c.feed_components.new.read (nodes c.feed_components.new.frames) all (g.R.ReadLeaves.rules.to_units c.feed_components.new.units) over k in
    (search (rules, the_lemmas), (within.0, (within.1, (c.in-Ok.ensures.at_unit, (c.requires.of_profile, (c.requires.parts, (none, (c.in-Ok.ensures.over, ((all, k), still_below c.in-Ok.ensures.ticked c.requires.few)))))))))

-- ---- the extension additions

pub additions::feed_additions-returns-in-Ok-clause-done : goal.additions::feed_additions-returns-in-Ok-clause-done
additions::feed_additions-returns-in-Ok-clause-done g t c =
    λ all h.
    let q = c.feed_open_fields.new.read in
    rw (datum_of-Seq q.entries) (additions_end g.R.ReadLeaves.rules c.keep_laws.ensures c.keep_feed_laws.ensures g.R.FeedLeaves.fields g.R.ReadLeaves.ahead g.R.ReadLeaves.is_between (fields_seen c.args.root.now) c.args.additions.now c.requires.of_profile q (nodes c.feed_open_fields.new.frames) all (g.R.ReadLeaves.rules.to_units c.feed_open_fields.new.units) c.in-Ok.ensures.over (c.in-Ok.ensures.done all h))

pub additions::feed_additions-returns-in-Ok-clause-emptied : goal.additions::feed_additions-returns-in-Ok-clause-emptied
additions::feed_additions-returns-in-Ok-clause-emptied g t c =
    additions_emptied g.R.ReadLeaves.rules c.keep_laws.ensures c.keep_feed_laws.ensures g.R.FeedLeaves.fields g.R.ReadLeaves.ahead g.R.ReadLeaves.is_between (fields_seen c.args.root.now) c.args.additions.now c.requires.of_profile c.feed_open_fields.new.read (nodes c.feed_open_fields.new.frames) c.requires.reached.0 (g.R.ReadLeaves.rules.to_units c.feed_open_fields.new.units) c.in-Ok.ensures.over (c.in-Ok.ensures.done c.requires.reached.0 c.requires.reached.1)

pub additions::feed_additions-returns-in-Ok-put-clause-stop : goal.additions::feed_additions-returns-in-Ok-put-clause-stop
additions::feed_additions-returns-in-Ok-put-clause-stop g t c =
    λ all h.
    let a : Stops g.R.ReadLeaves.rules.ruling.fielding (ValuesOf g.R.ReadLeaves.rules (sequence (fields_seen c.args.root.now) (marked_seen c.args.additions.now))) all stop.Short = rw c.in-Err-Short.field-0-is at (c.in-Err-Short.ensures.stop all h) in
    a

pub additions::feed_additions-returns-in-Err-Refused-clause-stop : goal.additions::feed_additions-returns-in-Err-Refused-clause-stop
additions::feed_additions-returns-in-Err-Refused-clause-stop g t c =
    λ all h.
    let a : Stops g.R.ReadLeaves.rules.ruling.fielding (ValuesOf g.R.ReadLeaves.rules (sequence (fields_seen c.args.root.now) (marked_seen c.args.additions.now))) all (stop.Refused c.in-Err-Refused.left c.in-Err-Refused.why) = rw c.in-Err-Refused.field-0-is at (c.in-Err-Refused.ensures.stop all h) in
    rw (c.in-Err-Refused.left-is, c.in-Err-Refused.why-is) a

pub additions::feed_additions-returns-in-Ok-put-clause-kept : goal.additions::feed_additions-returns-in-Ok-put-clause-kept
additions::feed_additions-returns-in-Ok-put-clause-kept g t c =
    λ all h.
    let none : (g.R.ReadLeaves.rules.to_units c.feed_open_fields.new.units) ≡ [] = rw c.in-Err-Short.field-0-is at c.in-Err-Short.ensures.after in
    let kept : AdditionsReached g.R.ReadLeaves.rules g.R.FeedLeaves.fields g.R.ReadLeaves.ahead g.R.ReadLeaves.is_between (fields_seen c.args.root.now) (marked_seen c.args.additions.now) c.feed_open_fields.new.read (nodes c.feed_open_fields.new.frames) all (g.R.ReadLeaves.rules.to_units c.feed_open_fields.new.units) = c.feed_open_fields.ensures.kept (cc (c.in-Err-Short.is, c.in-Err-Short.field-0-is)) all h in
    rw c.in-Ok-put.ensures (subst (λ (xs : List ℕ). AdditionsReached g.R.ReadLeaves.rules g.R.FeedLeaves.fields g.R.ReadLeaves.ahead g.R.ReadLeaves.is_between (fields_seen c.args.root.now) (marked_seen c.args.additions.now) c.feed_open_fields.new.read (nodes c.feed_open_fields.new.frames) all xs) none kept)

pub additions::feed_bitmap-feed_leaf-requires-clause-good : goal.additions::feed_bitmap-feed_leaf-requires-clause-good
additions::feed_bitmap-feed_leaf-requires-clause-good g t c =
    let some = some_present g.R.ReadLeaves.rules (fields_seen c.args.root.now) c.args.additions.now (entries_seen c.args.part.entries.items) c.requires.reached.0 _ c.requires.reached.1.root_read in
    let few : length c.args.additions.now ≤ 64 = few_added c.args.additions.now refl c.requires.of_profile in
    (some, few)

pub additions::feed_bitmap-feed_additions-requires : goal.additions::feed_bitmap-feed_additions-requires
additions::feed_bitmap-feed_additions-requires g t c κs within =
    let all = c.requires.reached.0 in
    let h = c.requires.reached.1 in
    let few : length c.args.additions.now ≤ 64 = few_added c.args.additions.now refl c.requires.of_profile in
    (search (rules, the_lemmas), (within.0, (within.1, (c.in-Ok.ensures.at_unit, (c.requires.of_profile, ((all, (additions_start g.R.ReadLeaves.rules c.keep_laws.ensures c.keep_feed_laws.ensures g.R.FeedLeaves.fields g.R.ReadLeaves.ahead g.R.ReadLeaves.is_between (fields_seen c.args.root.now) c.args.additions.now c.requires.of_profile c.args.part _ (nodes c.args.frames.now) all (g.R.ReadLeaves.rules.to_units c.args.units.now) (g.R.ReadLeaves.rules.to_units c.feed_leaf.new.units) h c.in-Ok.ensures.done refl few refl c.requires.empty)), still_below c.in-Ok.ensures.ticked c.requires.few))))))

pub additions::feed_bitmap-returns-in-Ok-clause-done : goal.additions::feed_bitmap-returns-in-Ok-clause-done
additions::feed_bitmap-returns-in-Ok-clause-done g t c =
    let few : length c.args.additions.now ≤ 64 = few_added c.args.additions.now refl c.requires.of_profile in
    IfOk-weaker c.feed_additions.result _ _ (λ v s all h. s all (additions_start g.R.ReadLeaves.rules c.keep_laws.ensures c.keep_feed_laws.ensures g.R.FeedLeaves.fields g.R.ReadLeaves.ahead g.R.ReadLeaves.is_between (fields_seen c.args.root.now) c.args.additions.now c.requires.of_profile c.args.part _ (nodes c.args.frames.now) all (g.R.ReadLeaves.rules.to_units c.args.units.now) (g.R.ReadLeaves.rules.to_units c.feed_leaf.new.units) h c.in-Ok.ensures.done refl few refl c.requires.empty)) c.feed_additions.ensures.done

pub additions::feed_bitmap-returns-in-Ok-clause-stop : goal.additions::feed_bitmap-returns-in-Ok-clause-stop
additions::feed_bitmap-returns-in-Ok-clause-stop g t c =
    let few : length c.args.additions.now ≤ 64 = few_added c.args.additions.now refl c.requires.of_profile in
    IfErr-weaker c.feed_additions.result _ _ (λ v s all h. s all (additions_start g.R.ReadLeaves.rules c.keep_laws.ensures c.keep_feed_laws.ensures g.R.FeedLeaves.fields g.R.ReadLeaves.ahead g.R.ReadLeaves.is_between (fields_seen c.args.root.now) c.args.additions.now c.requires.of_profile c.args.part _ (nodes c.args.frames.now) all (g.R.ReadLeaves.rules.to_units c.args.units.now) (g.R.ReadLeaves.rules.to_units c.feed_leaf.new.units) h c.in-Ok.ensures.done refl few refl c.requires.empty)) c.feed_additions.ensures.stop

pub additions::feed_bitmap-returns-in-Ok-clause-kept : goal.additions::feed_bitmap-returns-in-Ok-clause-kept
additions::feed_bitmap-returns-in-Ok-clause-kept g t c =
    let few : length c.args.additions.now ≤ 64 = few_added c.args.additions.now refl c.requires.of_profile in
    IfErr-weaker c.feed_additions.result _ _ (λ v s all h. s all (additions_start g.R.ReadLeaves.rules c.keep_laws.ensures c.keep_feed_laws.ensures g.R.FeedLeaves.fields g.R.ReadLeaves.ahead g.R.ReadLeaves.is_between (fields_seen c.args.root.now) c.args.additions.now c.requires.of_profile c.args.part _ (nodes c.args.frames.now) all (g.R.ReadLeaves.rules.to_units c.args.units.now) (g.R.ReadLeaves.rules.to_units c.feed_leaf.new.units) h c.in-Ok.ensures.done refl few refl c.requires.empty)) c.feed_additions.ensures.kept

pub additions::feed_bitmap-returns-in-Ok-put-clause-stop : goal.additions::feed_bitmap-returns-in-Ok-put-clause-stop
additions::feed_bitmap-returns-in-Ok-put-clause-stop g t c =
    λ all h.
    let a : Stops g.R.ReadLeaves.rules.ruling.fielding (AdditionBitmapOf g.R.ReadLeaves.rules (length c.args.additions.now)) ((g.R.ReadLeaves.rules.to_units c.args.part.begun) ++ (g.R.ReadLeaves.rules.to_units c.args.units.now)) stop.Short = rw c.in-Err-Short.field-0-is at c.in-Err-Short.ensures.stop in
    bitmap_stops g.R.ReadLeaves.rules c.keep_laws.ensures c.keep_feed_laws.ensures g.R.FeedLeaves.fields g.R.ReadLeaves.ahead g.R.ReadLeaves.is_between (fields_seen c.args.root.now) c.args.additions.now c.requires.of_profile c.args.part all (g.R.ReadLeaves.rules.to_units c.args.units.now) stop.Short h a

pub additions::feed_bitmap-returns-in-Err-Refused-clause-stop : goal.additions::feed_bitmap-returns-in-Err-Refused-clause-stop
additions::feed_bitmap-returns-in-Err-Refused-clause-stop g t c =
    λ all h.
    let w = stop.Refused c.in-Err-Refused.left c.in-Err-Refused.why in
    let a : Stops g.R.ReadLeaves.rules.ruling.fielding (AdditionBitmapOf g.R.ReadLeaves.rules (length c.args.additions.now)) ((g.R.ReadLeaves.rules.to_units c.args.part.begun) ++ (g.R.ReadLeaves.rules.to_units c.args.units.now)) w = rw c.in-Err-Refused.field-0-is at c.in-Err-Refused.ensures.stop in
    rw (c.in-Err-Refused.left-is, c.in-Err-Refused.why-is) (bitmap_stops g.R.ReadLeaves.rules c.keep_laws.ensures c.keep_feed_laws.ensures g.R.FeedLeaves.fields g.R.ReadLeaves.ahead g.R.ReadLeaves.is_between (fields_seen c.args.root.now) c.args.additions.now c.requires.of_profile c.args.part all (g.R.ReadLeaves.rules.to_units c.args.units.now) w h a)

pub additions::feed_bitmap-returns-in-Ok-put-clause-kept : goal.additions::feed_bitmap-returns-in-Ok-put-clause-kept
additions::feed_bitmap-returns-in-Ok-put-clause-kept g t c =
    λ all h.
    let b = c.feed_leaf.new.begun in
    let a : Stops g.R.ReadLeaves.rules.ruling.fielding (AdditionBitmapOf g.R.ReadLeaves.rules (length c.args.additions.now)) ((g.R.ReadLeaves.rules.to_units c.args.part.begun) ++ (g.R.ReadLeaves.rules.to_units c.args.units.now)) stop.Short = rw c.in-Err-Short.field-0-is at c.in-Err-Short.ensures.stop in
    let e : (g.R.ReadLeaves.rules.to_units b) ≡ ((g.R.ReadLeaves.rules.to_units c.args.part.begun) ++ (g.R.ReadLeaves.rules.to_units c.args.units.now)) = rw c.in-Err-Short.field-0-is at c.in-Err-Short.ensures.kept in
    let s : Short g.R.ReadLeaves.rules.ruling.fielding (AdditionBitmapOf g.R.ReadLeaves.rules (length c.args.additions.now)) (g.R.ReadLeaves.rules.to_units b) = subst (λ (xs : List ℕ). Short g.R.ReadLeaves.rules.ruling.fielding (AdditionBitmapOf g.R.ReadLeaves.rules (length c.args.additions.now)) xs) (sym e) a.told in
    let k = bitmap_kept g.R.ReadLeaves.rules c.keep_laws.ensures c.keep_feed_laws.ensures g.R.FeedLeaves.fields g.R.ReadLeaves.ahead g.R.ReadLeaves.is_between (fields_seen c.args.root.now) c.args.additions.now c.requires.of_profile c.args.part (record { entries = c.args.part.entries; begun = b }) all (g.R.ReadLeaves.rules.to_units c.args.units.now) h refl e c.in-Err-Short.ensures.begun s in
    bitmap_took g.R.ReadLeaves.rules c.keep_laws.ensures c.keep_feed_laws.ensures g.R.FeedLeaves.fields g.R.ReadLeaves.ahead g.R.ReadLeaves.is_between (fields_seen c.args.root.now) c.args.additions.now c.requires.of_profile (nodes c.put.new.self) (record { entries = c.args.part.entries; begun = b }) all (c.in-Ok-put.ensures ∙ ap (λ (gs : List (Frame g.row.R-Fragments.Denot)). frame.Bitmap (record { entries = c.args.part.entries; begun = b }) ∷ gs) c.requires.empty) k

pub additions::feed_open_fields-feed_addition-requires : goal.additions::feed_open_fields-feed_addition-requires
additions::feed_open_fields-feed_addition-requires g t c κs within =
    let inv = c.loop-read.invariant in
    let w = left_within g.R.ReadLeaves.rules c.keep_laws.ensures c.keep_feed_laws.ensures g.R.FeedLeaves.fields g.R.ReadLeaves.ahead g.R.ReadLeaves.is_between (fields_seen c.args._root.now) c.args.additions.now c.requires.of_profile c.loop-read.read (nodes c.loop-read.frames) c.requires.reached.0 (g.R.ReadLeaves.rules.to_units c.loop-read.units) (inv.0 c.requires.reached.0 c.requires.reached.1) in
    let i = length c.args.additions.now - c.loop-read.read.presence.left in
    let at : i + c.loop-read.read.presence.left ≡ length c.args.additions.now = sub-add_cancel w.0 in
    let inside : i < length c.args.additions.now = next_inside w.0 c.loop-read-test.true in
    let x = next_addition g.R.ReadLeaves.rules c.keep_laws.ensures c.keep_feed_laws.ensures g.R.FeedLeaves.fields g.R.ReadLeaves.ahead g.R.ReadLeaves.is_between (fields_seen c.args._root.now) c.args.additions.now c.requires.of_profile c.loop-read.read (nodes c.loop-read.frames) c.index-additions-index.result i c.next-present.result c.next-present.new.self.left c.requires.reached.0 (g.R.ReadLeaves.rules.to_units c.loop-read.units) at c.index-additions-index.is c.next-present.ensures.bit.0 c.next-present.ensures.bit.1 (c.loop-read.invariant.0 c.requires.reached.0 c.requires.reached.1) in
    (search (rules, the_lemmas), (within.0, (within.1, (inv.2, (x.good_shape, ((x.come, x.took), still_below inv.1 c.requires.few))))))

pub additions::feed_open_fields-next-present-requires : goal.additions::feed_open_fields-next-present-requires
additions::feed_open_fields-next-present-requires g t c =
    let inv = c.loop-read.invariant in
    let w = left_within g.R.ReadLeaves.rules c.keep_laws.ensures c.keep_feed_laws.ensures g.R.FeedLeaves.fields g.R.ReadLeaves.ahead g.R.ReadLeaves.is_between (fields_seen c.args._root.now) c.args.additions.now c.requires.of_profile c.loop-read.read (nodes c.loop-read.frames) c.requires.reached.0 (g.R.ReadLeaves.rules.to_units c.loop-read.units) (inv.0 c.requires.reached.0 c.requires.reached.1) in
    let i = length c.args.additions.now - c.loop-read.read.presence.left in
    let at : i + c.loop-read.read.presence.left ≡ length c.args.additions.now = sub-add_cancel w.0 in
    record { some = c.loop-read-test.true; few = w.1 }

pub additions::feed_open_fields-returns-in_err-entry-clause-stop : goal.additions::feed_open_fields-returns-in_err-entry-clause-stop
additions::feed_open_fields-returns-in_err-entry-clause-stop g t c =
    let inv = c.loop-read.invariant in
    let w = left_within g.R.ReadLeaves.rules c.keep_laws.ensures c.keep_feed_laws.ensures g.R.FeedLeaves.fields g.R.ReadLeaves.ahead g.R.ReadLeaves.is_between (fields_seen c.args._root.now) c.args.additions.now c.requires.of_profile c.loop-read.read (nodes c.loop-read.frames) c.requires.reached.0 (g.R.ReadLeaves.rules.to_units c.loop-read.units) (inv.0 c.requires.reached.0 c.requires.reached.1) in
    let i = length c.args.additions.now - c.loop-read.read.presence.left in
    let at : i + c.loop-read.read.presence.left ≡ length c.args.additions.now = sub-add_cancel w.0 in
    let p = err_from_is_err_and c.from_residual.result c.from_residual.ensures.1 in
    rw (p.1, p.2) (λ all h. (let x = next_addition g.R.ReadLeaves.rules c.keep_laws.ensures c.keep_feed_laws.ensures g.R.FeedLeaves.fields g.R.ReadLeaves.ahead g.R.ReadLeaves.is_between (fields_seen c.args._root.now) c.args.additions.now c.requires.of_profile c.loop-read.read (nodes c.loop-read.frames) c.index-additions-index.result i c.next-present.result c.next-present.new.self.left all (g.R.ReadLeaves.rules.to_units c.loop-read.units) at c.index-additions-index.is c.next-present.ensures.bit.0 c.next-present.ensures.bit.1 (c.loop-read.invariant.0 all h) in x.stops _ (c.in_err-entry.ensures.stop x.come x.took)))

pub additions::feed_open_fields-returns-in_err-entry-clause-kept : goal.additions::feed_open_fields-returns-in_err-entry-clause-kept
additions::feed_open_fields-returns-in_err-entry-clause-kept g t c =
    λ e all h.
    let inv = c.loop-read.invariant in
    let w = left_within g.R.ReadLeaves.rules c.keep_laws.ensures c.keep_feed_laws.ensures g.R.FeedLeaves.fields g.R.ReadLeaves.ahead g.R.ReadLeaves.is_between (fields_seen c.args._root.now) c.args.additions.now c.requires.of_profile c.loop-read.read (nodes c.loop-read.frames) c.requires.reached.0 (g.R.ReadLeaves.rules.to_units c.loop-read.units) (inv.0 c.requires.reached.0 c.requires.reached.1) in
    let i = length c.args.additions.now - c.loop-read.read.presence.left in
    let at : i + c.loop-read.read.presence.left ≡ length c.args.additions.now = sub-add_cancel w.0 in
    let p = err_from_is_err_and c.from_residual.result c.from_residual.ensures.1 in
    let w : c.in_err-entry.field-0.0 ≡ stop.Short = cc (p.1, p.2, e) in
    let x = next_addition g.R.ReadLeaves.rules c.keep_laws.ensures c.keep_feed_laws.ensures g.R.FeedLeaves.fields g.R.ReadLeaves.ahead g.R.ReadLeaves.is_between (fields_seen c.args._root.now) c.args.additions.now c.requires.of_profile c.loop-read.read (nodes c.loop-read.frames) c.index-additions-index.result i c.next-present.result c.next-present.new.self.left all (g.R.ReadLeaves.rules.to_units c.loop-read.units) at c.index-additions-index.is c.next-present.ensures.bit.0 c.next-present.ensures.bit.1 (c.loop-read.invariant.0 all h) in
    x.kept (nodes c.feed_addition.new.frames) (g.R.ReadLeaves.rules.to_units c.feed_addition.new.units) (rw w at c.in_err-entry.ensures.after) (rw w at (c.in_err-entry.ensures.kept x.come x.took))

pub additions::feed_open_fields-loop-read-preserved : goal.additions::feed_open_fields-loop-read-preserved
additions::feed_open_fields-loop-read-preserved g t c =
    let inv = c.loop-read.invariant in
    let w = left_within g.R.ReadLeaves.rules c.keep_laws.ensures c.keep_feed_laws.ensures g.R.FeedLeaves.fields g.R.ReadLeaves.ahead g.R.ReadLeaves.is_between (fields_seen c.args._root.now) c.args.additions.now c.requires.of_profile c.loop-read.read (nodes c.loop-read.frames) c.requires.reached.0 (g.R.ReadLeaves.rules.to_units c.loop-read.units) (inv.0 c.requires.reached.0 c.requires.reached.1) in
    let i = length c.args.additions.now - c.loop-read.read.presence.left in
    let at : i + c.loop-read.read.presence.left ≡ length c.args.additions.now = sub-add_cancel w.0 in (
      λ all h. (let x = next_addition g.R.ReadLeaves.rules c.keep_laws.ensures c.keep_feed_laws.ensures g.R.FeedLeaves.fields g.R.ReadLeaves.ahead g.R.ReadLeaves.is_between (fields_seen c.args._root.now) c.args.additions.now c.requires.of_profile c.loop-read.read (nodes c.loop-read.frames) c.index-additions-index.result i c.next-present.result c.next-present.new.self.left all (g.R.ReadLeaves.rules.to_units c.loop-read.units) at c.index-additions-index.is c.next-present.ensures.bit.0 c.next-present.ensures.bit.1 (c.loop-read.invariant.0 all h) in x.further _ (nodes c.feed_addition.new.frames) c.in_ok-entry.entry (g.R.ReadLeaves.rules.to_units c.feed_addition.new.units) c.next-present.ensures.bitmap refl c.in_ok-push.ensures.items c.in_ok-entry.ensures.emptied (c.in_ok-entry.ensures.done x.come x.took)),
      c.in_ok-entry.ensures.ticked ∙ inv.1,
      c.in_ok-entry.ensures.at_unit,
      le_trans inv.3 c.in_ok-entry.ensures.rising,
      costs_last (costs_then c.loop-read.invariant.4 c.feed_addition.ensures.inside (le_refl _) (depth_of_addition c.args.additions.now i c.index-additions-index.result (next_inside w.0 c.loop-read-test.true) c.index-additions-index.is) (λ n o. o)) (le_refl _) (none_come g.R.ReadLeaves.rules g.R.FeedLeaves.fields g.R.ReadLeaves.ahead g.R.ReadLeaves.is_between (nodes c.feed_addition.new.frames) c.in_ok-entry.ensures.emptied) refl (le_refl _),
    )

-- ---- one addition

pub additions::feed_addition-returns-then-not-present-clause-done : goal.additions::feed_addition-returns-then-not-present-clause-done
additions::feed_addition-returns-then-not-present-clause-done g t c =
    λ us k. absent_read g.R.ReadLeaves.rules g.R.FeedLeaves.fields g.R.ReadLeaves.ahead g.R.ReadLeaves.is_between (shape_of c.args.ty.now) c.args.present (nodes c.args.frames.now) us (g.R.ReadLeaves.rules.to_units c.args.units.now) c.if-not-present.true (left_out g.R.ReadLeaves.rules g.R.FeedLeaves.fields g.R.ReadLeaves.ahead g.R.ReadLeaves.is_between (shape_of c.args.ty.now) c.args.present (nodes c.args.frames.now) us c.if-not-present.true k).1

pub additions::feed_addition-returns-then-not-present-clause-emptied : goal.additions::feed_addition-returns-then-not-present-clause-emptied
additions::feed_addition-returns-then-not-present-clause-emptied g t c =
    (left_out g.R.ReadLeaves.rules g.R.FeedLeaves.fields g.R.ReadLeaves.ahead g.R.ReadLeaves.is_between (shape_of c.args.ty.now) c.args.present (nodes c.args.frames.now) c.requires.reached.0 c.if-not-present.true c.requires.reached.1).0

pub additions::feed_addition-feed_open_field-requires : goal.additions::feed_addition-feed_open_field-requires
additions::feed_addition-feed_open_field-requires g t c κs within =
    let took = present_took g.R.ReadLeaves.rules g.R.FeedLeaves.fields g.R.ReadLeaves.ahead g.R.ReadLeaves.is_between (shape_of c.args.ty.now) c.args.present (nodes c.args.frames.now) c.requires.reached.0 c.if-not-present.false c.requires.reached.1 in
    (search (rules, the_lemmas), (within.0, (within.1, (c.requires.at_unit, (c.requires.of_profile, ((c.requires.reached.0, took), c.requires.few))))))

pub additions::feed_addition-returns-in_err-feed_open_field-clause-stop : goal.additions::feed_addition-returns-in_err-feed_open_field-clause-stop
additions::feed_addition-returns-in_err-feed_open_field-clause-stop g t c =
    let p = err_from_is_err_and c.from_residual.result c.from_residual.ensures.1 in
    rw (p.1, p.2) (λ us k. present_stops g.R.ReadLeaves.rules g.R.FeedLeaves.fields g.R.ReadLeaves.ahead g.R.ReadLeaves.is_between (shape_of c.args.ty.now) c.args.present (nodes c.args.frames.now) (us ++ g.R.ReadLeaves.rules.to_units c.args.units.now) _ c.if-not-present.false (c.in_err-feed_open_field.ensures.stop us (present_took g.R.ReadLeaves.rules g.R.FeedLeaves.fields g.R.ReadLeaves.ahead g.R.ReadLeaves.is_between (shape_of c.args.ty.now) c.args.present (nodes c.args.frames.now) us c.if-not-present.false k)))

pub additions::feed_addition-returns-in_err-feed_open_field-clause-kept : goal.additions::feed_addition-returns-in_err-feed_open_field-clause-kept
additions::feed_addition-returns-in_err-feed_open_field-clause-kept g t c =
    let p = err_from_is_err_and c.from_residual.result c.from_residual.ensures.1 in
    rw (p.1, p.2) (λ us k. present_kept g.R.ReadLeaves.rules g.R.FeedLeaves.fields g.R.ReadLeaves.ahead g.R.ReadLeaves.is_between (shape_of c.args.ty.now) c.args.present (nodes c.feed_open_field.new.frames) (us ++ g.R.ReadLeaves.rules.to_units c.args.units.now) _ c.if-not-present.false (c.in_err-feed_open_field.ensures.kept us (present_took g.R.ReadLeaves.rules g.R.FeedLeaves.fields g.R.ReadLeaves.ahead g.R.ReadLeaves.is_between (shape_of c.args.ty.now) c.args.present (nodes c.args.frames.now) us c.if-not-present.false k)))

pub additions::feed_addition-returns-clause-done : goal.additions::feed_addition-returns-clause-done
additions::feed_addition-returns-clause-done g t c =
    λ us k. present_read g.R.ReadLeaves.rules g.R.FeedLeaves.fields g.R.ReadLeaves.ahead g.R.ReadLeaves.is_between (shape_of c.args.ty.now) c.args.present (nodes c.args.frames.now) (us ++ g.R.ReadLeaves.rules.to_units c.args.units.now) (datum_of c.in_ok-feed_open_field.field-0) (g.R.ReadLeaves.rules.to_units c.feed_open_field.new.units) c.if-not-present.false (c.in_ok-feed_open_field.ensures.done us (present_took g.R.ReadLeaves.rules g.R.FeedLeaves.fields g.R.ReadLeaves.ahead g.R.ReadLeaves.is_between (shape_of c.args.ty.now) c.args.present (nodes c.args.frames.now) us c.if-not-present.false k))

-- ---- after the root

pub additions::end_sequence-unreachable-requires : goal.additions::end_sequence-unreachable-requires
additions::end_sequence-unreachable-requires g t c =
    no_mark g.R.ReadLeaves.rules g.R.FeedLeaves.fields g.R.ReadLeaves.ahead g.R.ReadLeaves.is_between (fields_seen c.args.root.now) c.args.ext.now c.args.read (nodes c.args.frames.now) c.requires.reached.0 (g.R.ReadLeaves.rules.to_units c.args.units.now) c.in_default.is c.if-read.true c.requires.reached.1

pub additions::end_sequence-feed_bitmap-requires : goal.additions::end_sequence-feed_bitmap-requires
additions::end_sequence-feed_bitmap-requires g t c κs within =
    let is = marked_fields c.args.ext.now c.in-Some.additions c.as_slice.result.now c.in-Some.is c.as_slice.ensures.value in
    let over = none_left c.args.root.now (length c.args.read.entries.items) c.requires.over in
    let small = additions_smaller c.args._ty.now c.requires.parts.components c.args.ext.now c.in-Some.additions c.as_slice.result.now c.requires.parts.is c.in-Some.is c.as_slice.ensures.value in
    (search (rules, the_lemmas, small), (within.0, (within.1, (c.requires.at_unit, (rw is at c.requires.of_profile, (c.requires.empty, ((c.requires.reached.0, bitmap_starts g.R.ReadLeaves.rules c.keep_laws.ensures c.keep_feed_laws.ensures g.R.FeedLeaves.fields g.R.ReadLeaves.ahead g.R.ReadLeaves.is_between (fields_seen c.args.root.now) c.as_slice.result.now (rw is at c.requires.of_profile) c.args.read (record { entries = c.args.read.entries; begun = c.none.result }) (nodes c.args.frames.now) c.requires.reached.0 (g.R.ReadLeaves.rules.to_units c.args.units.now) over (rw is at c.requires.reached.1) c.if-read.true refl c.none.ensures), c.requires.few)))))))

pub additions::end_sequence-returns-then-read-clause-done : goal.additions::end_sequence-returns-then-read-clause-done
additions::end_sequence-returns-then-read-clause-done g t c =
    let is = marked_fields c.args.ext.now c.in-Some.additions c.as_slice.result.now c.in-Some.is c.as_slice.ensures.value in
    let over = none_left c.args.root.now (length c.args.read.entries.items) c.requires.over in
    IfOk-weaker c.feed_bitmap.result _ _ (λ v s all h. rw is (s all (bitmap_starts g.R.ReadLeaves.rules c.keep_laws.ensures c.keep_feed_laws.ensures g.R.FeedLeaves.fields g.R.ReadLeaves.ahead g.R.ReadLeaves.is_between (fields_seen c.args.root.now) c.as_slice.result.now (rw is at c.requires.of_profile) c.args.read (record { entries = c.args.read.entries; begun = c.none.result }) (nodes c.args.frames.now) all (g.R.ReadLeaves.rules.to_units c.args.units.now) over (rw is at h) c.if-read.true refl c.none.ensures))) c.feed_bitmap.ensures.done

pub additions::end_sequence-returns-then-read-clause-stop : goal.additions::end_sequence-returns-then-read-clause-stop
additions::end_sequence-returns-then-read-clause-stop g t c =
    let is = marked_fields c.args.ext.now c.in-Some.additions c.as_slice.result.now c.in-Some.is c.as_slice.ensures.value in
    let over = none_left c.args.root.now (length c.args.read.entries.items) c.requires.over in
    IfErr-weaker c.feed_bitmap.result _ _ (λ why s all h. rw is (s all (bitmap_starts g.R.ReadLeaves.rules c.keep_laws.ensures c.keep_feed_laws.ensures g.R.FeedLeaves.fields g.R.ReadLeaves.ahead g.R.ReadLeaves.is_between (fields_seen c.args.root.now) c.as_slice.result.now (rw is at c.requires.of_profile) c.args.read (record { entries = c.args.read.entries; begun = c.none.result }) (nodes c.args.frames.now) all (g.R.ReadLeaves.rules.to_units c.args.units.now) over (rw is at h) c.if-read.true refl c.none.ensures))) c.feed_bitmap.ensures.stop

pub additions::end_sequence-returns-then-read-clause-kept : goal.additions::end_sequence-returns-then-read-clause-kept
additions::end_sequence-returns-then-read-clause-kept g t c =
    let is = marked_fields c.args.ext.now c.in-Some.additions c.as_slice.result.now c.in-Some.is c.as_slice.ensures.value in
    let over = none_left c.args.root.now (length c.args.read.entries.items) c.requires.over in
    IfErr-weaker c.feed_bitmap.result _ _ (λ why s all h. rw is (s all (bitmap_starts g.R.ReadLeaves.rules c.keep_laws.ensures c.keep_feed_laws.ensures g.R.FeedLeaves.fields g.R.ReadLeaves.ahead g.R.ReadLeaves.is_between (fields_seen c.args.root.now) c.as_slice.result.now (rw is at c.requires.of_profile) c.args.read (record { entries = c.args.read.entries; begun = c.none.result }) (nodes c.args.frames.now) all (g.R.ReadLeaves.rules.to_units c.args.units.now) over (rw is at h) c.if-read.true refl c.none.ensures))) c.feed_bitmap.ensures.kept

pub additions::end_sequence-returns-in-Ok-clause-done : goal.additions::end_sequence-returns-in-Ok-clause-done
additions::end_sequence-returns-in-Ok-clause-done g t c =
    λ all h.
    let over = none_left c.args.root.now (length c.args.read.entries.items) c.requires.over in
    rw (datum_of-Seq c.push_absent.new.entries, c.in-Ok.ensures) (root_ends g.R.ReadLeaves.rules c.keep_laws.ensures g.R.FeedLeaves.fields g.R.ReadLeaves.ahead g.R.ReadLeaves.is_between (fields_seen c.args.root.now) (more_fields_of c.args.ext.now) c.requires.of_profile c.args.read (nodes c.args.frames.now) all (g.R.ReadLeaves.rules.to_units c.args.units.now) over c.if-read.false h)

pub additions::feed_open_fields-overflow_sub-index : goal.additions::feed_open_fields-overflow_sub-index
additions::feed_open_fields-overflow_sub-index g t c =
    let inv = c.loop-read.invariant in
    let w = left_within g.R.ReadLeaves.rules c.keep_laws.ensures c.keep_feed_laws.ensures g.R.FeedLeaves.fields g.R.ReadLeaves.ahead g.R.ReadLeaves.is_between (fields_seen c.args._root.now) c.args.additions.now c.requires.of_profile c.loop-read.read (nodes c.loop-read.frames) c.requires.reached.0 (g.R.ReadLeaves.rules.to_units c.loop-read.units) (inv.0 c.requires.reached.0 c.requires.reached.1) in
    w.0

pub additions::feed_open_fields-bounds-additions-index : goal.additions::feed_open_fields-bounds-additions-index
additions::feed_open_fields-bounds-additions-index g t c =
    let inv = c.loop-read.invariant in
    let w = left_within g.R.ReadLeaves.rules c.keep_laws.ensures c.keep_feed_laws.ensures g.R.FeedLeaves.fields g.R.ReadLeaves.ahead g.R.ReadLeaves.is_between (fields_seen c.args._root.now) c.args.additions.now c.requires.of_profile c.loop-read.read (nodes c.loop-read.frames) c.requires.reached.0 (g.R.ReadLeaves.rules.to_units c.loop-read.units) (inv.0 c.requires.reached.0 c.requires.reached.1) in
    next_inside w.0 c.loop-read-test.true

pub additions::feed_open_fields-offset_bounds-additions-index : goal.additions::feed_open_fields-offset_bounds-additions-index
additions::feed_open_fields-offset_bounds-additions-index g t c =
    let inv = c.loop-read.invariant in
    let w = left_within g.R.ReadLeaves.rules c.keep_laws.ensures c.keep_feed_laws.ensures g.R.FeedLeaves.fields g.R.ReadLeaves.ahead g.R.ReadLeaves.is_between (fields_seen c.args._root.now) c.args.additions.now c.requires.of_profile c.loop-read.read (nodes c.loop-read.frames) c.requires.reached.0 (g.R.ReadLeaves.rules.to_units c.loop-read.units) (inv.0 c.requires.reached.0 c.requires.reached.1) in
    let few : length c.args.additions.now ≤ 64 = few_added c.args.additions.now refl c.requires.of_profile in
    omega (arith, w.0, c.loop-read-test.true, few)

pub additions::feed_bitmap-overflow_cast-count : goal.additions::feed_bitmap-overflow_cast-count
additions::feed_bitmap-overflow_cast-count g t c =
    let few : length c.args.additions.now ≤ 64 = few_added c.args.additions.now refl c.requires.of_profile in
    omega (arith, few)

-- ---- where a SEQUENCE was cut in its additions

pub sequences::resume_sequence-feed_bitmap-requires : goal.sequences::resume_sequence-feed_bitmap-requires
sequences::resume_sequence-feed_bitmap-requires g t c κs within =
    let us = c.requires.reached.0 in
    let is = marked_fields c.args.ext.now c.in-Some.additions c.as_slice.result.now c.in-Some.is c.as_slice.ensures.value in
    let small = additions_smaller c.args._ty.now c.requires.parts.components c.args.ext.now c.in-Some.additions c.as_slice.result.now c.requires.parts.is c.in-Some.is c.as_slice.ensures.value in
    (search (rules, the_lemmas, small), (within.0, (within.1, (c.requires.at_unit, (rw is at c.requires.of_profile, ((took_bitmap g.R.ReadLeaves.rules c.keep_laws.ensures c.keep_feed_laws.ensures g.R.FeedLeaves.fields g.R.ReadLeaves.ahead g.R.ReadLeaves.is_between (fields_seen c.args.root.now) c.as_slice.result.now (rw is at c.requires.of_profile) c.args.node c.in-Some-Bitmap.field-0 c.in-Some-Bitmap.part (nodes c.args.frames.now) us c.in-Some-Bitmap.is c.in-Some-Bitmap.field-0-is (rw is at c.requires.reached.1)).0, ((us ++ g.R.ReadLeaves.rules.to_units c.args.units.now, (bitmap_goes_on g.R.ReadLeaves.rules c.keep_laws.ensures c.keep_feed_laws.ensures g.R.FeedLeaves.fields g.R.ReadLeaves.ahead g.R.ReadLeaves.is_between (fields_seen c.args.root.now) c.as_slice.result.now (rw is at c.requires.of_profile) c.in-Some-Bitmap.part us (g.R.ReadLeaves.rules.to_units c.args.units.now) (took_bitmap g.R.ReadLeaves.rules c.keep_laws.ensures c.keep_feed_laws.ensures g.R.FeedLeaves.fields g.R.ReadLeaves.ahead g.R.ReadLeaves.is_between (fields_seen c.args.root.now) c.as_slice.result.now (rw is at c.requires.of_profile) c.args.node c.in-Some-Bitmap.field-0 c.in-Some-Bitmap.part (nodes c.args.frames.now) us c.in-Some-Bitmap.is c.in-Some-Bitmap.field-0-is (rw is at c.requires.reached.1)).1)), c.requires.few)))))))

pub sequences::resume_sequence-returns-in-Some-clause-done : goal.sequences::resume_sequence-returns-in-Some-clause-done
sequences::resume_sequence-returns-in-Some-clause-done g t c =
    let is = marked_fields c.args.ext.now c.in-Some.additions c.as_slice.result.now c.in-Some.is c.as_slice.ensures.value in
    IfOk-weaker c.feed_bitmap.result _ _ (λ v s us k. rw is (s (us ++ g.R.ReadLeaves.rules.to_units c.args.units.now) (bitmap_goes_on g.R.ReadLeaves.rules c.keep_laws.ensures c.keep_feed_laws.ensures g.R.FeedLeaves.fields g.R.ReadLeaves.ahead g.R.ReadLeaves.is_between (fields_seen c.args.root.now) c.as_slice.result.now (rw is at c.requires.of_profile) c.in-Some-Bitmap.part us (g.R.ReadLeaves.rules.to_units c.args.units.now) (took_bitmap g.R.ReadLeaves.rules c.keep_laws.ensures c.keep_feed_laws.ensures g.R.FeedLeaves.fields g.R.ReadLeaves.ahead g.R.ReadLeaves.is_between (fields_seen c.args.root.now) c.as_slice.result.now (rw is at c.requires.of_profile) c.args.node c.in-Some-Bitmap.field-0 c.in-Some-Bitmap.part (nodes c.args.frames.now) us c.in-Some-Bitmap.is c.in-Some-Bitmap.field-0-is (rw is at k)).1))) c.feed_bitmap.ensures.done

pub sequences::resume_sequence-returns-in-Some-clause-stop : goal.sequences::resume_sequence-returns-in-Some-clause-stop
sequences::resume_sequence-returns-in-Some-clause-stop g t c =
    let is = marked_fields c.args.ext.now c.in-Some.additions c.as_slice.result.now c.in-Some.is c.as_slice.ensures.value in
    IfErr-weaker c.feed_bitmap.result _ _ (λ why s us k. rw is (s (us ++ g.R.ReadLeaves.rules.to_units c.args.units.now) (bitmap_goes_on g.R.ReadLeaves.rules c.keep_laws.ensures c.keep_feed_laws.ensures g.R.FeedLeaves.fields g.R.ReadLeaves.ahead g.R.ReadLeaves.is_between (fields_seen c.args.root.now) c.as_slice.result.now (rw is at c.requires.of_profile) c.in-Some-Bitmap.part us (g.R.ReadLeaves.rules.to_units c.args.units.now) (took_bitmap g.R.ReadLeaves.rules c.keep_laws.ensures c.keep_feed_laws.ensures g.R.FeedLeaves.fields g.R.ReadLeaves.ahead g.R.ReadLeaves.is_between (fields_seen c.args.root.now) c.as_slice.result.now (rw is at c.requires.of_profile) c.args.node c.in-Some-Bitmap.field-0 c.in-Some-Bitmap.part (nodes c.args.frames.now) us c.in-Some-Bitmap.is c.in-Some-Bitmap.field-0-is (rw is at k)).1))) c.feed_bitmap.ensures.stop

pub sequences::resume_sequence-returns-in-Some-clause-kept : goal.sequences::resume_sequence-returns-in-Some-clause-kept
sequences::resume_sequence-returns-in-Some-clause-kept g t c =
    let is = marked_fields c.args.ext.now c.in-Some.additions c.as_slice.result.now c.in-Some.is c.as_slice.ensures.value in
    IfErr-weaker c.feed_bitmap.result _ _ (λ why s us k. rw is (s (us ++ g.R.ReadLeaves.rules.to_units c.args.units.now) (bitmap_goes_on g.R.ReadLeaves.rules c.keep_laws.ensures c.keep_feed_laws.ensures g.R.FeedLeaves.fields g.R.ReadLeaves.ahead g.R.ReadLeaves.is_between (fields_seen c.args.root.now) c.as_slice.result.now (rw is at c.requires.of_profile) c.in-Some-Bitmap.part us (g.R.ReadLeaves.rules.to_units c.args.units.now) (took_bitmap g.R.ReadLeaves.rules c.keep_laws.ensures c.keep_feed_laws.ensures g.R.FeedLeaves.fields g.R.ReadLeaves.ahead g.R.ReadLeaves.is_between (fields_seen c.args.root.now) c.as_slice.result.now (rw is at c.requires.of_profile) c.args.node c.in-Some-Bitmap.field-0 c.in-Some-Bitmap.part (nodes c.args.frames.now) us c.in-Some-Bitmap.is c.in-Some-Bitmap.field-0-is (rw is at k)).1))) c.feed_bitmap.ensures.kept

pub sequences::resume_sequence-feed_additions-requires : goal.sequences::resume_sequence-feed_additions-requires
sequences::resume_sequence-feed_additions-requires g t c κs within =
    let us = c.requires.reached.0 in
    let is = marked_fields c.args.ext.now c.in-Some-ext.additions c.as_slice-in-Some-Additions.result.now c.in-Some-ext.is c.as_slice-in-Some-Additions.ensures.value in
    let small = additions_smaller c.args._ty.now c.requires.parts.components c.args.ext.now c.in-Some-ext.additions c.as_slice-in-Some-Additions.result.now c.requires.parts.is c.in-Some-ext.is c.as_slice-in-Some-Additions.ensures.value in
    (search (rules, the_lemmas, small), (within.0, (within.1, (c.requires.at_unit, (rw is at c.requires.of_profile, ((us ++ g.R.ReadLeaves.rules.to_units c.args.units.now, (additions_go_on g.R.ReadLeaves.rules c.keep_laws.ensures c.keep_feed_laws.ensures g.R.FeedLeaves.fields g.R.ReadLeaves.ahead g.R.ReadLeaves.is_between (fields_seen c.args.root.now) c.as_slice-in-Some-Additions.result.now (rw is at c.requires.of_profile) c.in-Some-Additions.read (nodes c.args.frames.now) us (g.R.ReadLeaves.rules.to_units c.args.units.now) (took_additions g.R.ReadLeaves.rules c.keep_laws.ensures c.keep_feed_laws.ensures g.R.FeedLeaves.fields g.R.ReadLeaves.ahead g.R.ReadLeaves.is_between (fields_seen c.args.root.now) c.as_slice-in-Some-Additions.result.now (rw is at c.requires.of_profile) c.args.node c.in-Some-Additions.field-0 c.in-Some-Additions.read (nodes c.args.frames.now) us c.in-Some-Additions.is c.in-Some-Additions.field-0-is (rw is at c.requires.reached.1)))), c.requires.few))))))

pub sequences::resume_sequence-returns-in-Some-ext-clause-done : goal.sequences::resume_sequence-returns-in-Some-ext-clause-done
sequences::resume_sequence-returns-in-Some-ext-clause-done g t c =
    let is = marked_fields c.args.ext.now c.in-Some-ext.additions c.as_slice-in-Some-Additions.result.now c.in-Some-ext.is c.as_slice-in-Some-Additions.ensures.value in
    IfOk-weaker c.feed_additions.result _ _ (λ v s us k. rw is (s (us ++ g.R.ReadLeaves.rules.to_units c.args.units.now) (additions_go_on g.R.ReadLeaves.rules c.keep_laws.ensures c.keep_feed_laws.ensures g.R.FeedLeaves.fields g.R.ReadLeaves.ahead g.R.ReadLeaves.is_between (fields_seen c.args.root.now) c.as_slice-in-Some-Additions.result.now (rw is at c.requires.of_profile) c.in-Some-Additions.read (nodes c.args.frames.now) us (g.R.ReadLeaves.rules.to_units c.args.units.now) (took_additions g.R.ReadLeaves.rules c.keep_laws.ensures c.keep_feed_laws.ensures g.R.FeedLeaves.fields g.R.ReadLeaves.ahead g.R.ReadLeaves.is_between (fields_seen c.args.root.now) c.as_slice-in-Some-Additions.result.now (rw is at c.requires.of_profile) c.args.node c.in-Some-Additions.field-0 c.in-Some-Additions.read (nodes c.args.frames.now) us c.in-Some-Additions.is c.in-Some-Additions.field-0-is (rw is at k))))) c.feed_additions.ensures.done

pub sequences::resume_sequence-returns-in-Some-ext-clause-stop : goal.sequences::resume_sequence-returns-in-Some-ext-clause-stop
sequences::resume_sequence-returns-in-Some-ext-clause-stop g t c =
    let is = marked_fields c.args.ext.now c.in-Some-ext.additions c.as_slice-in-Some-Additions.result.now c.in-Some-ext.is c.as_slice-in-Some-Additions.ensures.value in
    IfErr-weaker c.feed_additions.result _ _ (λ why s us k. rw is (s (us ++ g.R.ReadLeaves.rules.to_units c.args.units.now) (additions_go_on g.R.ReadLeaves.rules c.keep_laws.ensures c.keep_feed_laws.ensures g.R.FeedLeaves.fields g.R.ReadLeaves.ahead g.R.ReadLeaves.is_between (fields_seen c.args.root.now) c.as_slice-in-Some-Additions.result.now (rw is at c.requires.of_profile) c.in-Some-Additions.read (nodes c.args.frames.now) us (g.R.ReadLeaves.rules.to_units c.args.units.now) (took_additions g.R.ReadLeaves.rules c.keep_laws.ensures c.keep_feed_laws.ensures g.R.FeedLeaves.fields g.R.ReadLeaves.ahead g.R.ReadLeaves.is_between (fields_seen c.args.root.now) c.as_slice-in-Some-Additions.result.now (rw is at c.requires.of_profile) c.args.node c.in-Some-Additions.field-0 c.in-Some-Additions.read (nodes c.args.frames.now) us c.in-Some-Additions.is c.in-Some-Additions.field-0-is (rw is at k))))) c.feed_additions.ensures.stop

pub sequences::resume_sequence-returns-in-Some-ext-clause-kept : goal.sequences::resume_sequence-returns-in-Some-ext-clause-kept
sequences::resume_sequence-returns-in-Some-ext-clause-kept g t c =
    let is = marked_fields c.args.ext.now c.in-Some-ext.additions c.as_slice-in-Some-Additions.result.now c.in-Some-ext.is c.as_slice-in-Some-Additions.ensures.value in
    IfErr-weaker c.feed_additions.result _ _ (λ why s us k. rw is (s (us ++ g.R.ReadLeaves.rules.to_units c.args.units.now) (additions_go_on g.R.ReadLeaves.rules c.keep_laws.ensures c.keep_feed_laws.ensures g.R.FeedLeaves.fields g.R.ReadLeaves.ahead g.R.ReadLeaves.is_between (fields_seen c.args.root.now) c.as_slice-in-Some-Additions.result.now (rw is at c.requires.of_profile) c.in-Some-Additions.read (nodes c.args.frames.now) us (g.R.ReadLeaves.rules.to_units c.args.units.now) (took_additions g.R.ReadLeaves.rules c.keep_laws.ensures c.keep_feed_laws.ensures g.R.FeedLeaves.fields g.R.ReadLeaves.ahead g.R.ReadLeaves.is_between (fields_seen c.args.root.now) c.as_slice-in-Some-Additions.result.now (rw is at c.requires.of_profile) c.args.node c.in-Some-Additions.field-0 c.in-Some-Additions.read (nodes c.args.frames.now) us c.in-Some-Additions.is c.in-Some-Additions.field-0-is (rw is at k))))) c.feed_additions.ensures.kept

pub additions::feed_bitmap-feed_leaf-requires-clause-begins : goal.additions::feed_bitmap-feed_leaf-requires-clause-begins
additions::feed_bitmap-feed_leaf-requires-clause-begins g t c =
    bitmap_begun g.R.ReadLeaves.rules c.keep_laws.ensures c.keep_feed_laws.ensures g.R.FeedLeaves.fields g.R.ReadLeaves.ahead g.R.ReadLeaves.is_between (fields_seen c.args.root.now) c.args.additions.now c.requires.of_profile c.args.part c.requires.reached.0 (g.R.ReadLeaves.rules.to_units c.args.units.now) c.requires.reached.1

-- ---- what the levels cost

pub values::feed-returns-in-SeqOf-clause-inside : goal.values::feed-returns-in-SeqOf-clause-inside
values::feed-returns-in-SeqOf-clause-inside g t c =
    let is = list_of_elements c.args.ty.now c.deref.result.now c.in-SeqOf.element c.in-SeqOf.size c.in-SeqOf.is c.deref.ensures in
    let tk = taken_is c.take-node.result (nodes c.args.frames.now) (nodes c.take-node.new.self) c.take-node.ensures.some c.take-node.ensures.none c.take-node.ensures.empty in
    costs_like c.resume_list.ensures.inside (depth_of_elements is) (λ n o. rw tk at o) (λ n o. o)

pub values::feed-returns-in-Seq-clause-inside : goal.values::feed-returns-in-Seq-clause-inside
values::feed-returns-in-Seq-clause-inside g t c =
    let is = sequence_of_fields c.args.ty.now c.in-Seq.root c.in-Seq.ext c.as_slice-root.result.now c.in-Seq.is c.as_slice-root.ensures.value in
    let tk = taken_is c.take-node-in-Seq.result (nodes c.args.frames.now) (nodes c.take-node-in-Seq.new.self) c.take-node-in-Seq.ensures.some c.take-node-in-Seq.ensures.none c.take-node-in-Seq.ensures.empty in
    costs_like c.resume_sequence.ensures.inside (depth_is is) (λ n o. rw tk at o) (λ n o. o)

pub values::feed-returns-in-Choice-clause-inside : goal.values::feed-returns-in-Choice-clause-inside
values::feed-returns-in-Choice-clause-inside g t c =
    let is = choice_of_alternatives c.args.ty.now c.in-Choice.root c.in-Choice.ext c.as_slice-root-in-Choice.result.now c.in-Choice.is c.as_slice-root-in-Choice.ensures.value in
    let tk = taken_is c.take-node-in-Choice.result (nodes c.args.frames.now) (nodes c.take-node-in-Choice.new.self) c.take-node-in-Choice.ensures.some c.take-node-in-Choice.ensures.none c.take-node-in-Choice.ensures.empty in
    costs_like c.resume_choice.ensures.inside (depth_is is) (λ n o. rw tk at o) (λ n o. o)

pub values::feed-returns-in-Bool-clause-inside : goal.values::feed-returns-in-Bool-clause-inside
values::feed-returns-in-Bool-clause-inside g t c =
    costs_like c.feed_scalar.ensures.inside (no_levels _) (λ n o. tt) (λ n o. o)

pub values::feed-returns-in-Bits-clause-inside : goal.values::feed-returns-in-Bits-clause-inside
values::feed-returns-in-Bits-clause-inside g t c =
    costs_like c.feed_string.ensures.inside (no_levels _) (λ n o. tt) (λ n o. o)

pub lists::resume_list-returns-in-Some-Elements-clause-inside : goal.lists::resume_list-returns-in-Some-Elements-clause-inside
lists::resume_list-returns-in-Some-Elements-clause-inside g t c =
    costs_like c.feed_list.ensures.inside (le_refl _) (λ n o. open_elements g.R.ReadLeaves.rules g.R.FeedLeaves.fields g.R.ReadLeaves.ahead g.R.ReadLeaves.is_between c.args.node c.in-Some-Elements.field-0 c.in-Some-Elements.list (nodes c.args.frames.now) n c.in-Some-Elements.is c.in-Some-Elements.field-0-is o) (λ n o. o)

pub lists::resume_list-returns-in-Some-Start-clause-inside : goal.lists::resume_list-returns-in-Some-Start-clause-inside
lists::resume_list-returns-in-Some-Start-clause-inside g t c =
    costs_like c.start_list.ensures.inside (le_refl _) (λ n o. tt) (λ n o. o)

pub lists::resume_list-returns-in-None-clause-inside : goal.lists::resume_list-returns-in-None-clause-inside
lists::resume_list-returns-in-None-clause-inside g t c =
    costs_like c.start_list-in-None.ensures.inside (le_refl _) (λ n o. tt) (λ n o. o)

pub lists::start_list-returns-in-Ok-clause-inside : goal.lists::start_list-returns-in-Ok-clause-inside
lists::start_list-returns-in-Ok-clause-inside g t c =
    costs_after c.feed_list.ensures.inside (le_refl _) c.feed_leaf.ensures.inside (fewer_left c.feed_leaf.ensures.rising c.feed_leaf.ensures.ticked) (none_open g.R.ReadLeaves.rules g.R.FeedLeaves.fields g.R.ReadLeaves.ahead g.R.ReadLeaves.is_between (nodes c.args.frames.now) c.requires.empty)

pub lists::start_list-returns-in-Ok-put-clause-inside : goal.lists::start_list-returns-in-Ok-put-clause-inside
lists::start_list-returns-in-Ok-put-clause-inside g t c =
    costs_same c.feed_leaf.ensures.inside (fewer_left c.feed_leaf.ensures.rising c.feed_leaf.ensures.ticked) (λ e. rw c.in-Ok-put.ensures refl)

pub lists::start_list-returns-in-Err-clause-inside : goal.lists::start_list-returns-in-Err-clause-inside
lists::start_list-returns-in-Err-clause-inside g t c =
    costs_same c.feed_leaf.ensures.inside (fewer_left c.feed_leaf.ensures.rising c.feed_leaf.ensures.ticked) (λ e. never (ap is_short e))

pub lists::start_list-returns-in-Err-Refused-clause-inside : goal.lists::start_list-returns-in-Err-Refused-clause-inside
lists::start_list-returns-in-Err-Refused-clause-inside g t c =
    costs_same c.feed_leaf.ensures.inside (fewer_left c.feed_leaf.ensures.rising c.feed_leaf.ensures.ticked) (λ e. never (ap is_short e))

pub lists::start_list-returns-in-Err-Memory-clause-inside : goal.lists::start_list-returns-in-Err-Memory-clause-inside
lists::start_list-returns-in-Err-Memory-clause-inside g t c =
    costs_same c.feed_leaf.ensures.inside (fewer_left c.feed_leaf.ensures.rising c.feed_leaf.ensures.ticked) (λ e. never (ap is_short e))

pub lists::feed_list-returns-in-Ok-clause-inside : goal.lists::feed_list-returns-in-Ok-clause-inside
lists::feed_list-returns-in-Ok-clause-inside g t c =
    costs_like c.feed_elements.ensures.inside (le_refl _) (λ n o. o) (λ n o e. never (ap is_short e))

pub lists::feed_list-returns-in-Ok-put-clause-inside : goal.lists::feed_list-returns-in-Ok-put-clause-inside
lists::feed_list-returns-in-Ok-put-clause-inside g t c =
    costs_like c.feed_elements.ensures.inside (le_refl _) (λ n o. o) (λ n o e. rw c.in-Ok-put.ensures (o (cc (c.in-Err-Short.is, c.in-Err-Short.field-0-is))))

pub lists::feed_list-returns-in-Err-clause-inside : goal.lists::feed_list-returns-in-Err-clause-inside
lists::feed_list-returns-in-Err-clause-inside g t c =
    costs_like c.feed_elements.ensures.inside (le_refl _) (λ n o. o) (λ n o e. never (ap is_short e))

pub lists::feed_list-returns-in-Err-Refused-clause-inside : goal.lists::feed_list-returns-in-Err-Refused-clause-inside
lists::feed_list-returns-in-Err-Refused-clause-inside g t c =
    costs_like c.feed_elements.ensures.inside (le_refl _) (λ n o. o) (λ n o e. never (ap is_short e))

pub lists::feed_list-returns-in-Err-Memory-clause-inside : goal.lists::feed_list-returns-in-Err-Memory-clause-inside
lists::feed_list-returns-in-Err-Memory-clause-inside g t c =
    costs_like c.feed_elements.ensures.inside (le_refl _) (λ n o. o) (λ n o e. never (ap is_short e))

pub lists::feed_elements-returns-in_err-feed_fragment-clause-inside : goal.lists::feed_elements-returns-in_err-feed_fragment-clause-inside
lists::feed_elements-returns-in_err-feed_fragment-clause-inside g t c =
    let p = err_from_is_err_and c.from_residual.result c.from_residual.ensures.1 in
    costs_like {d' = sealed_depth (shape_of c.args.element.now)} (costs_then c.loop-alloc.invariant.4 c.in_err-feed_fragment.ensures.inside (le_refl _) (le_refl _) (λ n o. o)) (le_refl _) (λ n o. o) (λ n o e. o (cc (p.1, p.2, e)))

pub lists::feed_elements-returns-in_err-next_fragment-clause-inside : goal.lists::feed_elements-returns-in_err-next_fragment-clause-inside
lists::feed_elements-returns-in_err-next_fragment-clause-inside g t c =
    let none = (length_ahead g.R.ReadLeaves.rules c.keep_laws.ensures c.keep_feed_laws.ensures g.R.FeedLeaves.fields g.R.ReadLeaves.ahead g.R.ReadLeaves.is_between (shape_of c.args.element.now) (size_range_of c.args.size.now) c.requires.of_profile c.feed_fragment.new.list (nodes c.feed_fragment.new.frames) c.requires.reached.0 (g.R.ReadLeaves.rules.to_units c.feed_fragment.new.units) c.in_ok-feed_fragment.ensures.over (c.in_ok-feed_fragment.ensures.done (size_range_of c.args.size.now) c.requires.of_profile c.requires.reached.0 (c.loop-alloc.invariant.0 c.requires.reached.0 c.requires.reached.1))).none in
    costs_last {d1 = sealed_depth (shape_of c.args.element.now)} (costs_then c.loop-alloc.invariant.4 c.feed_fragment.ensures.inside (le_refl _) (le_refl _) (λ n o. o)) (le_refl _) (λ e. none_open g.R.ReadLeaves.rules g.R.FeedLeaves.fields g.R.ReadLeaves.ahead g.R.ReadLeaves.is_between (nodes c.feed_fragment.new.frames) none) c.next_fragment.ensures.inside (fewer_left c.next_fragment.ensures.rising c.next_fragment.ensures.ticked)

pub lists::feed_elements-returns-then-not-branch-clause-inside : goal.lists::feed_elements-returns-then-not-branch-clause-inside
lists::feed_elements-returns-then-not-branch-clause-inside g t c =
    let none = (length_ahead g.R.ReadLeaves.rules c.keep_laws.ensures c.keep_feed_laws.ensures g.R.FeedLeaves.fields g.R.ReadLeaves.ahead g.R.ReadLeaves.is_between (shape_of c.args.element.now) (size_range_of c.args.size.now) c.requires.of_profile c.feed_fragment.new.list (nodes c.feed_fragment.new.frames) c.requires.reached.0 (g.R.ReadLeaves.rules.to_units c.feed_fragment.new.units) c.in_ok-feed_fragment.ensures.over (c.in_ok-feed_fragment.ensures.done (size_range_of c.args.size.now) c.requires.of_profile c.requires.reached.0 (c.loop-alloc.invariant.0 c.requires.reached.0 c.requires.reached.1))).none in
    costs_last {d1 = sealed_depth (shape_of c.args.element.now)} (costs_then c.loop-alloc.invariant.4 c.feed_fragment.ensures.inside (le_refl _) (le_refl _) (λ n o. o)) (le_refl _) (λ e. never (ap is_short e)) c.next_fragment.ensures.inside (fewer_left c.next_fragment.ensures.rising c.next_fragment.ensures.ticked)

pub lists::feed_fragment-returns-in_err-value-clause-inside : goal.lists::feed_fragment-returns-in_err-value-clause-inside
lists::feed_fragment-returns-in_err-value-clause-inside g t c =
    let p = err_from_is_err_and c.from_residual.result c.from_residual.ensures.1 in
    costs_like {d' = sealed_depth (shape_of c.args.element.now)} (costs_then c.loop-list.invariant.6 c.in_err-value.ensures.inside (le_refl _) (le_refl _) (λ n o. o)) (le_refl _) (λ n o. o) (λ n o e. o (cc (p.1, p.2, e)))

pub lists::feed_fragment-returns-in_err-push-clause-inside : goal.lists::feed_fragment-returns-in_err-push-clause-inside
lists::feed_fragment-returns-in_err-push-clause-inside g t c =
    let p = err_from_is_err_and c.from_residual-in_err-push.result c.from_residual-in_err-push.ensures.1 in
    costs_like {d' = sealed_depth (shape_of c.args.element.now)} (costs_then c.loop-list.invariant.6 c.feed_element.ensures.inside (le_refl _) (le_refl _) (λ n o. o)) (le_refl _) (λ n o. o) (λ n o e. absurd (let z : stop.Memory ≡ stop.Short = cc (p.1, p.2, e) in cc))

pub lists::feed_fragment-returns-clause-inside : goal.lists::feed_fragment-returns-clause-inside
lists::feed_fragment-returns-clause-inside g t c =
    costs_like c.loop-list.invariant.6 (le_refl _) (λ n o. o) (λ n o e. never (ap is_short e))

pub sequences::resume_sequence-returns-in-Some-Components-clause-inside : goal.sequences::resume_sequence-returns-in-Some-Components-clause-inside
sequences::resume_sequence-returns-in-Some-Components-clause-inside g t c =
    costs_like c.feed_sequence.ensures.inside (le_refl _) (λ n o. open_components g.R.ReadLeaves.rules g.R.FeedLeaves.fields g.R.ReadLeaves.ahead g.R.ReadLeaves.is_between c.args.node c.in-Some-Components.field-0 c.in-Some-Components.read (nodes c.args.frames.now) n c.in-Some-Components.is c.in-Some-Components.field-0-is o) (λ n o. o)

pub sequences::resume_sequence-returns-in-Some-Start-clause-inside : goal.sequences::resume_sequence-returns-in-Some-Start-clause-inside
sequences::resume_sequence-returns-in-Some-Start-clause-inside g t c =
    costs_like c.start_sequence.ensures.inside (le_refl _) (λ n o. tt) (λ n o. o)

pub sequences::resume_sequence-returns-in-None-clause-inside : goal.sequences::resume_sequence-returns-in-None-clause-inside
sequences::resume_sequence-returns-in-None-clause-inside g t c =
    costs_like c.start_sequence-in-None.ensures.inside (le_refl _) (λ n o. tt) (λ n o. o)

pub sequences::resume_sequence-returns-in-Some-clause-inside : goal.sequences::resume_sequence-returns-in-Some-clause-inside
sequences::resume_sequence-returns-in-Some-clause-inside g t c =
    costs_like c.feed_bitmap.ensures.inside (depth_of_additions (fields_seen c.args.root.now) (more_fields_of c.args.ext.now) (fields_seen c.as_slice.result.now) (marked_fields c.args.ext.now c.in-Some.additions c.as_slice.result.now c.in-Some.is c.as_slice.ensures.value)) (λ n o. tt) (λ n o. o)

pub sequences::resume_sequence-returns-in-Some-ext-clause-inside : goal.sequences::resume_sequence-returns-in-Some-ext-clause-inside
sequences::resume_sequence-returns-in-Some-ext-clause-inside g t c =
    costs_like c.feed_additions.ensures.inside (depth_of_additions (fields_seen c.args.root.now) (more_fields_of c.args.ext.now) (fields_seen c.as_slice-in-Some-Additions.result.now) (marked_fields c.args.ext.now c.in-Some-ext.additions c.as_slice-in-Some-Additions.result.now c.in-Some-ext.is c.as_slice-in-Some-Additions.ensures.value)) (λ n o. open_additions g.R.ReadLeaves.rules g.R.FeedLeaves.fields g.R.ReadLeaves.ahead g.R.ReadLeaves.is_between c.args.node c.in-Some-Additions.field-0 c.in-Some-Additions.read (nodes c.args.frames.now) n c.in-Some-Additions.is c.in-Some-Additions.field-0-is o) (λ n o. o)

pub sequences::start_sequence-returns-in-Ok-clause-inside : goal.sequences::start_sequence-returns-in-Ok-clause-inside
sequences::start_sequence-returns-in-Ok-clause-inside g t c =
    costs_after c.feed_sequence.ensures.inside (le_refl _) c.feed_leaf.ensures.inside (fewer_left c.feed_leaf.ensures.rising c.feed_leaf.ensures.ticked) (none_open g.R.ReadLeaves.rules g.R.FeedLeaves.fields g.R.ReadLeaves.ahead g.R.ReadLeaves.is_between (nodes c.args.frames.now) c.requires.empty)

pub sequences::start_sequence-returns-in-Ok-put-clause-inside : goal.sequences::start_sequence-returns-in-Ok-put-clause-inside
sequences::start_sequence-returns-in-Ok-put-clause-inside g t c =
    costs_same c.feed_leaf.ensures.inside (fewer_left c.feed_leaf.ensures.rising c.feed_leaf.ensures.ticked) (λ e. rw c.in-Ok-put.ensures refl)

pub sequences::start_sequence-returns-in-Err-clause-inside : goal.sequences::start_sequence-returns-in-Err-clause-inside
sequences::start_sequence-returns-in-Err-clause-inside g t c =
    costs_same c.feed_leaf.ensures.inside (fewer_left c.feed_leaf.ensures.rising c.feed_leaf.ensures.ticked) (λ e. never (ap is_short e))

pub sequences::start_sequence-returns-in-Err-Refused-clause-inside : goal.sequences::start_sequence-returns-in-Err-Refused-clause-inside
sequences::start_sequence-returns-in-Err-Refused-clause-inside g t c =
    costs_same c.feed_leaf.ensures.inside (fewer_left c.feed_leaf.ensures.rising c.feed_leaf.ensures.ticked) (λ e. never (ap is_short e))

pub sequences::start_sequence-returns-in-Err-Memory-clause-inside : goal.sequences::start_sequence-returns-in-Err-Memory-clause-inside
sequences::start_sequence-returns-in-Err-Memory-clause-inside g t c =
    costs_same c.feed_leaf.ensures.inside (fewer_left c.feed_leaf.ensures.rising c.feed_leaf.ensures.ticked) (λ e. never (ap is_short e))

pub sequences::feed_sequence-returns-in-Ok-clause-inside : goal.sequences::feed_sequence-returns-in-Ok-clause-inside
sequences::feed_sequence-returns-in-Ok-clause-inside g t c =
    costs_next c.feed_components.ensures.inside c.end_sequence.ensures.inside (depth_of_root (fields_seen c.args.root.now) (more_fields_of c.args.ext.now)) (le_refl _) tt

pub sequences::feed_sequence-returns-in-Ok-put-clause-inside : goal.sequences::feed_sequence-returns-in-Ok-put-clause-inside
sequences::feed_sequence-returns-in-Ok-put-clause-inside g t c =
    costs_like c.feed_components.ensures.inside (depth_of_root (fields_seen c.args.root.now) (more_fields_of c.args.ext.now)) (λ n o. o) (λ n o e. rw c.in-Ok-put.ensures (o (cc (c.in-Err-Short.is, c.in-Err-Short.field-0-is))))

pub sequences::feed_sequence-returns-in-Err-clause-inside : goal.sequences::feed_sequence-returns-in-Err-clause-inside
sequences::feed_sequence-returns-in-Err-clause-inside g t c =
    costs_like c.feed_components.ensures.inside (depth_of_root (fields_seen c.args.root.now) (more_fields_of c.args.ext.now)) (λ n o. o) (λ n o e. never (ap is_short e))

pub sequences::feed_sequence-returns-in-Err-Refused-clause-inside : goal.sequences::feed_sequence-returns-in-Err-Refused-clause-inside
sequences::feed_sequence-returns-in-Err-Refused-clause-inside g t c =
    costs_like c.feed_components.ensures.inside (depth_of_root (fields_seen c.args.root.now) (more_fields_of c.args.ext.now)) (λ n o. o) (λ n o e. never (ap is_short e))

pub sequences::feed_sequence-returns-in-Err-Memory-clause-inside : goal.sequences::feed_sequence-returns-in-Err-Memory-clause-inside
sequences::feed_sequence-returns-in-Err-Memory-clause-inside g t c =
    costs_like c.feed_components.ensures.inside (depth_of_root (fields_seen c.args.root.now) (more_fields_of c.args.ext.now)) (λ n o. o) (λ n o e. never (ap is_short e))

pub sequences::feed_components-returns-in_err-entry-clause-inside : goal.sequences::feed_components-returns-in_err-entry-clause-inside
sequences::feed_components-returns-in_err-entry-clause-inside g t c =
    let i = c.len-in-loop-alloc.result in
    let lt : i < length c.args.root.now = still_below (c.len-in-loop-alloc.ensures ∙ sym c.len.ensures) c.loop-alloc-test.true in
    let p = err_from_is_err_and c.from_residual.result c.from_residual.ensures.1 in
    costs_like (costs_then c.loop-alloc.invariant.4 c.in_err-entry.ensures.inside (le_refl _) (depth_of_component c.args.root.now i c.index-root-len.result lt c.index-root-len.is) (λ n o. o)) (le_refl _) (λ n o. o) (λ n o e. o (cc (p.1, p.2, e)))

pub sequences::feed_components-returns-in_err-push-clause-inside : goal.sequences::feed_components-returns-in_err-push-clause-inside
sequences::feed_components-returns-in_err-push-clause-inside g t c =
    let i = c.len-in-loop-alloc.result in
    let lt : i < length c.args.root.now = still_below (c.len-in-loop-alloc.ensures ∙ sym c.len.ensures) c.loop-alloc-test.true in
    let p = err_from_is_err_and c.from_residual-in_err-push.result c.from_residual-in_err-push.ensures.1 in
    costs_like (costs_then c.loop-alloc.invariant.4 c.feed_component.ensures.inside (le_refl _) (depth_of_component c.args.root.now i c.index-root-len.result lt c.index-root-len.is) (λ n o. o)) (le_refl _) (λ n o. o) (λ n o e. absurd (let z : stop.Memory ≡ stop.Short = cc (p.1, p.2, e) in cc))

pub sequences::feed_components-returns-clause-inside : goal.sequences::feed_components-returns-clause-inside
sequences::feed_components-returns-clause-inside g t c =
    costs_like c.loop-alloc.invariant.4 (le_refl _) (λ n o. o) (λ n o e. never (ap is_short e))

pub sequences::feed_component-returns-then-not-present-clause-inside : goal.sequences::feed_component-returns-then-not-present-clause-inside
sequences::feed_component-returns-then-not-present-clause-inside g t c =
    costs_same refl (le_refl _) (λ e. never (ap is_short e))

pub sequences::feed_component-returns-in_err-feed_other-in-Default-clause-inside : goal.sequences::feed_component-returns-in_err-feed_other-in-Default-clause-inside
sequences::feed_component-returns-in_err-feed_other-in-Default-clause-inside g t c =
    let p = err_from_is_err_and c.from_residual.result c.from_residual.ensures.1 in
    costs_like c.in_err-feed_other-in-Default.ensures.inside (no_levels _) (λ n o. tt) (λ n o e. o (cc (p.1, p.2, e)))

pub sequences::feed_component-returns-in_ok-feed_other-in-Default-clause-inside : goal.sequences::feed_component-returns-in_ok-feed_other-in-Default-clause-inside
sequences::feed_component-returns-in_ok-feed_other-in-Default-clause-inside g t c =
    costs_like c.feed_other.ensures.inside (no_levels _) (λ n o. tt) (λ n o e. never (ap is_short e))

pub sequences::feed_component-returns-in_err-feed-in-Must-clause-inside : goal.sequences::feed_component-returns-in_err-feed-in-Must-clause-inside
sequences::feed_component-returns-in_err-feed-in-Must-clause-inside g t c =
    let p = err_from_is_err_and c.from_residual-in_err-feed-in-Must.result c.from_residual-in_err-feed-in-Must.ensures.1 in
    costs_like c.in_err-feed-in-Must.ensures.inside (le_refl _) (λ n o. o) (λ n o e. o (cc (p.1, p.2, e)))

pub sequences::feed_component-returns-in_ok-feed-in-Must-clause-inside : goal.sequences::feed_component-returns-in_ok-feed-in-Must-clause-inside
sequences::feed_component-returns-in_ok-feed-in-Must-clause-inside g t c =
    costs_like c.feed.ensures.inside (le_refl _) (λ n o. o) (λ n o e. never (ap is_short e))

pub additions::end_sequence-returns-then-read-clause-inside : goal.additions::end_sequence-returns-then-read-clause-inside
additions::end_sequence-returns-then-read-clause-inside g t c =
    costs_like c.feed_bitmap.ensures.inside (depth_of_additions (fields_seen c.args.root.now) (more_fields_of c.args.ext.now) (fields_seen c.as_slice.result.now) (marked_fields c.args.ext.now c.in-Some.additions c.as_slice.result.now c.in-Some.is c.as_slice.ensures.value)) (λ n o. tt) (λ n o. o)

pub additions::end_sequence-returns-in-Ok-clause-inside : goal.additions::end_sequence-returns-in-Ok-clause-inside
additions::end_sequence-returns-in-Ok-clause-inside g t c =
    costs_same refl (le_refl _) (λ e. never (ap is_short e))

pub additions::end_sequence-returns-in-Err-clause-inside : goal.additions::end_sequence-returns-in-Err-clause-inside
additions::end_sequence-returns-in-Err-clause-inside g t c =
    costs_same refl (le_refl _) (λ e. never (ap is_short e))

pub additions::feed_bitmap-returns-in-Ok-clause-inside : goal.additions::feed_bitmap-returns-in-Ok-clause-inside
additions::feed_bitmap-returns-in-Ok-clause-inside g t c =
    costs_after c.feed_additions.ensures.inside (le_refl _) c.feed_leaf.ensures.inside (fewer_left c.feed_leaf.ensures.rising c.feed_leaf.ensures.ticked) (none_come g.R.ReadLeaves.rules g.R.FeedLeaves.fields g.R.ReadLeaves.ahead g.R.ReadLeaves.is_between (nodes c.args.frames.now) c.requires.empty)

pub additions::feed_bitmap-returns-in-Ok-put-clause-inside : goal.additions::feed_bitmap-returns-in-Ok-put-clause-inside
additions::feed_bitmap-returns-in-Ok-put-clause-inside g t c =
    costs_same c.feed_leaf.ensures.inside (fewer_left c.feed_leaf.ensures.rising c.feed_leaf.ensures.ticked) (λ e. rw c.in-Ok-put.ensures refl)

pub additions::feed_bitmap-returns-in-Err-clause-inside : goal.additions::feed_bitmap-returns-in-Err-clause-inside
additions::feed_bitmap-returns-in-Err-clause-inside g t c =
    costs_same c.feed_leaf.ensures.inside (fewer_left c.feed_leaf.ensures.rising c.feed_leaf.ensures.ticked) (λ e. never (ap is_short e))

pub additions::feed_bitmap-returns-in-Err-Refused-clause-inside : goal.additions::feed_bitmap-returns-in-Err-Refused-clause-inside
additions::feed_bitmap-returns-in-Err-Refused-clause-inside g t c =
    costs_same c.feed_leaf.ensures.inside (fewer_left c.feed_leaf.ensures.rising c.feed_leaf.ensures.ticked) (λ e. never (ap is_short e))

pub additions::feed_bitmap-returns-in-Err-Memory-clause-inside : goal.additions::feed_bitmap-returns-in-Err-Memory-clause-inside
additions::feed_bitmap-returns-in-Err-Memory-clause-inside g t c =
    costs_same c.feed_leaf.ensures.inside (fewer_left c.feed_leaf.ensures.rising c.feed_leaf.ensures.ticked) (λ e. never (ap is_short e))

pub additions::feed_additions-returns-in-Ok-clause-inside : goal.additions::feed_additions-returns-in-Ok-clause-inside
additions::feed_additions-returns-in-Ok-clause-inside g t c =
    costs_like c.feed_open_fields.ensures.inside (le_refl _) (λ n o. o) (λ n o e. never (ap is_short e))

pub additions::feed_additions-returns-in-Ok-put-clause-inside : goal.additions::feed_additions-returns-in-Ok-put-clause-inside
additions::feed_additions-returns-in-Ok-put-clause-inside g t c =
    costs_like c.feed_open_fields.ensures.inside (le_refl _) (λ n o. o) (λ n o e. rw c.in-Ok-put.ensures (o (cc (c.in-Err-Short.is, c.in-Err-Short.field-0-is))))

pub additions::feed_additions-returns-in-Err-clause-inside : goal.additions::feed_additions-returns-in-Err-clause-inside
additions::feed_additions-returns-in-Err-clause-inside g t c =
    costs_like c.feed_open_fields.ensures.inside (le_refl _) (λ n o. o) (λ n o e. never (ap is_short e))

pub additions::feed_additions-returns-in-Err-Refused-clause-inside : goal.additions::feed_additions-returns-in-Err-Refused-clause-inside
additions::feed_additions-returns-in-Err-Refused-clause-inside g t c =
    costs_like c.feed_open_fields.ensures.inside (le_refl _) (λ n o. o) (λ n o e. never (ap is_short e))

pub additions::feed_additions-returns-in-Err-Memory-clause-inside : goal.additions::feed_additions-returns-in-Err-Memory-clause-inside
additions::feed_additions-returns-in-Err-Memory-clause-inside g t c =
    costs_like c.feed_open_fields.ensures.inside (le_refl _) (λ n o. o) (λ n o e. never (ap is_short e))

pub additions::feed_open_fields-returns-in_err-entry-clause-inside : goal.additions::feed_open_fields-returns-in_err-entry-clause-inside
additions::feed_open_fields-returns-in_err-entry-clause-inside g t c =
    let w = left_within g.R.ReadLeaves.rules c.keep_laws.ensures c.keep_feed_laws.ensures g.R.FeedLeaves.fields g.R.ReadLeaves.ahead g.R.ReadLeaves.is_between (fields_seen c.args._root.now) c.args.additions.now c.requires.of_profile c.loop-read.read (nodes c.loop-read.frames) c.requires.reached.0 (g.R.ReadLeaves.rules.to_units c.loop-read.units) (c.loop-read.invariant.0 c.requires.reached.0 c.requires.reached.1) in
    let i = length c.args.additions.now - c.loop-read.read.presence.left in
    let lt : i < length c.args.additions.now = next_inside w.0 c.loop-read-test.true in
    let p = err_from_is_err_and c.from_residual.result c.from_residual.ensures.1 in
    costs_like (costs_then c.loop-read.invariant.4 c.in_err-entry.ensures.inside (le_refl _) (depth_of_addition c.args.additions.now i c.index-additions-index.result lt c.index-additions-index.is) (λ n o. o)) (le_refl _) (λ n o. o) (λ n o e. o (cc (p.1, p.2, e)))

pub additions::feed_open_fields-returns-in_err-push-clause-inside : goal.additions::feed_open_fields-returns-in_err-push-clause-inside
additions::feed_open_fields-returns-in_err-push-clause-inside g t c =
    let w = left_within g.R.ReadLeaves.rules c.keep_laws.ensures c.keep_feed_laws.ensures g.R.FeedLeaves.fields g.R.ReadLeaves.ahead g.R.ReadLeaves.is_between (fields_seen c.args._root.now) c.args.additions.now c.requires.of_profile c.loop-read.read (nodes c.loop-read.frames) c.requires.reached.0 (g.R.ReadLeaves.rules.to_units c.loop-read.units) (c.loop-read.invariant.0 c.requires.reached.0 c.requires.reached.1) in
    let i = length c.args.additions.now - c.loop-read.read.presence.left in
    let lt : i < length c.args.additions.now = next_inside w.0 c.loop-read-test.true in
    let p = err_from_is_err_and c.from_residual-in_err-push.result c.from_residual-in_err-push.ensures.1 in
    costs_like (costs_then c.loop-read.invariant.4 c.feed_addition.ensures.inside (le_refl _) (depth_of_addition c.args.additions.now i c.index-additions-index.result lt c.index-additions-index.is) (λ n o. o)) (le_refl _) (λ n o. o) (λ n o e. absurd (let z : stop.Memory ≡ stop.Short = cc (p.1, p.2, e) in cc))

pub additions::feed_open_fields-returns-clause-inside : goal.additions::feed_open_fields-returns-clause-inside
additions::feed_open_fields-returns-clause-inside g t c =
    costs_like c.loop-read.invariant.4 (le_refl _) (λ n o. o) (λ n o e. never (ap is_short e))

pub additions::feed_addition-returns-then-not-present-clause-inside : goal.additions::feed_addition-returns-then-not-present-clause-inside
additions::feed_addition-returns-then-not-present-clause-inside g t c =
    costs_same refl (le_refl _) (λ e. never (ap is_short e))

pub additions::feed_addition-returns-in_err-feed_open_field-clause-inside : goal.additions::feed_addition-returns-in_err-feed_open_field-clause-inside
additions::feed_addition-returns-in_err-feed_open_field-clause-inside g t c =
    let p = err_from_is_err_and c.from_residual.result c.from_residual.ensures.1 in
    costs_like c.feed_open_field.ensures.inside (le_refl _) (λ n o. o) (λ n o e. o (cc (p.1, p.2, e)))

pub additions::feed_addition-returns-clause-inside : goal.additions::feed_addition-returns-clause-inside
additions::feed_addition-returns-clause-inside g t c =
    costs_like c.feed_open_field.ensures.inside (le_refl _) (λ n o. o) (λ n o e. never (ap is_short e))

pub open_fields::feed_open_field-returns-in_err-octets-clause-inside : goal.open_fields::feed_open_field-returns-in_err-octets-clause-inside
open_fields::feed_open_field-returns-in_err-octets-clause-inside g t c =
    let p = err_from_is_err_and c.from_residual.result c.from_residual.ensures.1 in
    record {
      pays = λ k n h w. (
          let less : length (g.R.ReadLeaves.rules.to_units c.feed_octets.new.units) ≤ length (g.R.ReadLeaves.rules.to_units c.args.units.now) = fewer_left c.feed_octets.ensures.rising c.feed_octets.ensures.ticked in
          let q = field_stops g.R.ReadLeaves.rules g.R.FeedLeaves.fields g.R.ReadLeaves.ahead g.R.ReadLeaves.is_between (nodes c.feed_octets.new.frames) w.0 c.args.units.now c.feed_octets.new.units c.in_err-octets.field-0.0 k n c.args.ticks.now.inside c.feed_octets.new.ticks.inside w.2 (c.in_err-octets.ensures.kept w.0 w.1) c.in_err-octets.ensures.after less c.feed_octets.ensures.inside in
          record { still = q.still; is_open = λ e. q.is_open (cc (p.1, p.2, e)); cost = q.cost });
    }

pub open_fields::feed_open_field-returns-clause-inside : goal.open_fields::feed_open_field-returns-clause-inside
open_fields::feed_open_field-returns-clause-inside g t c =
    record {
      pays = λ k n h w. (
          let mid = length (g.R.ReadLeaves.rules.to_units c.feed_octets.new.units) in
          let content = length (g.R.ReadLeaves.rules.ruling.units c.as_slice.result.now) in
          let read = same_spells c.keep_field_laws.ensures.same (c.in_ok-octets.ensures.done w.0 w.1) in
          let field = content_within g.R.ReadLeaves.rules c.keep_laws.ensures c.as_slice.result.now (w.0 ++ g.R.ReadLeaves.rules.to_units c.args.units.now) (g.R.ReadLeaves.rules.to_units c.feed_octets.new.units) (rw (← c.as_slice.ensures.value) at read) in
          let all = length-append w.0 (g.R.ReadLeaves.rules.to_units c.args.units.now) in
          let within : content + mid ≤ n + length (g.R.ReadLeaves.rules.to_units c.args.units.now) = omega (arith, field, all, w.2) in
          let inside : c.add_inside.new.self.inside ≤ c.args.ticks.now.inside + k * content = adds_inside c.args.ticks.now.inside c.feed_octets.new.ticks.inside c.add_inside.new.self.inside (c.read_content-value.new.ticks.taken + c.read_content-value.new.ticks.inside) (k * content) (2 ^ 64 - 1) c.feed_octets.ensures.inside c.add_inside.ensures.inside (c.read_content-value.ensures.cost k h) in
          record {
            still = 0;
            is_open = λ e. (let z : ⊥ = rw e at c.read_content-value.ensures.after in absurd z);
            cost = field_pays k c.args.ticks.now.inside c.add_inside.new.self.inside n (length (g.R.ReadLeaves.rules.to_units c.args.units.now)) mid content inside within;
          });
    }

pub open_fields::read_content-returns-in-Ok-clause-cost : goal.open_fields::read_content-returns-in-Ok-clause-cost
open_fields::read_content-returns-in-Ok-clause-cost g t c =
    λ k h.
    let os = c.args.octets.now in
    let over : g.R.ReadLeaves.rules.to_units c.over-units.result ≡ g.R.ReadLeaves.rules.ruling.units os = ap g.R.ReadLeaves.rules.to_units c.over-units.ensures ∙ c.keep_laws.ensures.over os c.requires.content.2 in
    level_of_none c.read_complete.new.ticks.taken c.read_complete.new.ticks.inside c.args.ticks.now.taken c.args.ticks.now.inside k (length (g.R.ReadLeaves.rules.to_units c.over-units.result)) (length (g.R.ReadLeaves.rules.ruling.units os)) (c.read_complete.ensures.cost k h) c.requires.none c.requires.none_inside (ap length over)

pub open_fields::read_content-returns-in-Ok-2-clause-cost : goal.open_fields::read_content-returns-in-Ok-2-clause-cost
open_fields::read_content-returns-in-Ok-2-clause-cost g t c =
    λ k h.
    let os = c.args.octets.now in
    let over : g.R.ReadLeaves.rules.to_units c.over-units.result ≡ g.R.ReadLeaves.rules.ruling.units os = ap g.R.ReadLeaves.rules.to_units c.over-units.ensures ∙ c.keep_laws.ensures.over os c.requires.content.2 in
    level_of_none c.read_complete.new.ticks.taken c.read_complete.new.ticks.inside c.args.ticks.now.taken c.args.ticks.now.inside k (length (g.R.ReadLeaves.rules.to_units c.over-units.result)) (length (g.R.ReadLeaves.rules.ruling.units os)) (c.read_complete.ensures.cost k h) c.requires.none c.requires.none_inside (ap length over)

pub open_fields::read_content-returns-in-Err-Short-clause-cost : goal.open_fields::read_content-returns-in-Err-Short-clause-cost
open_fields::read_content-returns-in-Err-Short-clause-cost g t c =
    λ k h.
    let os = c.args.octets.now in
    let over : g.R.ReadLeaves.rules.to_units c.over-units.result ≡ g.R.ReadLeaves.rules.ruling.units os = ap g.R.ReadLeaves.rules.to_units c.over-units.ensures ∙ c.keep_laws.ensures.over os c.requires.content.2 in
    level_of_none c.read_complete.new.ticks.taken c.read_complete.new.ticks.inside c.args.ticks.now.taken c.args.ticks.now.inside k (length (g.R.ReadLeaves.rules.to_units c.over-units.result)) (length (g.R.ReadLeaves.rules.ruling.units os)) (c.read_complete.ensures.cost k h) c.requires.none c.requires.none_inside (ap length over)

pub open_fields::read_content-returns-in-Err-Refused-clause-cost : goal.open_fields::read_content-returns-in-Err-Refused-clause-cost
open_fields::read_content-returns-in-Err-Refused-clause-cost g t c =
    λ k h.
    let os = c.args.octets.now in
    let over : g.R.ReadLeaves.rules.to_units c.over-units.result ≡ g.R.ReadLeaves.rules.ruling.units os = ap g.R.ReadLeaves.rules.to_units c.over-units.ensures ∙ c.keep_laws.ensures.over os c.requires.content.2 in
    level_of_none c.read_complete.new.ticks.taken c.read_complete.new.ticks.inside c.args.ticks.now.taken c.args.ticks.now.inside k (length (g.R.ReadLeaves.rules.to_units c.over-units.result)) (length (g.R.ReadLeaves.rules.ruling.units os)) (c.read_complete.ensures.cost k h) c.requires.none c.requires.none_inside (ap length over)

pub open_fields::read_content-returns-in-Err-Memory-clause-cost : goal.open_fields::read_content-returns-in-Err-Memory-clause-cost
open_fields::read_content-returns-in-Err-Memory-clause-cost g t c =
    λ k h.
    let os = c.args.octets.now in
    let over : g.R.ReadLeaves.rules.to_units c.over-units.result ≡ g.R.ReadLeaves.rules.ruling.units os = ap g.R.ReadLeaves.rules.to_units c.over-units.ensures ∙ c.keep_laws.ensures.over os c.requires.content.2 in
    level_of_none c.read_complete.new.ticks.taken c.read_complete.new.ticks.inside c.args.ticks.now.taken c.args.ticks.now.inside k (length (g.R.ReadLeaves.rules.to_units c.over-units.result)) (length (g.R.ReadLeaves.rules.ruling.units os)) (c.read_complete.ensures.cost k h) c.requires.none c.requires.none_inside (ap length over)

pub open_fields::read_complete-returns-in_err-value-clause-cost : goal.open_fields::read_complete-returns-in_err-value-clause-cost
open_fields::read_complete-returns-in_err-value-clause-cost g t c =
    λ k h. level_costs c.feed.ensures.inside (none_open g.R.ReadLeaves.rules g.R.FeedLeaves.fields g.R.ReadLeaves.ahead g.R.ReadLeaves.is_between (nodes c.none-frames.result) c.none-frames.ensures) c.feed.new.ticks.taken c.args.ticks.now.taken (taken_at_most _ c.feed.ensures.ticked) k h

pub open_fields::read_complete-returns-in_err-read_padding-clause-cost : goal.open_fields::read_complete-returns-in_err-read_padding-clause-cost
open_fields::read_complete-returns-in_err-read_padding-clause-cost g t c =
    λ k h. level_costs c.feed.ensures.inside (none_open g.R.ReadLeaves.rules g.R.FeedLeaves.fields g.R.ReadLeaves.ahead g.R.ReadLeaves.is_between (nodes c.none-frames.result) c.none-frames.ensures) c.feed.new.ticks.taken c.args.ticks.now.taken (taken_at_most _ c.feed.ensures.ticked) k h

pub open_fields::read_complete-returns-clause-cost : goal.open_fields::read_complete-returns-clause-cost
open_fields::read_complete-returns-clause-cost g t c =
    λ k h.
    let most : c.take_to.new.ticks.taken ≤ c.args.ticks.now.taken + length (g.R.ReadLeaves.rules.to_units c.args.units.now) = taken_at_most _ (c.take_to.ensures.ticked ∙ c.feed.ensures.ticked) in
    rw c.take_to.ensures.inside (level_costs c.feed.ensures.inside (none_open g.R.ReadLeaves.rules g.R.FeedLeaves.fields g.R.ReadLeaves.ahead g.R.ReadLeaves.is_between (nodes c.none-frames.result) c.none-frames.ensures) c.take_to.new.ticks.taken c.args.ticks.now.taken most k h)

pub choices::resume_choice-returns-in-Some-Chosen-clause-inside : goal.choices::resume_choice-returns-in-Some-Chosen-clause-inside
choices::resume_choice-returns-in-Some-Chosen-clause-inside g t c =
    costs_like c.feed_choice.ensures.inside (depth_of_alternatives (alternatives_seen c.args.root.now) (more_alternatives_of c.args.ext.now)) (λ n o. open_chosen g.R.ReadLeaves.rules g.R.FeedLeaves.fields g.R.ReadLeaves.ahead g.R.ReadLeaves.is_between c.args.node c.in-Some-Chosen.field-0 c.in-Some-Chosen.index (nodes c.args.frames.now) n c.in-Some-Chosen.is c.in-Some-Chosen.field-0-is o) (λ n o. o)

pub choices::resume_choice-returns-in-Some-Added-clause-inside : goal.choices::resume_choice-returns-in-Some-Added-clause-inside
choices::resume_choice-returns-in-Some-Added-clause-inside g t c =
    costs_like c.feed_added.ensures.inside (le_refl _) (λ n o. open_added g.R.ReadLeaves.rules g.R.FeedLeaves.fields g.R.ReadLeaves.ahead g.R.ReadLeaves.is_between c.args.node c.in-Some-Added.field-0 c.in-Some-Added.index (nodes c.args.frames.now) n c.in-Some-Added.is c.in-Some-Added.field-0-is o) (λ n o. o)

pub choices::resume_choice-returns-in-Some-Start-clause-inside : goal.choices::resume_choice-returns-in-Some-Start-clause-inside
choices::resume_choice-returns-in-Some-Start-clause-inside g t c =
    costs_like c.start_choice.ensures.inside (le_refl _) (λ n o. tt) (λ n o. o)

pub choices::resume_choice-returns-in-None-clause-inside : goal.choices::resume_choice-returns-in-None-clause-inside
choices::resume_choice-returns-in-None-clause-inside g t c =
    costs_like c.start_choice-in-None.ensures.inside (le_refl _) (λ n o. tt) (λ n o. o)

pub choices::start_choice-returns-in-Ok-Root-clause-inside : goal.choices::start_choice-returns-in-Ok-Root-clause-inside
choices::start_choice-returns-in-Ok-Root-clause-inside g t c =
    costs_after c.feed_choice.ensures.inside (depth_of_alternatives (alternatives_seen c.args.root.now) (more_alternatives_of c.args.ext.now)) c.feed_leaf.ensures.inside (fewer_left c.feed_leaf.ensures.rising c.feed_leaf.ensures.ticked) (none_open g.R.ReadLeaves.rules g.R.FeedLeaves.fields g.R.ReadLeaves.ahead g.R.ReadLeaves.is_between (nodes c.args.frames.now) c.requires.empty)

pub choices::start_choice-returns-in-Ok-Added-clause-inside : goal.choices::start_choice-returns-in-Ok-Added-clause-inside
choices::start_choice-returns-in-Ok-Added-clause-inside g t c =
    costs_after c.feed_added.ensures.inside (le_refl _) c.feed_leaf.ensures.inside (fewer_left c.feed_leaf.ensures.rising c.feed_leaf.ensures.ticked) (none_come g.R.ReadLeaves.rules g.R.FeedLeaves.fields g.R.ReadLeaves.ahead g.R.ReadLeaves.is_between (nodes c.args.frames.now) c.requires.empty)

pub choices::start_choice-returns-in-Ok-clause-inside : goal.choices::start_choice-returns-in-Ok-clause-inside
choices::start_choice-returns-in-Ok-clause-inside g t c =
    costs_same c.feed_leaf.ensures.inside (fewer_left c.feed_leaf.ensures.rising c.feed_leaf.ensures.ticked) (λ e. rw c.in-Ok.ensures refl)

pub choices::start_choice-returns-in-Err-clause-inside : goal.choices::start_choice-returns-in-Err-clause-inside
choices::start_choice-returns-in-Err-clause-inside g t c =
    costs_same c.feed_leaf.ensures.inside (fewer_left c.feed_leaf.ensures.rising c.feed_leaf.ensures.ticked) (λ e. never (ap is_short e))

pub choices::start_choice-returns-in-Err-Refused-clause-inside : goal.choices::start_choice-returns-in-Err-Refused-clause-inside
choices::start_choice-returns-in-Err-Refused-clause-inside g t c =
    costs_same c.feed_leaf.ensures.inside (fewer_left c.feed_leaf.ensures.rising c.feed_leaf.ensures.ticked) (λ e. never (ap is_short e))

pub choices::start_choice-returns-in-Err-Memory-clause-inside : goal.choices::start_choice-returns-in-Err-Memory-clause-inside
choices::start_choice-returns-in-Err-Memory-clause-inside g t c =
    costs_same c.feed_leaf.ensures.inside (fewer_left c.feed_leaf.ensures.rising c.feed_leaf.ensures.ticked) (λ e. never (ap is_short e))

pub choices::feed_choice-returns-in-Ok-new-clause-inside : goal.choices::feed_choice-returns-in-Ok-new-clause-inside
choices::feed_choice-returns-in-Ok-new-clause-inside g t c =
    costs_like c.feed.ensures.inside (depth_of_alternative c.args.root.now c.args.index c.index-root-index.result c.requires.inside c.index-root-index.is) (λ n o. o) (λ n o e. never (ap is_short e))

pub choices::feed_choice-returns-in-Ok-clause-inside : goal.choices::feed_choice-returns-in-Ok-clause-inside
choices::feed_choice-returns-in-Ok-clause-inside g t c =
    costs_like c.feed.ensures.inside (depth_of_alternative c.args.root.now c.args.index c.index-root-index.result c.requires.inside c.index-root-index.is) (λ n o. o) (λ n o e. never (ap is_short e))

pub choices::feed_choice-returns-in-Ok-put-clause-inside : goal.choices::feed_choice-returns-in-Ok-put-clause-inside
choices::feed_choice-returns-in-Ok-put-clause-inside g t c =
    costs_like c.feed.ensures.inside (depth_of_alternative c.args.root.now c.args.index c.index-root-index.result c.requires.inside c.index-root-index.is) (λ n o. o) (λ n o e. rw c.in-Ok-put.ensures (o (cc (c.in-Err-Short.is, c.in-Err-Short.field-0-is))))

pub choices::feed_choice-returns-in-Err-Short-clause-inside : goal.choices::feed_choice-returns-in-Err-Short-clause-inside
choices::feed_choice-returns-in-Err-Short-clause-inside g t c =
    costs_like c.feed.ensures.inside (depth_of_alternative c.args.root.now c.args.index c.index-root-index.result c.requires.inside c.index-root-index.is) (λ n o. o) (λ n o e. never (ap is_short e))

pub choices::feed_choice-returns-in-Err-Refused-clause-inside : goal.choices::feed_choice-returns-in-Err-Refused-clause-inside
choices::feed_choice-returns-in-Err-Refused-clause-inside g t c =
    costs_like c.feed.ensures.inside (depth_of_alternative c.args.root.now c.args.index c.index-root-index.result c.requires.inside c.index-root-index.is) (λ n o. o) (λ n o e. never (ap is_short e))

pub choices::feed_choice-returns-clause-inside : goal.choices::feed_choice-returns-clause-inside
choices::feed_choice-returns-clause-inside g t c =
    costs_like c.feed.ensures.inside (depth_of_alternative c.args.root.now c.args.index c.index-root-index.result c.requires.inside c.index-root-index.is) (λ n o. o) (λ n o e. never (ap is_short e))

pub choices::feed_added-returns-in-Ok-new-clause-inside : goal.choices::feed_added-returns-in-Ok-new-clause-inside
choices::feed_added-returns-in-Ok-new-clause-inside g t c =
    let inside : c.args.index < length c.as_slice-additions.result.now = rw c.as_slice-additions.ensures.value (addition_inside g.R.ReadLeaves.rules c.keep_laws.ensures g.R.FeedLeaves.fields g.R.ReadLeaves.ahead g.R.ReadLeaves.is_between c.args.root.now c.args.ext.now c.requires.of_profile c.in-Some.additions c.in-Some.is c.args.index (nodes c.args.frames.now) c.requires.reached.0 (g.R.ReadLeaves.rules.to_units c.args.units.now) c.requires.reached.1) in
    let one = depth_of_added_one c.as_slice-additions.result.now c.args.index c.index-additions-index.result inside c.index-additions-index.is in
    let all = depth_of_added (alternatives_seen c.args.root.now) (more_alternatives_of c.args.ext.now) (alternatives_seen c.as_slice-additions.result.now) (additions_are c.args.ext.now c.in-Some.additions c.as_slice-additions.result.now c.in-Some.is c.as_slice-additions.ensures.value) in
    costs_like c.feed_open_field.ensures.inside (le_trans one all) (λ n o. o) (λ n o e. never (ap is_short e))

pub choices::feed_added-returns-in-Ok-clause-inside : goal.choices::feed_added-returns-in-Ok-clause-inside
choices::feed_added-returns-in-Ok-clause-inside g t c =
    let inside : c.args.index < length c.as_slice-additions.result.now = rw c.as_slice-additions.ensures.value (addition_inside g.R.ReadLeaves.rules c.keep_laws.ensures g.R.FeedLeaves.fields g.R.ReadLeaves.ahead g.R.ReadLeaves.is_between c.args.root.now c.args.ext.now c.requires.of_profile c.in-Some.additions c.in-Some.is c.args.index (nodes c.args.frames.now) c.requires.reached.0 (g.R.ReadLeaves.rules.to_units c.args.units.now) c.requires.reached.1) in
    let one = depth_of_added_one c.as_slice-additions.result.now c.args.index c.index-additions-index.result inside c.index-additions-index.is in
    let all = depth_of_added (alternatives_seen c.args.root.now) (more_alternatives_of c.args.ext.now) (alternatives_seen c.as_slice-additions.result.now) (additions_are c.args.ext.now c.in-Some.additions c.as_slice-additions.result.now c.in-Some.is c.as_slice-additions.ensures.value) in
    costs_like c.feed_open_field.ensures.inside (le_trans one all) (λ n o. o) (λ n o e. never (ap is_short e))

pub choices::feed_added-returns-in-Ok-put-clause-inside : goal.choices::feed_added-returns-in-Ok-put-clause-inside
choices::feed_added-returns-in-Ok-put-clause-inside g t c =
    let inside : c.args.index < length c.as_slice-additions.result.now = rw c.as_slice-additions.ensures.value (addition_inside g.R.ReadLeaves.rules c.keep_laws.ensures g.R.FeedLeaves.fields g.R.ReadLeaves.ahead g.R.ReadLeaves.is_between c.args.root.now c.args.ext.now c.requires.of_profile c.in-Some.additions c.in-Some.is c.args.index (nodes c.args.frames.now) c.requires.reached.0 (g.R.ReadLeaves.rules.to_units c.args.units.now) c.requires.reached.1) in
    let one = depth_of_added_one c.as_slice-additions.result.now c.args.index c.index-additions-index.result inside c.index-additions-index.is in
    let all = depth_of_added (alternatives_seen c.args.root.now) (more_alternatives_of c.args.ext.now) (alternatives_seen c.as_slice-additions.result.now) (additions_are c.args.ext.now c.in-Some.additions c.as_slice-additions.result.now c.in-Some.is c.as_slice-additions.ensures.value) in
    costs_like c.feed_open_field.ensures.inside (le_trans one all) (λ n o. o) (λ n o e. rw c.in-Ok-put.ensures (o (cc (c.in-Err-Short.is, c.in-Err-Short.field-0-is))))

pub choices::feed_added-returns-in-Err-Short-clause-inside : goal.choices::feed_added-returns-in-Err-Short-clause-inside
choices::feed_added-returns-in-Err-Short-clause-inside g t c =
    let inside : c.args.index < length c.as_slice-additions.result.now = rw c.as_slice-additions.ensures.value (addition_inside g.R.ReadLeaves.rules c.keep_laws.ensures g.R.FeedLeaves.fields g.R.ReadLeaves.ahead g.R.ReadLeaves.is_between c.args.root.now c.args.ext.now c.requires.of_profile c.in-Some.additions c.in-Some.is c.args.index (nodes c.args.frames.now) c.requires.reached.0 (g.R.ReadLeaves.rules.to_units c.args.units.now) c.requires.reached.1) in
    let one = depth_of_added_one c.as_slice-additions.result.now c.args.index c.index-additions-index.result inside c.index-additions-index.is in
    let all = depth_of_added (alternatives_seen c.args.root.now) (more_alternatives_of c.args.ext.now) (alternatives_seen c.as_slice-additions.result.now) (additions_are c.args.ext.now c.in-Some.additions c.as_slice-additions.result.now c.in-Some.is c.as_slice-additions.ensures.value) in
    costs_like c.feed_open_field.ensures.inside (le_trans one all) (λ n o. o) (λ n o e. never (ap is_short e))

pub choices::feed_added-returns-in-Err-Refused-clause-inside : goal.choices::feed_added-returns-in-Err-Refused-clause-inside
choices::feed_added-returns-in-Err-Refused-clause-inside g t c =
    let inside : c.args.index < length c.as_slice-additions.result.now = rw c.as_slice-additions.ensures.value (addition_inside g.R.ReadLeaves.rules c.keep_laws.ensures g.R.FeedLeaves.fields g.R.ReadLeaves.ahead g.R.ReadLeaves.is_between c.args.root.now c.args.ext.now c.requires.of_profile c.in-Some.additions c.in-Some.is c.args.index (nodes c.args.frames.now) c.requires.reached.0 (g.R.ReadLeaves.rules.to_units c.args.units.now) c.requires.reached.1) in
    let one = depth_of_added_one c.as_slice-additions.result.now c.args.index c.index-additions-index.result inside c.index-additions-index.is in
    let all = depth_of_added (alternatives_seen c.args.root.now) (more_alternatives_of c.args.ext.now) (alternatives_seen c.as_slice-additions.result.now) (additions_are c.args.ext.now c.in-Some.additions c.as_slice-additions.result.now c.in-Some.is c.as_slice-additions.ensures.value) in
    costs_like c.feed_open_field.ensures.inside (le_trans one all) (λ n o. o) (λ n o e. never (ap is_short e))

pub choices::feed_added-returns-clause-inside : goal.choices::feed_added-returns-clause-inside
choices::feed_added-returns-clause-inside g t c =
    let inside : c.args.index < length c.as_slice-additions.result.now = rw c.as_slice-additions.ensures.value (addition_inside g.R.ReadLeaves.rules c.keep_laws.ensures g.R.FeedLeaves.fields g.R.ReadLeaves.ahead g.R.ReadLeaves.is_between c.args.root.now c.args.ext.now c.requires.of_profile c.in-Some.additions c.in-Some.is c.args.index (nodes c.args.frames.now) c.requires.reached.0 (g.R.ReadLeaves.rules.to_units c.args.units.now) c.requires.reached.1) in
    let one = depth_of_added_one c.as_slice-additions.result.now c.args.index c.index-additions-index.result inside c.index-additions-index.is in
    let all = depth_of_added (alternatives_seen c.args.root.now) (more_alternatives_of c.args.ext.now) (alternatives_seen c.as_slice-additions.result.now) (additions_are c.args.ext.now c.in-Some.additions c.as_slice-additions.result.now c.in-Some.is c.as_slice-additions.ensures.value) in
    costs_like c.feed_open_field.ensures.inside (le_trans one all) (λ n o. o) (λ n o e. never (ap is_short e))

-- ---- before the first turn of a loop

pub lists::feed_elements-loop-alloc-init : goal.lists::feed_elements-loop-alloc-init
lists::feed_elements-loop-alloc-init g t c = (λ all h. h, refl, c.requires.at_unit, le_refl _, costs_none)

pub lists::feed_fragment-loop-list-init : goal.lists::feed_fragment-loop-list-init
lists::feed_fragment-loop-list-init g t c = (λ s p all h. h, refl, c.requires.at_unit, refl, le_refl _, le_refl _, costs_none)

pub sequences::feed_components-loop-alloc-init : goal.sequences::feed_components-loop-alloc-init
sequences::feed_components-loop-alloc-init g t c = (λ more p all h. h, refl, c.requires.at_unit, le_refl _, costs_none)

pub additions::feed_open_fields-loop-read-init : goal.additions::feed_open_fields-loop-read-init
additions::feed_open_fields-loop-read-init g t c = (λ all h. h, refl, c.requires.at_unit, le_refl _, costs_none)

-- ---- an element

-- units of it wait
pub lists::feed_element-feed_small-requires-clause-small : goal.lists::feed_element-feed_small-requires-clause-small
lists::feed_element-feed_small-requires-clause-small g t c =
    let r = g.R.ReadLeaves.rules in
    let n : c.args.begun.now ≡ [] → ⊥ = λ e. (let yes = c.is_none.ensures.1 e in absurd (true≢false (sym yes ∙ c.if-not-is_none.true))) in
    (waits_took r c.keep_feed_laws.ensures g.R.FeedLeaves.fields g.R.ReadLeaves.ahead g.R.ReadLeaves.is_between (shape_of c.args.ty.now) c.args.begun.now (nodes c.args.frames.now) c.requires.reached.0 n c.requires.reached.1).1.0

pub lists::feed_element-feed_small-requires-clause-waits : goal.lists::feed_element-feed_small-requires-clause-waits
lists::feed_element-feed_small-requires-clause-waits g t c =
    let r = g.R.ReadLeaves.rules in
    let n : c.args.begun.now ≡ [] → ⊥ = λ e. (let yes = c.is_none.ensures.1 e in absurd (true≢false (sym yes ∙ c.if-not-is_none.true))) in
    let w = (waits_took r c.keep_feed_laws.ensures g.R.FeedLeaves.fields g.R.ReadLeaves.ahead g.R.ReadLeaves.is_between (shape_of c.args.ty.now) c.args.begun.now (nodes c.args.frames.now) c.requires.reached.0 n c.requires.reached.1).1.1 in
    record { come = refl; at_unit = w.at_unit; begins = w.begins }

-- none waits, and the piece has it whole
pub lists::feed_element-returns-in-Some-clause-done : goal.lists::feed_element-returns-in-Some-clause-done
lists::feed_element-returns-in-Some-clause-done g t c =
    let r = g.R.ReadLeaves.rules in
    reads_nodes r c.keep_feed_laws.ensures g.R.FeedLeaves.fields g.R.ReadLeaves.ahead g.R.ReadLeaves.is_between (shape_of c.args.ty.now) c.args.begun.now (nodes c.args.frames.now) c.args.units.now (datum_of c.in-Some.value) c.whole_value.new.units (c.is_none.ensures.0 c.if-not-is_none.false) c.in-Some.ensures.done

pub lists::feed_element-returns-in-Some-clause-inside : goal.lists::feed_element-returns-in-Some-clause-inside
lists::feed_element-returns-in-Some-clause-inside g t c =
    costs_same c.whole_value.ensures.inside (fewer_left c.whole_value.ensures.rising c.whole_value.ensures.ticked) (λ e. never (ap is_short e))

-- it is to come
pub lists::feed_element-returns-then-is_to_come-clause-stop : goal.lists::feed_element-returns-then-is_to_come-clause-stop
lists::feed_element-returns-then-is_to_come-clause-stop g t c =
    let r = g.R.ReadLeaves.rules in
    let still = (c.whole_value.ensures.still (ap is_some c.in_default.is)).0 in
    let none = c.is_to_come.ensures.yes c.if-is_to_come.true in
    let units : r.to_units c.args.units.now ≡ [] = ap r.to_units (sym still) ∙ none.1 in
    to_come_stops r c.keep_laws.ensures c.keep_feed_laws.ensures g.R.FeedLeaves.fields c.keep_hold_laws.ensures g.R.ReadLeaves.ahead g.R.ReadLeaves.is_between (shape_of c.args.ty.now) c.requires.listed.0 c.requires.listed.1 c.args.begun.now (nodes c.args.frames.now) c.args.units.now (c.is_none.ensures.0 c.if-not-is_none.false) none.0 units

-- it is a row of numbers
pub lists::feed_element-returns-then-is_row-clause-inside : goal.lists::feed_element-returns-then-is_row-clause-inside
lists::feed_element-returns-then-is_row-clause-inside g t c =
    let w = c.feed_small-then-is_row.ensures in
    costs_same (w.inside ∙ c.whole_value.ensures.inside) (le_trans (fewer_left w.rising w.ticked) (fewer_left c.whole_value.ensures.rising c.whole_value.ensures.ticked)) (λ e. none_open g.R.ReadLeaves.rules g.R.FeedLeaves.fields g.R.ReadLeaves.ahead g.R.ReadLeaves.is_between (nodes c.args.frames.now) (c.is_row.ensures.none c.if-is_row.true))

-- it goes through its nodes
pub lists::feed_element-returns-clause-done : goal.lists::feed_element-returns-clause-done
lists::feed_element-returns-clause-done g t c =
    let r = g.R.ReadLeaves.rules in
    let still = (c.whole_value.ensures.still (ap is_some c.in_default.is)).0 in
    IfOk-weaker c.feed.result _ _ (λ v k. reads_nodes r c.keep_feed_laws.ensures g.R.FeedLeaves.fields g.R.ReadLeaves.ahead g.R.ReadLeaves.is_between (shape_of c.args.ty.now) c.args.begun.now (nodes c.args.frames.now) c.args.units.now (datum_of v) c.feed.new.units (c.is_none.ensures.0 c.if-not-is_none.false) (rw still at k)) c.feed.ensures.done

pub lists::feed_element-returns-clause-stop : goal.lists::feed_element-returns-clause-stop
lists::feed_element-returns-clause-stop g t c =
    let r = g.R.ReadLeaves.rules in
    let still = (c.whole_value.ensures.still (ap is_some c.in_default.is)).0 in
    IfErr-weaker c.feed.result _ _ (λ why k. stops_nodes r c.keep_feed_laws.ensures g.R.FeedLeaves.fields g.R.ReadLeaves.ahead g.R.ReadLeaves.is_between (shape_of c.args.ty.now) c.args.begun.now (nodes c.args.frames.now) c.args.units.now why (c.is_none.ensures.0 c.if-not-is_none.false) (rw still at k)) c.feed.ensures.stop

pub lists::feed_element-returns-clause-kept : goal.lists::feed_element-returns-clause-kept
lists::feed_element-returns-clause-kept g t c =
    let r = g.R.ReadLeaves.rules in
    let still = (c.whole_value.ensures.still (ap is_some c.in_default.is)).0 in
    let e = c.is_none.ensures.0 c.if-not-is_none.false in
    IfErr-weaker c.feed.result _ _ (λ why k. element_kept r c.keep_feed_laws.ensures g.R.FeedLeaves.fields g.R.ReadLeaves.ahead g.R.ReadLeaves.is_between (shape_of c.args.ty.now) c.args.begun.now (nodes c.args.frames.now) c.args.units.now c.args.begun.now (nodes c.feed.new.frames) why e e (λ x z. (let yes = c.is_to_come.ensures.no x (ap r.to_units still ∙ z) in absurd (true≢false (sym yes ∙ c.if-is_to_come.false)))) (rw still at k)) c.feed.ensures.kept

pub lists::feed_element-returns-clause-inside : goal.lists::feed_element-returns-clause-inside
lists::feed_element-returns-clause-inside g t c =
    let still = (c.whole_value.ensures.still (ap is_some c.in_default.is)).0 in
    rw (sym still, sym c.whole_value.ensures.inside) c.feed.ensures.inside
