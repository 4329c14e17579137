use Rattle.std.proofs.Common.{◌≡◌, ◌-◌, ◌+◌, ◌++◌, ℕ, List, length, ap, ◌∙◌, arith}
use Rattle.std.proofs.lemmas.List.{length-append}
use Rattle.std.proofs.lemmas.Result.{err_from_is_err_and}
use Rattle.asn_rules.proofs.Languages.Leads.{stops_by}
use Rattle.asn_values.specs.View.{shape_of, datum_of}
use Rattle.asn_walk.proofs.OpenRead.{value_stops, fill_leads, left_fewer}
use Rattle.asn_walk_feed.specs.Nodes.{nodes}
use Rattle.asn_walk_feed.proofs.CompleteRead.{filling_kept}
use Rattle.asn_walk_feed.proofs.Levels.{is_short, never, costs_like, costs_last, none_open}
use Rattle.asn_walk_feed.proofs.complete.feed_complete.Goals as goal

pub feed-requires : goal.feed-requires
feed-requires g c =
    record { at_unit = c.requires.at_unit; of_profile = c.requires.of_profile; reached = (c.requires.reached.0, c.requires.reached.1); few = c.requires.few }

pub returns-in_err-value-clause-stop : goal.returns-in_err-value-clause-stop
returns-in_err-value-clause-stop g c =
    let p = err_from_is_err_and c.from_residual.result c.from_residual.ensures.1 in
    rw (p.1, p.2) (λ us k e. stops_by _ (value_stops g.R.ReadLeaves.rules c.keep_laws.ensures (shape_of c.args.ty.now) c.requires.of_profile (us ++ g.R.ReadLeaves.rules.to_units c.args.units.now)) (c.in_err-value.ensures.stop us k))

pub returns-in_err-value-clause-kept : goal.returns-in_err-value-clause-kept
returns-in_err-value-clause-kept g c =
    let p = err_from_is_err_and c.from_residual.result c.from_residual.ensures.1 in
    rw (p.1, p.2) (λ us k e. c.in_err-value.ensures.kept us k)

pub overflow_sub-value_units : goal.overflow_sub-value_units
overflow_sub-value_units g c =
    let a = (c.units_left-left.ensures ∙ ap (λ (xs : List ℕ). length (g.R.ReadLeaves.rules.to_units xs)) c.ahead.ensures) in
    let b = (c.units_left-rest.ensures ∙ ap (λ (xs : List ℕ). length (g.R.ReadLeaves.rules.to_units xs)) c.ahead-2.ensures) in
    let fewer = left_fewer (c.in_ok-value.ensures.done c.requires.reached.0 c.requires.reached.1) in
    omega (arith, a, b, fewer, length-append c.requires.reached.0 (g.R.ReadLeaves.rules.to_units c.args.units.now), c.requires.reached.2)

pub returns-in_err-feed_leaf-clause-stop : goal.returns-in_err-feed_leaf-clause-stop
returns-in_err-feed_leaf-clause-stop g c =
    let p = err_from_is_err_and c.from_residual-in_err-feed_leaf.result c.from_residual-in_err-feed_leaf.ensures.1 in
    let a = (c.units_left-left.ensures ∙ ap (λ (xs : List ℕ). length (g.R.ReadLeaves.rules.to_units xs)) c.ahead.ensures) in
    let b = (c.units_left-rest.ensures ∙ ap (λ (xs : List ℕ). length (g.R.ReadLeaves.rules.to_units xs)) c.ahead-2.ensures) in
    let n : (us : List ℕ) → length us ≡ c.args.taken → c.from.result + c.units_left-left.result - c.units_left-rest.result ≡ length (us ++ g.R.ReadLeaves.rules.to_units c.args.units.now) - length (g.R.ReadLeaves.rules.to_units c.feed.new.units) = λ us e. omega (arith, a, b, e, length-append us (g.R.ReadLeaves.rules.to_units c.args.units.now), c.from.ensures) in
    rw (p.1, p.2) (λ us k e. stops_by _ (fill_leads g.R.ReadLeaves.rules c.keep_laws.ensures (shape_of c.args.ty.now) c.requires.of_profile (datum_of c.in_ok-value.value) (us ++ g.R.ReadLeaves.rules.to_units c.args.units.now) (g.R.ReadLeaves.rules.to_units c.feed.new.units) (c.in_ok-value.ensures.done us k)).stops (rw (n us e, c.none-begun.ensures, c.keep_feed_laws.ensures.none) at c.in_err-feed_leaf.ensures.stop))

pub returns-in_err-feed_leaf-clause-kept : goal.returns-in_err-feed_leaf-clause-kept
returns-in_err-feed_leaf-clause-kept g c =
    let p = err_from_is_err_and c.from_residual-in_err-feed_leaf.result c.from_residual-in_err-feed_leaf.ensures.1 in
    let a = (c.units_left-left.ensures ∙ ap (λ (xs : List ℕ). length (g.R.ReadLeaves.rules.to_units xs)) c.ahead.ensures) in
    let b = (c.units_left-rest.ensures ∙ ap (λ (xs : List ℕ). length (g.R.ReadLeaves.rules.to_units xs)) c.ahead-2.ensures) in
    let n : (us : List ℕ) → length us ≡ c.args.taken → c.from.result + c.units_left-left.result - c.units_left-rest.result ≡ length (us ++ g.R.ReadLeaves.rules.to_units c.args.units.now) - length (g.R.ReadLeaves.rules.to_units c.feed.new.units) = λ us e. omega (arith, a, b, e, length-append us (g.R.ReadLeaves.rules.to_units c.args.units.now), c.from.ensures) in
    rw (p.1, p.2) (λ us k e. filling_kept g.R.ReadLeaves.rules c.keep_feed_laws.ensures g.R.FeedLeaves.fields g.R.ReadLeaves.ahead g.R.ReadLeaves.is_between (shape_of c.args.ty.now) (datum_of c.in_ok-value.value) (us ++ g.R.ReadLeaves.rules.to_units c.args.units.now) (g.R.ReadLeaves.rules.to_units c.feed.new.units) (c.in_ok-value.ensures.done us k) (rw (length-append us (g.R.ReadLeaves.rules.to_units c.args.units.now), e) c.requires.octets) (nodes c.feed.new.frames) _ c.in_ok-value.ensures.emptied (rw (n us e, c.none-begun.ensures, c.keep_feed_laws.ensures.none) at c.in_err-feed_leaf.ensures.stop))

pub returns-clause-done : goal.returns-clause-done
returns-clause-done g c =
    let a = (c.units_left-left.ensures ∙ ap (λ (xs : List ℕ). length (g.R.ReadLeaves.rules.to_units xs)) c.ahead.ensures) in
    let b = (c.units_left-rest.ensures ∙ ap (λ (xs : List ℕ). length (g.R.ReadLeaves.rules.to_units xs)) c.ahead-2.ensures) in
    let n : (us : List ℕ) → length us ≡ c.args.taken → c.from.result + c.units_left-left.result - c.units_left-rest.result ≡ length (us ++ g.R.ReadLeaves.rules.to_units c.args.units.now) - length (g.R.ReadLeaves.rules.to_units c.feed.new.units) = λ us e. omega (arith, a, b, e, length-append us (g.R.ReadLeaves.rules.to_units c.args.units.now), c.from.ensures) in
    λ us k e. (fill_leads g.R.ReadLeaves.rules c.keep_laws.ensures (shape_of c.args.ty.now) c.requires.of_profile (datum_of c.in_ok-value.value) (us ++ g.R.ReadLeaves.rules.to_units c.args.units.now) (g.R.ReadLeaves.rules.to_units c.feed.new.units) (c.in_ok-value.ensures.done us k)).done c.in_ok-feed_leaf.field-0 (g.R.ReadLeaves.rules.to_units c.feed_leaf.new.units) (rw (n us e, c.none-begun.ensures, c.keep_feed_laws.ensures.none) at c.in_ok-feed_leaf.ensures.done)

pub returns-in_err-value-clause-inside : goal.returns-in_err-value-clause-inside
returns-in_err-value-clause-inside g c =
    let p = err_from_is_err_and c.from_residual.result c.from_residual.ensures.1 in
    costs_like c.feed.ensures.inside (omega arith) (λ n o. o) (λ n o e. o (cc (p.1, p.2, e)))

pub returns-in_err-feed_leaf-clause-inside : goal.returns-in_err-feed_leaf-clause-inside
returns-in_err-feed_leaf-clause-inside g c =
    costs_last c.feed.ensures.inside (omega arith) (λ e. none_open g.R.ReadLeaves.rules g.R.FeedLeaves.fields g.R.ReadLeaves.ahead g.R.ReadLeaves.is_between (nodes c.feed.new.frames) c.in_ok-value.ensures.emptied) c.feed_leaf.ensures.inside (omega (arith, c.feed_leaf.ensures.ticked, c.feed_leaf.ensures.rising))

pub returns-clause-inside : goal.returns-clause-inside
returns-clause-inside g c =
    costs_last c.feed.ensures.inside (omega arith) (λ e. never (ap is_short e)) c.feed_leaf.ensures.inside (omega (arith, c.feed_leaf.ensures.ticked, c.feed_leaf.ensures.rising))
