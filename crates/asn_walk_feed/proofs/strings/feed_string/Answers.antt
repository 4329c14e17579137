use Rattle.std.proofs.Common.{◌++◌, ℕ, List, length, sym, ap, ◌∙◌, arith}
use Rattle.std.proofs.lemmas.Result.{err_from_is_err_and, IfOk-weaker, IfErr-weaker}
use Rattle.asn_values.specs.View.{shape_of}
use Rattle.asn_walk_feed.specs.Nodes.{nodes}
use Rattle.asn_walk_feed.proofs.FieldsRead.{stands_after}
use Rattle.asn_walk_feed.proofs.Levels.{costs_same, string_kept}
use Rattle.asn_walk_feed.proofs.StringsRead.{took_items, keeps_items, keeps_no_frames}
use Rattle.asn_walk_feed.proofs.strings.feed_string.Goals as goal

pub feed_octets-requires : goal.feed_octets-requires
feed_octets-requires g c =
    record { good = (c.requires.of_profile, c.requires.string); at_unit = c.requires.at_unit; reached = (c.requires.reached.0, took_items g.R.ReadLeaves.rules g.R.FeedLeaves.fields g.R.ReadLeaves.ahead g.R.ReadLeaves.is_between (shape_of c.args.ty.now) c.requires.string (nodes c.args.frames.now) c.requires.reached.0 c.requires.reached.1); few = c.requires.few }

pub returns-in_err-items-clause-stop : goal.returns-in_err-items-clause-stop
returns-in_err-items-clause-stop g c =
    let p = err_from_is_err_and c.from_residual.result c.from_residual.ensures.1 in
    rw (p.1, p.2) (λ us k. c.keep_string_laws.ensures.stops (shape_of c.args.ty.now) c.requires.of_profile c.requires.string (us ++ g.R.ReadLeaves.rules.to_units c.args.units.now) _ (c.in_err-items.ensures.stop us (took_items g.R.ReadLeaves.rules g.R.FeedLeaves.fields g.R.ReadLeaves.ahead g.R.ReadLeaves.is_between (shape_of c.args.ty.now) c.requires.string (nodes c.args.frames.now) us k)))

pub returns-in_err-items-clause-kept : goal.returns-in_err-items-clause-kept
returns-in_err-items-clause-kept g c =
    let p = err_from_is_err_and c.from_residual.result c.from_residual.ensures.1 in
    rw (p.1, p.2) (λ us k. keeps_items g.R.ReadLeaves.rules g.R.FeedLeaves.fields g.R.ReadLeaves.ahead g.R.ReadLeaves.is_between (shape_of c.args.ty.now) c.requires.string (nodes c.feed_octets.new.frames) (us ++ g.R.ReadLeaves.rules.to_units c.args.units.now) _ (c.in_err-items.ensures.kept us (took_items g.R.ReadLeaves.rules g.R.FeedLeaves.fields g.R.ReadLeaves.ahead g.R.ReadLeaves.is_between (shape_of c.args.ty.now) c.requires.string (nodes c.args.frames.now) us k)))

pub string_of-requires-clause-spelt : goal.string_of-requires-clause-spelt
string_of-requires-clause-spelt g c =
    let s = c.in_ok-items.ensures.done c.requires.reached.0 (took_items g.R.ReadLeaves.rules g.R.FeedLeaves.fields g.R.ReadLeaves.ahead g.R.ReadLeaves.is_between (shape_of c.args.ty.now) c.requires.string (nodes c.args.frames.now) c.requires.reached.0 c.requires.reached.1) in
    (s.chunks, s.spelt)

pub returns-clause-done : goal.returns-clause-done
returns-clause-done g c =
    IfOk-weaker c.string_of.result _ _ (λ v s us k. s (us ++ g.R.ReadLeaves.rules.to_units c.args.units.now) (g.R.ReadLeaves.rules.to_units c.feed_octets.new.units) (c.in_ok-items.ensures.done us (took_items g.R.ReadLeaves.rules g.R.FeedLeaves.fields g.R.ReadLeaves.ahead g.R.ReadLeaves.is_between (shape_of c.args.ty.now) c.requires.string (nodes c.args.frames.now) us k))) c.string_of.ensures.done

pub returns-clause-stop : goal.returns-clause-stop
returns-clause-stop g c =
    IfErr-weaker c.string_of.result _ _ (λ why s us k. s (us ++ g.R.ReadLeaves.rules.to_units c.args.units.now) (g.R.ReadLeaves.rules.to_units c.feed_octets.new.units) (c.in_ok-items.ensures.done us (took_items g.R.ReadLeaves.rules g.R.FeedLeaves.fields g.R.ReadLeaves.ahead g.R.ReadLeaves.is_between (shape_of c.args.ty.now) c.requires.string (nodes c.args.frames.now) us k)) (ap (λ (xs : List ℕ). length (g.R.ReadLeaves.rules.to_units xs)) (sym c.ahead.ensures) ∙ sym c.units_left-left.ensures)) c.string_of.ensures.stop

pub returns-clause-after : goal.returns-clause-after
returns-clause-after g c =
    IfErr-weaker c.string_of.result _ _ (λ why s. stands_after g.R.ReadLeaves.rules c.feed_octets.new.units c.units_left-left.result why (ap (λ (xs : List ℕ). length (g.R.ReadLeaves.rules.to_units xs)) (sym c.ahead.ensures) ∙ sym c.units_left-left.ensures) s) c.string_of.ensures.after

pub returns-clause-kept : goal.returns-clause-kept
returns-clause-kept g c =
    IfErr-weaker c.string_of.result _ _ (λ why s us k. keeps_no_frames g.R.ReadLeaves.rules g.R.FeedLeaves.fields g.R.ReadLeaves.ahead g.R.ReadLeaves.is_between (shape_of c.args.ty.now) (nodes c.feed_octets.new.frames) (us ++ g.R.ReadLeaves.rules.to_units c.args.units.now) c.units_left-left.result why s) c.string_of.ensures.after

pub returns-in_err-items-clause-inside : goal.returns-in_err-items-clause-inside
returns-in_err-items-clause-inside g c =
    let p = err_from_is_err_and c.from_residual.result c.from_residual.ensures.1 in
    let us = c.requires.reached.0 in
    let took = took_items g.R.ReadLeaves.rules g.R.FeedLeaves.fields g.R.ReadLeaves.ahead g.R.ReadLeaves.is_between (shape_of c.args.ty.now) c.requires.string (nodes c.args.frames.now) us c.requires.reached.1 in
    costs_same c.feed_octets.ensures.inside (omega (arith, c.feed_octets.ensures.ticked, c.feed_octets.ensures.rising)) (λ e. string_kept g.R.ReadLeaves.rules g.R.FeedLeaves.fields g.R.ReadLeaves.ahead g.R.ReadLeaves.is_between (g.R.FeedLeaves.fields.string (shape_of c.args.ty.now)) (nodes c.feed_octets.new.frames) (us ++ g.R.ReadLeaves.rules.to_units c.args.units.now) c.in_err-items.field-0.0 (c.in_err-items.ensures.kept us took) (cc (p.1, p.2, e)))

pub returns-clause-inside : goal.returns-clause-inside
returns-clause-inside g c =
    costs_same c.feed_octets.ensures.inside (omega (arith, c.feed_octets.ensures.ticked, c.feed_octets.ensures.rising)) (λ e. (let z : ⊥ = rw e at c.string_of.ensures.after in absurd z))
