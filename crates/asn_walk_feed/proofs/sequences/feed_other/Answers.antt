use Rattle.std.proofs.Common.{◌≡◌, ◌++◌, ◌∷◌, [], ℕ, List, inr, refl, sym, ap, ◌∙◌, subst, arith}
use Rattle.asn_values.specs.View.{shape_of, datum_of}
use Rattle.asn_rules.specs.Languages.{Spells, Short}
use Rattle.asn_rules.specs.Stops.{Stops}
use Rattle.asn_rules.specs.declared.stop.Stop.TheVariants as stop
use Rattle.asn_walk.specs.Reading.{OthersOf}
use Rattle.asn_walk_feed.specs.Feeding.{Waits}
use Rattle.asn_walk_feed.specs.Nodes.{nodes}
use Rattle.asn_walk_feed.specs.Roots.{OtherTook}
use Rattle.asn_walk_feed.specs.declared.frame.Frame.{Frame}
use Rattle.asn_walk_feed.specs.declared.frame.Frame.TheVariants as frame
use Rattle.asn_walk_feed.proofs.Goings.{taken_is}
use Rattle.asn_walk_feed.proofs.Levels.{is_short, never, costs_same}
use Rattle.asn_walk_feed.proofs.Scalars.{other_node}
use Rattle.asn_walk_feed.proofs.sequences.feed_other.Goals as goal

pub begun_of-begun-requires : goal.begun_of-begun-requires
begun_of-begun-requires g c =
    let x = other_node g.R.ReadLeaves.rules c.keep_feed_laws.ensures (datum_of c.args.default.now) (shape_of c.args.ty.now) c.take-node.result (nodes c.take-node.new.self) c.requires.reached.0 c.take-node.ensures.empty (subst (λ (fs : List (Frame g.row.R-Fragments.Denot)). OtherTook g.R.ReadLeaves.rules fs (datum_of c.args.default.now) (shape_of c.args.ty.now) c.requires.reached.0) (taken_is c.take-node.result (nodes c.args.frames.now) (nodes c.take-node.new.self) c.take-node.ensures.some c.take-node.ensures.none c.take-node.ensures.empty) c.requires.reached.1) in
    x.start

pub feed_leaf-requires-clause-begun : goal.feed_leaf-requires-clause-begun
feed_leaf-requires-clause-begun g c =
    let x = other_node g.R.ReadLeaves.rules c.keep_feed_laws.ensures (datum_of c.args.default.now) (shape_of c.args.ty.now) c.take-node.result (nodes c.take-node.new.self) c.requires.reached.0 c.take-node.ensures.empty (subst (λ (fs : List (Frame g.row.R-Fragments.Denot)). OtherTook g.R.ReadLeaves.rules fs (datum_of c.args.default.now) (shape_of c.args.ty.now) c.requires.reached.0) (taken_is c.take-node.result (nodes c.args.frames.now) (nodes c.take-node.new.self) c.take-node.ensures.some c.take-node.ensures.none c.take-node.ensures.empty) c.requires.reached.1) in
    rw c.begun_of-begun.ensures x.waits.at_unit

pub feed_leaf-requires-clause-begins : goal.feed_leaf-requires-clause-begins
feed_leaf-requires-clause-begins g c =
    let x = other_node g.R.ReadLeaves.rules c.keep_feed_laws.ensures (datum_of c.args.default.now) (shape_of c.args.ty.now) c.take-node.result (nodes c.take-node.new.self) c.requires.reached.0 c.take-node.ensures.empty (subst (λ (fs : List (Frame g.row.R-Fragments.Denot)). OtherTook g.R.ReadLeaves.rules fs (datum_of c.args.default.now) (shape_of c.args.ty.now) c.requires.reached.0) (taken_is c.take-node.result (nodes c.args.frames.now) (nodes c.take-node.new.self) c.take-node.ensures.some c.take-node.ensures.none c.take-node.ensures.empty) c.requires.reached.1) in
    rw c.begun_of-begun.ensures x.waits.begins

pub returns-in-Ok-clause-done : goal.returns-in-Ok-clause-done
returns-in-Ok-clause-done g c = λ us k.
    let x = other_node g.R.ReadLeaves.rules c.keep_feed_laws.ensures (datum_of c.args.default.now) (shape_of c.args.ty.now) c.take-node.result (nodes c.take-node.new.self) us c.take-node.ensures.empty (subst (λ (fs : List (Frame g.row.R-Fragments.Denot)). OtherTook g.R.ReadLeaves.rules fs (datum_of c.args.default.now) (shape_of c.args.ty.now) us) (taken_is c.take-node.result (nodes c.args.frames.now) (nodes c.take-node.new.self) c.take-node.ensures.some c.take-node.ensures.none c.take-node.ensures.empty) k) in
    subst (λ (xs : List ℕ). Spells g.R.ReadLeaves.rules.ruling.fielding (OthersOf g.R.ReadLeaves.rules (datum_of c.args.default.now) (shape_of c.args.ty.now)) (datum_of c.in-Ok.value) (xs ++ g.R.ReadLeaves.rules.to_units c.args.units.now) (g.R.ReadLeaves.rules.to_units c.feed_leaf.new.units)) (ap g.R.ReadLeaves.rules.to_units c.begun_of-begun.ensures ∙ x.waits.come) c.in-Ok.ensures.done

pub returns-in-Ok-clause-emptied : goal.returns-in-Ok-clause-emptied
returns-in-Ok-clause-emptied g c =
    let x = other_node g.R.ReadLeaves.rules c.keep_feed_laws.ensures (datum_of c.args.default.now) (shape_of c.args.ty.now) c.take-node.result (nodes c.take-node.new.self) c.requires.reached.0 c.take-node.ensures.empty (subst (λ (fs : List (Frame g.row.R-Fragments.Denot)). OtherTook g.R.ReadLeaves.rules fs (datum_of c.args.default.now) (shape_of c.args.ty.now) c.requires.reached.0) (taken_is c.take-node.result (nodes c.args.frames.now) (nodes c.take-node.new.self) c.take-node.ensures.some c.take-node.ensures.none c.take-node.ensures.empty) c.requires.reached.1) in
    x.last

pub returns-in-Ok-put-clause-stop : goal.returns-in-Ok-put-clause-stop
returns-in-Ok-put-clause-stop g c = λ us k.
    let x = other_node g.R.ReadLeaves.rules c.keep_feed_laws.ensures (datum_of c.args.default.now) (shape_of c.args.ty.now) c.take-node.result (nodes c.take-node.new.self) us c.take-node.ensures.empty (subst (λ (fs : List (Frame g.row.R-Fragments.Denot)). OtherTook g.R.ReadLeaves.rules fs (datum_of c.args.default.now) (shape_of c.args.ty.now) us) (taken_is c.take-node.result (nodes c.args.frames.now) (nodes c.take-node.new.self) c.take-node.ensures.some c.take-node.ensures.none c.take-node.ensures.empty) k) in
    let a : Stops g.R.ReadLeaves.rules.ruling.fielding (OthersOf g.R.ReadLeaves.rules (datum_of c.args.default.now) (shape_of c.args.ty.now)) (g.R.ReadLeaves.rules.to_units c.begun_of-begun.result ++ g.R.ReadLeaves.rules.to_units c.args.units.now) stop.Short = rw c.in-Err-Short.field-0-is at c.in-Err-Short.ensures.stop in
    subst (λ (xs : List ℕ). Stops g.R.ReadLeaves.rules.ruling.fielding (OthersOf g.R.ReadLeaves.rules (datum_of c.args.default.now) (shape_of c.args.ty.now)) (xs ++ g.R.ReadLeaves.rules.to_units c.args.units.now) stop.Short) (ap g.R.ReadLeaves.rules.to_units c.begun_of-begun.ensures ∙ x.waits.come) a

pub returns-in-Ok-put-clause-kept : goal.returns-in-Ok-put-clause-kept
returns-in-Ok-put-clause-kept g c = λ us k.
    let x = other_node g.R.ReadLeaves.rules c.keep_feed_laws.ensures (datum_of c.args.default.now) (shape_of c.args.ty.now) c.take-node.result (nodes c.take-node.new.self) us c.take-node.ensures.empty (subst (λ (fs : List (Frame g.row.R-Fragments.Denot)). OtherTook g.R.ReadLeaves.rules fs (datum_of c.args.default.now) (shape_of c.args.ty.now) us) (taken_is c.take-node.result (nodes c.args.frames.now) (nodes c.take-node.new.self) c.take-node.ensures.some c.take-node.ensures.none c.take-node.ensures.empty) k) in
    let b = c.feed_leaf.new.begun in
    let a : Stops g.R.ReadLeaves.rules.ruling.fielding (OthersOf g.R.ReadLeaves.rules (datum_of c.args.default.now) (shape_of c.args.ty.now)) (g.R.ReadLeaves.rules.to_units c.begun_of-begun.result ++ g.R.ReadLeaves.rules.to_units c.args.units.now) stop.Short = rw c.in-Err-Short.field-0-is at c.in-Err-Short.ensures.stop in
    let e : g.R.ReadLeaves.rules.to_units b ≡ g.R.ReadLeaves.rules.to_units c.begun_of-begun.result ++ g.R.ReadLeaves.rules.to_units c.args.units.now = rw c.in-Err-Short.field-0-is at c.in-Err-Short.ensures.kept in
    let s : Short g.R.ReadLeaves.rules.ruling.fielding (OthersOf g.R.ReadLeaves.rules (datum_of c.args.default.now) (shape_of c.args.ty.now)) (g.R.ReadLeaves.rules.to_units b) = subst (λ (xs : List ℕ). Short g.R.ReadLeaves.rules.ruling.fielding (OthersOf g.R.ReadLeaves.rules (datum_of c.args.default.now) (shape_of c.args.ty.now)) xs) (sym e) a.told in
    let w : Waits g.R.ReadLeaves.rules (OthersOf g.R.ReadLeaves.rules (datum_of c.args.default.now) (shape_of c.args.ty.now)) b (us ++ g.R.ReadLeaves.rules.to_units c.args.units.now) = record { come = e ∙ ap (λ (xs : List ℕ). xs ++ g.R.ReadLeaves.rules.to_units c.args.units.now) (ap g.R.ReadLeaves.rules.to_units c.begun_of-begun.ensures ∙ x.waits.come); at_unit = c.in-Err-Short.ensures.begun; begins = inr s } in
    let fs : nodes c.put.new.self ≡ frame.Start b ∷ [] = c.in-Ok-put.ensures ∙ ap (λ (gs : List (Frame g.row.R-Fragments.Denot)). frame.Start b ∷ gs) x.last in
    subst (λ (fs : List (Frame g.row.R-Fragments.Denot)). OtherTook g.R.ReadLeaves.rules fs (datum_of c.args.default.now) (shape_of c.args.ty.now) (us ++ g.R.ReadLeaves.rules.to_units c.args.units.now)) (sym fs) w

pub returns-in-Err-Refused-clause-stop : goal.returns-in-Err-Refused-clause-stop
returns-in-Err-Refused-clause-stop g c = λ us k.
    let x = other_node g.R.ReadLeaves.rules c.keep_feed_laws.ensures (datum_of c.args.default.now) (shape_of c.args.ty.now) c.take-node.result (nodes c.take-node.new.self) us c.take-node.ensures.empty (subst (λ (fs : List (Frame g.row.R-Fragments.Denot)). OtherTook g.R.ReadLeaves.rules fs (datum_of c.args.default.now) (shape_of c.args.ty.now) us) (taken_is c.take-node.result (nodes c.args.frames.now) (nodes c.take-node.new.self) c.take-node.ensures.some c.take-node.ensures.none c.take-node.ensures.empty) k) in
    let w = stop.Refused c.in-Err-Refused.left c.in-Err-Refused.why in
    let a : Stops g.R.ReadLeaves.rules.ruling.fielding (OthersOf g.R.ReadLeaves.rules (datum_of c.args.default.now) (shape_of c.args.ty.now)) (g.R.ReadLeaves.rules.to_units c.begun_of-begun.result ++ g.R.ReadLeaves.rules.to_units c.args.units.now) w = rw c.in-Err-Refused.field-0-is at c.in-Err-Refused.ensures.stop in
    rw (c.in-Err-Refused.left-is, c.in-Err-Refused.why-is) (subst (λ (xs : List ℕ). Stops g.R.ReadLeaves.rules.ruling.fielding (OthersOf g.R.ReadLeaves.rules (datum_of c.args.default.now) (shape_of c.args.ty.now)) (xs ++ g.R.ReadLeaves.rules.to_units c.args.units.now) w) (ap g.R.ReadLeaves.rules.to_units c.begun_of-begun.ensures ∙ x.waits.come) a)

pub returns-in-Ok-clause-inside : goal.returns-in-Ok-clause-inside
returns-in-Ok-clause-inside g c =
    costs_same c.feed_leaf.ensures.inside (omega (arith, c.feed_leaf.ensures.ticked, c.feed_leaf.ensures.rising)) (λ e. never (ap is_short e))

pub returns-in-Ok-put-clause-inside : goal.returns-in-Ok-put-clause-inside
returns-in-Ok-put-clause-inside g c =
    costs_same c.feed_leaf.ensures.inside (omega (arith, c.feed_leaf.ensures.ticked, c.feed_leaf.ensures.rising)) (λ e. rw c.in-Ok-put.ensures refl)

pub returns-in-Err-clause-inside : goal.returns-in-Err-clause-inside
returns-in-Err-clause-inside g c =
    costs_same c.feed_leaf.ensures.inside (omega (arith, c.feed_leaf.ensures.ticked, c.feed_leaf.ensures.rising)) (λ e. never (ap is_short e))

pub returns-in-Err-Refused-clause-inside : goal.returns-in-Err-Refused-clause-inside
returns-in-Err-Refused-clause-inside g c =
    costs_same c.feed_leaf.ensures.inside (omega (arith, c.feed_leaf.ensures.ticked, c.feed_leaf.ensures.rising)) (λ e. never (ap is_short e))

pub returns-in-Err-Memory-clause-inside : goal.returns-in-Err-Memory-clause-inside
returns-in-Err-Memory-clause-inside g c =
    costs_same c.feed_leaf.ensures.inside (omega (arith, c.feed_leaf.ensures.ticked, c.feed_leaf.ensures.rising)) (λ e. never (ap is_short e))
