use Rattle.std.proofs.Common.{◌≡◌, ◌++◌, [], refl, sym, ap, ◌∙◌, arith}
use Rattle.asn_walk_feed.specs.Nodes.{nodes}
use Rattle.asn_walk_feed.proofs.Levels.{is_short, never, costs_same, none_open}
use Rattle.asn_walk_feed.proofs.values.feed_scalar.Goals as goal

pub returns-in-Ok-clause-inside : goal.returns-in-Ok-clause-inside
returns-in-Ok-clause-inside g c =
    costs_same c.feed_leaf.ensures.inside (omega (arith, c.feed_leaf.ensures.ticked, c.feed_leaf.ensures.rising)) (λ e. never (ap is_short e))

pub returns-in-Ok-put-clause-inside : goal.returns-in-Ok-put-clause-inside
returns-in-Ok-put-clause-inside g c =
    costs_same c.feed_leaf.ensures.inside (omega (arith, c.feed_leaf.ensures.ticked, c.feed_leaf.ensures.rising)) (λ e. rw c.in-Ok-put.ensures refl)

pub returns-in-Err-put-clause-inside : goal.returns-in-Err-put-clause-inside
returns-in-Err-put-clause-inside g c =
    costs_same c.feed_leaf.ensures.inside (omega (arith, c.feed_leaf.ensures.ticked, c.feed_leaf.ensures.rising)) (λ e. never (ap is_short e))

pub returns-in-Err-clause-inside : goal.returns-in-Err-clause-inside
returns-in-Err-clause-inside g c =
    costs_same c.feed_leaf.ensures.inside (omega (arith, c.feed_leaf.ensures.ticked, c.feed_leaf.ensures.rising)) (λ e. none_open g.R.ReadLeaves.rules g.R.FeedLeaves.fields g.R.ReadLeaves.ahead g.R.ReadLeaves.is_between (nodes c.args.frames.now) c.requires.empty)

-- no unit has come
pub returns-then-is_none-clause-kept : goal.returns-then-is_none-clause-kept
returns-then-is_none-clause-kept g c =
    let U = g.R.ReadLeaves.rules.to_units in
    let e : U c.feed_leaf.new.begun ≡ U c.begun_of-begun.result ++ U c.args.units.now = rw c.in-Err-Short.field-0-is at c.in-Err-Short.ensures.kept in
    let z : U c.begun_of-begun.result ++ U c.args.units.now ≡ [] = sym e ∙ ap U (c.is_none.ensures.0 c.if-is_none.true) ∙ c.keep_feed_laws.ensures.none in
    rw c.requires.empty (rw c.begun_of-begun.ensures at z)

pub returns-then-is_none-clause-inside : goal.returns-then-is_none-clause-inside
returns-then-is_none-clause-inside g c =
    costs_same c.feed_leaf.ensures.inside (omega (arith, c.feed_leaf.ensures.ticked, c.feed_leaf.ensures.rising)) (λ e. none_open g.R.ReadLeaves.rules g.R.FeedLeaves.fields g.R.ReadLeaves.ahead g.R.ReadLeaves.is_between (nodes c.args.frames.now) c.requires.empty)
