use Rattle.std.proofs.Common.{◌≡◌, ◌<◌, ◌+◌, length, refl, ◌∙◌, arith}
use Rattle.std.proofs.lemmas.Result.{err_from_is_err_and}
use Rattle.asn_rules.specs.declared.stop.Stop.TheVariants as stop
use Rattle.asn_walk.proofs.Listing.{steps_left}
use Rattle.asn_walk_feed.proofs.OctetsRead.{length_begun, length_stops, length_ends, length_kept, length_more, length_nearer}
use Rattle.asn_walk_feed.proofs.octets.feed_fragments.Goals as goal

pub feed_fragment-requires : goal.feed_fragment-requires
feed_fragment-requires g c =
    let inv = c.loop-alloc.invariant in
    record { good = c.requires.good; at_unit = inv.2; reached = (c.requires.reached.0, inv.0 c.requires.reached.0 c.requires.reached.1); few = omega (arith, inv.1, c.requires.few) }

pub returns-in_err-feed_fragment-clause-stop : goal.returns-in_err-feed_fragment-clause-stop
returns-in_err-feed_fragment-clause-stop g c =
    let p = err_from_is_err_and c.from_residual.result c.from_residual.ensures.1 in
    rw (p.1, p.2) (λ all h. c.in_err-feed_fragment.ensures.stop all (c.loop-alloc.invariant.0 all h))

pub returns-in_err-feed_fragment-clause-kept : goal.returns-in_err-feed_fragment-clause-kept
returns-in_err-feed_fragment-clause-kept g c =
    λ e all h.
    let p = err_from_is_err_and c.from_residual.result c.from_residual.ensures.1 in
    c.in_err-feed_fragment.ensures.kept (cc (p.1, p.2, e)) all (c.loop-alloc.invariant.0 all h)

pub next_fragment-requires : goal.next_fragment-requires
next_fragment-requires g c =
    let k = (c.in_ok-feed_fragment.ensures.done c.requires.reached.0 (c.loop-alloc.invariant.0 c.requires.reached.0 c.requires.reached.1)) in
    let b = length_begun g.R.ReadLeaves.rules c.keep_laws.ensures c.keep_feed_laws.ensures (g.K.InFragments.coding c.args.kind.now) c.keep_octet_laws.ensures g.R.ReadLeaves.ahead g.R.ReadLeaves.is_between c.feed_fragment.new.octets c.requires.reached.0 (g.R.ReadLeaves.rules.to_units c.feed_fragment.new.units) c.in_ok-feed_fragment.ensures.over k in
    record { at_unit = c.feed_fragment.ensures.at_unit; between = k.between_is; begun = b.1; begins = b.0; few = omega (arith, c.loop-alloc.invariant.1, c.feed_fragment.ensures.ticked, c.requires.few) }

pub returns-in_err-next_fragment-clause-stop : goal.returns-in_err-next_fragment-clause-stop
returns-in_err-next_fragment-clause-stop g c =
    let p = err_from_is_err_and c.from_residual-in_err-next_fragment.result c.from_residual-in_err-next_fragment.ensures.1 in
    rw (p.1, p.2) (λ all h. length_stops g.R.ReadLeaves.rules c.keep_laws.ensures c.keep_feed_laws.ensures (g.K.InFragments.coding c.args.kind.now) c.keep_octet_laws.ensures g.R.ReadLeaves.ahead g.R.ReadLeaves.is_between c.feed_fragment.new.octets all (g.R.ReadLeaves.rules.to_units c.feed_fragment.new.units) _ c.in_ok-feed_fragment.ensures.over (c.in_ok-feed_fragment.ensures.done all (c.loop-alloc.invariant.0 all h)) c.in_err-next_fragment.ensures.stop)

pub returns-in_err-next_fragment-clause-kept : goal.returns-in_err-next_fragment-clause-kept
returns-in_err-next_fragment-clause-kept g c =
    λ e all h.
    let p = err_from_is_err_and c.from_residual-in_err-next_fragment.result c.from_residual-in_err-next_fragment.ensures.1 in
    let w : c.in_err-next_fragment.field-0.0 ≡ stop.Short = cc (p.1, p.2, e) in
    length_kept g.R.ReadLeaves.rules c.keep_laws.ensures c.keep_feed_laws.ensures (g.K.InFragments.coding c.args.kind.now) c.keep_octet_laws.ensures g.R.ReadLeaves.ahead g.R.ReadLeaves.is_between c.feed_fragment.new.octets c.next_fragment.new.list all (g.R.ReadLeaves.rules.to_units c.feed_fragment.new.units) (g.R.ReadLeaves.rules.to_units c.next_fragment.new.units) c.in_ok-feed_fragment.ensures.over (c.in_ok-feed_fragment.ensures.done all (c.loop-alloc.invariant.0 all h)) c.in_err-next_fragment.ensures.same.1 c.in_err-next_fragment.ensures.same.0 c.next_fragment.ensures.elements c.in_err-next_fragment.ensures.begun (rw w at c.in_err-next_fragment.ensures.kept) (rw w at c.in_err-next_fragment.ensures.after) (rw w at c.in_err-next_fragment.ensures.stop)

pub returns-then-not-branch-clause-done : goal.returns-then-not-branch-clause-done
returns-then-not-branch-clause-done g c =
    λ all h.
    let k = length_ends g.R.ReadLeaves.rules c.keep_laws.ensures c.keep_feed_laws.ensures (g.K.InFragments.coding c.args.kind.now) c.keep_octet_laws.ensures g.R.ReadLeaves.ahead g.R.ReadLeaves.is_between c.feed_fragment.new.octets all (g.R.ReadLeaves.rules.to_units c.feed_fragment.new.units) (g.R.ReadLeaves.rules.to_units c.next_fragment.new.units) (g.R.ReadLeaves.ahead c.next_fragment.new.list.fragments) c.in_ok-feed_fragment.ensures.over (c.in_ok-feed_fragment.ensures.done all (c.loop-alloc.invariant.0 all h)) (c.next_fragment.ensures.none (cc (c.in_ok-next_fragment.was, c.if-not-branch.true))) in
    rw c.next_fragment.ensures.elements k

pub loop-alloc-preserved : goal.loop-alloc-preserved
loop-alloc-preserved g c =
    let inv = c.loop-alloc.invariant in (
      λ all h. length_more g.R.ReadLeaves.rules c.keep_laws.ensures c.keep_feed_laws.ensures (g.K.InFragments.coding c.args.kind.now) c.keep_octet_laws.ensures g.R.ReadLeaves.ahead g.R.ReadLeaves.is_between c.feed_fragment.new.octets c.next_fragment.new.list all (g.R.ReadLeaves.rules.to_units c.feed_fragment.new.units) (g.R.ReadLeaves.rules.to_units c.next_fragment.new.units) c.next_fragment.new.list.left c.in_ok-feed_fragment.ensures.over (c.in_ok-feed_fragment.ensures.done all (c.loop-alloc.invariant.0 all h)) refl c.next_fragment.ensures.elements c.in_ok-next_fragment.ensures.fresh c.next_fragment.ensures.between (c.next_fragment.ensures.more (cc (c.in_ok-next_fragment.was, c.if-not-branch.false))),
      omega (arith, inv.1, c.feed_fragment.ensures.ticked, c.next_fragment.ensures.ticked),
      c.next_fragment.ensures.at_unit,
      omega (arith, inv.3, c.feed_fragment.ensures.rising, c.next_fragment.ensures.rising),
      c.next_fragment.ensures.inside ∙ c.feed_fragment.ensures.inside ∙ inv.4,
    )

pub loop-alloc-smaller : goal.loop-alloc-smaller
loop-alloc-smaller g c =
    let k = length_nearer g.R.ReadLeaves.rules c.keep_laws.ensures c.keep_feed_laws.ensures (g.K.InFragments.coding c.args.kind.now) c.keep_octet_laws.ensures g.R.ReadLeaves.ahead g.R.ReadLeaves.is_between c.feed_fragment.new.octets c.requires.reached.0 (g.R.ReadLeaves.rules.to_units c.feed_fragment.new.units) (g.R.ReadLeaves.rules.to_units c.next_fragment.new.units) c.next_fragment.new.list.left (g.R.ReadLeaves.ahead c.next_fragment.new.list.fragments) c.in_ok-feed_fragment.ensures.over (c.in_ok-feed_fragment.ensures.done c.requires.reached.0 (c.loop-alloc.invariant.0 c.requires.reached.0 c.requires.reached.1)) (c.next_fragment.ensures.more (cc (c.in_ok-next_fragment.was, c.if-not-branch.false))) in
    let n : steps_left (g.R.ReadLeaves.ahead c.next_fragment.new.list.fragments) + length (g.R.ReadLeaves.rules.to_units c.next_fragment.new.units) < steps_left (g.R.ReadLeaves.ahead c.loop-alloc.octets.fragments) + length (g.R.ReadLeaves.rules.to_units c.feed_fragment.new.units) = rw c.in_ok-feed_fragment.ensures.fragments at k in
    omega (arith, n, c.in_ok-feed_fragment.ensures.shorter)
