use Rattle.std.proofs.Common.{◌∙◌, arith}
use Rattle.std.proofs.lemmas.Result.{err_from_is_err_and}
use Rattle.asn_walk_feed.proofs.octets.feed_fragment.Goals as goal

pub feed_next-requires : goal.feed_next-requires
feed_next-requires g c =
    let inv = c.loop-octets.invariant in
    record { good = c.requires.good; at_unit = inv.2; left = c.loop-octets-test.true; reached = (c.requires.reached.0, inv.0 c.requires.reached.0 c.requires.reached.1); few = omega (arith, inv.1, c.requires.few) }

pub returns-in_err-feed_next-clause-stop : goal.returns-in_err-feed_next-clause-stop
returns-in_err-feed_next-clause-stop g c =
    let p = err_from_is_err_and c.from_residual.result c.from_residual.ensures.1 in
    rw (p.1, p.2) (λ all h. c.in_err-feed_next.ensures.stop all (c.loop-octets.invariant.0 all h))

pub returns-in_err-feed_next-clause-kept : goal.returns-in_err-feed_next-clause-kept
returns-in_err-feed_next-clause-kept g c =
    λ e all h.
    let p = err_from_is_err_and c.from_residual.result c.from_residual.ensures.1 in
    c.in_err-feed_next.ensures.kept (cc (p.1, p.2, e)) all (c.loop-octets.invariant.0 all h)

pub loop-octets-preserved : goal.loop-octets-preserved
loop-octets-preserved g c =
    let inv = c.loop-octets.invariant in (
      λ all h. c.in_ok-feed_next.ensures.done all (inv.0 all h),
      omega (arith, inv.1, c.feed_next.ensures.ticked),
      c.feed_next.ensures.at_unit,
      c.in_ok-feed_next.ensures.fragments ∙ inv.3,
      omega (arith, inv.4, c.in_ok-feed_next.ensures.shorter),
      omega (arith, inv.5, c.feed_next.ensures.rising),
      c.feed_next.ensures.inside ∙ inv.6,
    )
