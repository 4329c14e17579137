use Rattle.std.proofs.Common.{◌≡◌, [], ap, ◌∙◌}
use Rattle.std.proofs.lemmas.Result.{on_ok_weaker, MatchResult-weaker}
use Rattle.asn_walk_feed.proofs.OctetsRead.{octets_wait}
use Rattle.asn_walk_feed.proofs.octet_runs.feed_next.Goals as goal

pub feed_octet-requires-clause-reached : goal.feed_octet-requires-clause-reached
feed_octet-requires-clause-reached g c =
    (c.requires.reached.0, c.in_ok-take_run.ensures.done c.requires.reached.0 c.requires.reached.1)

pub returns-then-not-branch-clause-done : goal.returns-then-not-branch-clause-done
returns-then-not-branch-clause-done g c =
    on_ok_weaker c.feed_octet.result (λ d all h. d all (c.in_ok-take_run.ensures.done all h)) c.feed_octet.ensures.done

pub returns-then-not-branch-clause-stop : goal.returns-then-not-branch-clause-stop
returns-then-not-branch-clause-stop g c =
    MatchResult-weaker c.feed_octet.result c.feed_octet.ensures.stop (λ _ x. x) (λ why s all h. s all (c.in_ok-take_run.ensures.done all h))

pub returns-then-not-branch-clause-kept : goal.returns-then-not-branch-clause-kept
returns-then-not-branch-clause-kept g c =
    λ e all h. c.feed_octet.ensures.kept e all (c.in_ok-take_run.ensures.done all h)

pub returns-then-are_wanted-clause-stop : goal.returns-then-are_wanted-clause-stop
returns-then-are_wanted-clause-stop g c =
    λ all h.
    let w = c.are_wanted.ensures c.if-are_wanted.true in
    let none : g.R.ReadLeaves.rules.to_units c.take_run.new.units ≡ [] = ap g.R.ReadLeaves.rules.to_units w.1 ∙ c.keep_feed_laws.ensures.none in
    octets_wait g.R.ReadLeaves.rules c.keep_laws.ensures c.keep_feed_laws.ensures (g.K.InFragments.coding c.args.kind.now) c.keep_octet_laws.ensures g.R.ReadLeaves.ahead g.R.ReadLeaves.is_between c.take_run.new.octets all (g.R.ReadLeaves.rules.to_units c.take_run.new.units) w.0 (c.in_ok-take_run.ensures.done all h) (c.in_ok-take_run.ensures.fresh c.if-not-branch.false) none (c.in_ok-take_run.ensures.wanted c.if-not-branch.false w.1)
