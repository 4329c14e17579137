use Rattle.std.proofs.Common.{◌++◌}
use Rattle.std.proofs.lemmas.Result.{IfErr-weaker, on_ok_weaker}
use Rattle.asn_walk_feed.proofs.InPlace.{goes_on, has_read, keeps}
use Rattle.asn_walk_feed.proofs.octets.feed_in_place.Goals as goal

pub feed_node-requires-clause-reached : goal.feed_node-requires-clause-reached
feed_node-requires-clause-reached g c =
    let us = c.requires.reached.0 in
    let R = g.R.ReadLeaves in
    (us ++ R.rules.to_units c.args.units.now, goes_on R.rules c.keep_laws.ensures c.keep_feed_laws.ensures (g.K.InFragments.coding c.args.kind.now) c.keep_octet_laws.ensures R.ahead R.is_between c.args.frames.now.stack.items _ c.in-Some.node.now c.args.frames.now.stack.ok.0 c.in-Some.ensures.value c.requires.begun us (R.rules.to_units c.args.units.now) c.requires.reached.1)

pub returns-clause-done : goal.returns-clause-done
returns-clause-done g c =
    let us = c.requires.reached.0 in
    let R = g.R.ReadLeaves in
    on_ok_weaker c.feed_node.result (has_read R.rules c.keep_laws.ensures c.keep_feed_laws.ensures (g.K.InFragments.coding c.args.kind.now) c.keep_octet_laws.ensures R.ahead R.is_between c.args.frames.now.stack.items _ c.in-Some.node.now c.args.frames.now.stack.ok.0 c.in-Some.ensures.value c.requires.begun us c.requires.reached.1 c.feed_node.new.node c.args.units.now c.feed_node.new.units) c.feed_node.ensures.done

pub returns-clause-stop : goal.returns-clause-stop
returns-clause-stop g c =
    let R = g.R.ReadLeaves in
    IfErr-weaker c.feed_node.result _ _ (λ why s us k. s (us ++ R.rules.to_units c.args.units.now) (goes_on R.rules c.keep_laws.ensures c.keep_feed_laws.ensures (g.K.InFragments.coding c.args.kind.now) c.keep_octet_laws.ensures R.ahead R.is_between c.args.frames.now.stack.items _ c.in-Some.node.now c.args.frames.now.stack.ok.0 c.in-Some.ensures.value c.requires.begun us (R.rules.to_units c.args.units.now) k)) c.feed_node.ensures.stop

pub returns-clause-kept : goal.returns-clause-kept
returns-clause-kept g c =
    let R = g.R.ReadLeaves in
    keeps R.rules c.keep_laws.ensures c.keep_feed_laws.ensures (g.K.InFragments.coding c.args.kind.now) c.keep_octet_laws.ensures R.ahead R.is_between c.args.frames.now.stack.items _ c.in-Some.node.now c.args.frames.now.stack.ok.0 c.in-Some.ensures.value c.requires.begun c.feed_node.result c.feed_node.new.node c.args.units.now c.feed_node.new.units c.feed_node.ensures.kept c.feed_node.ensures.after c.feed_node.ensures.stop
