use Rattle.asn_walk_feed.proofs.HeldNodes.{counts_node}
use Rattle.asn_walk_feed.proofs.held.held_in.Goals as goal

pub loop-node-preserved : goal.loop-node-preserved
loop-node-preserved g c =
    counts_node c.args.stack.now c.loop-node.node-index c.node-item.result c.loop-node.held c.saturating_add.result c.built.result c.saturating_add-held.result
    c.loop-node-test.true c.node-item.is c.loop-node.invariant c.saturating_add.ensures c.built.ensures c.saturating_add-held.ensures
