use Rattle.std.proofs.Common.{◌≡◌, suc, take}
use Rattle.asn_walk_feed.specs.Holding.{built, counted}
use Rattle.asn_walk_feed.specs.Weights.{total}
use Rattle.asn_walk_feed.specs.declared.frame.Frame.{Frame}
use Rattle.asn_walk_feed.proofs.held.held_in.Given as goal

-- the nodes that were gone over, and what they have
abbrev pub invariant-loop-node : goal.invariant-loop-node
invariant-loop-node g l = l.held ≡ counted (total (λ (f : Frame g.row.F.Denot). suc (built f)) (take l.node-index l.stack))
