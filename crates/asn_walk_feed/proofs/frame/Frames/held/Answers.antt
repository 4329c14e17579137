use Rattle.asn_walk_feed.proofs.HeldNodes.{held_reverse}
use Rattle.asn_walk_feed.proofs.frame.Frames.held.Goals as goal

pub returns : goal.returns
returns g c = rw (held_reverse c.args.self.now.stack.items, ← c.as_slice.ensures.value) c.held_in.ensures
