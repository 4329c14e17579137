use Rattle.asn_walk_feed.proofs.octets.feed_node.Goals as goal

pub returns-clause-kept : goal.returns-clause-kept
returns-clause-kept g c =
    λ short all h. c.feed_fragments.ensures.kept short all (rw c.in-Octets.is at h)
