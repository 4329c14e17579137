use Rattle.asn_published_types.proofs.ranges.+fill.Given as goal

abbrev pub decreases-fill : goal.decreases-fill
decreases-fill l = l.steps
