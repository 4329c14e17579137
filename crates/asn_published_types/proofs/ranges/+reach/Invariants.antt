use Rattle.std.proofs.Common.{length}
use Rattle.asn_published_types.proofs.ranges.+reach.Given as goal

abbrev pub decreases-reach : goal.decreases-reach
decreases-reach l = length l.ranges.now
