use Rattle.std.proofs.Common.{length}
use Rattle.asn_published_types.proofs.ranges.+around_all.Given as goal

abbrev pub decreases-around_all : goal.decreases-around_all
decreases-around_all l = length l.ranges.now
