use Rattle.std.proofs.Common.{length}
use Rattle.asn_walk_feed.proofs.rows.+end_in.Given as goal

abbrev pub decreases-end_in : goal.decreases-end_in
decreases-end_in g l = length l.fields.now
