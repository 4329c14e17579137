use Rattle.std.proofs.Common.{length}
use Rattle.asn_walk_feed.proofs.rows.+are_narrow.Given as goal

abbrev pub decreases-are_narrow : goal.decreases-are_narrow
decreases-are_narrow l = length l.fields.now
