use Rattle.std.proofs.Common.{◌≤◌, length}
use Rattle.asn_constraint_text.proofs.leaves.lengths_at.Given as goal

abbrev pub invariant-lengths : goal.invariant-lengths
invariant-lengths l = length l.cursor.rest.now ≤ length l.fn.cursor.rest.now

abbrev pub decreases-lengths : goal.decreases-lengths
decreases-lengths l = length l.cursor.rest.now
