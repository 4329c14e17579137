use Rattle.std.proofs.Common.{◌≤◌, length}
use Rattle.asn_constraint_text.proofs.leaves.items_at.Given as goal

abbrev pub invariant-items : goal.invariant-items
invariant-items l = length l.cursor.rest.now ≤ length l.fn.cursor.rest.now

abbrev pub decreases-items : goal.decreases-items
decreases-items l = length l.cursor.rest.now
