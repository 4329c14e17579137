use Rattle.std.proofs.Common.{◌≤◌, length}
use Rattle.asn_constraint_text.proofs.leaves.characters_at.Given as goal

abbrev pub invariant-intervals : goal.invariant-intervals
invariant-intervals l = length l.cursor.rest.now ≤ length l.fn.cursor.rest.now

abbrev pub decreases-intervals : goal.decreases-intervals
decreases-intervals l = length l.cursor.rest.now
