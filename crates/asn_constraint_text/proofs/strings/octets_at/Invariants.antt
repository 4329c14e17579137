use Rattle.std.proofs.Common.{◌≤◌, length}
use Rattle.asn_constraint_text.proofs.strings.octets_at.Given as goal

abbrev pub invariant-pieces : goal.invariant-pieces
invariant-pieces l = length l.cursor.rest.now ≤ length l.fn.cursor.rest.now

abbrev pub decreases-pieces : goal.decreases-pieces
decreases-pieces l = length l.cursor.rest.now
