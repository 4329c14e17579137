use Rattle.std.proofs.Common.{◌≤◌, length}
use Rattle.asn_constraint_text.proofs.value_reading.bits_at.Given as goal

abbrev pub invariant-bits : goal.invariant-bits
invariant-bits l = length l.cursor.rest.now ≤ length l.fn.cursor.rest.now

abbrev pub decreases-bits : goal.decreases-bits
decreases-bits l = length l.cursor.rest.now
