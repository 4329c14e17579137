use Rattle.std.proofs.Common.{◌≤◌, length}
use Rattle.asn_constraint_text.proofs.value_reading.hexadecimal_at.Given as goal

abbrev pub invariant-octets : goal.invariant-octets
invariant-octets l = length l.cursor.rest.now ≤ length l.fn.cursor.rest.now

abbrev pub decreases-octets : goal.decreases-octets
decreases-octets l = length l.cursor.rest.now
