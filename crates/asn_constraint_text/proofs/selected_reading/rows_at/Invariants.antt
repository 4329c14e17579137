use Rattle.std.proofs.Common.{◌≤◌, length}
use Rattle.asn_constraint_text.proofs.selected_reading.rows_at.Given as goal

abbrev pub invariant-rows : goal.invariant-rows
invariant-rows l = length l.cursor.rest.now ≤ length l.fn.cursor.rest.now

abbrev pub decreases-rows : goal.decreases-rows
decreases-rows l = length l.cursor.rest.now
