use Rattle.std.proofs.Common.{◌≤◌, length}
use Rattle.asn_constraint_text.proofs.value_reading.+value_reading.Given as goal

abbrev pub invariant-elements_at-elements : goal.invariant-elements_at-elements
invariant-elements_at-elements l = length l.cursor.rest.now ≤ length l.fn.cursor.rest.now

abbrev pub decreases-elements_at-elements : goal.decreases-elements_at-elements
decreases-elements_at-elements l = length l.cursor.rest.now

abbrev pub invariant-push_entries-entries : goal.invariant-push_entries-entries
invariant-push_entries-entries l = length l.cursor.rest.now ≤ length l.fn.cursor.rest.now
