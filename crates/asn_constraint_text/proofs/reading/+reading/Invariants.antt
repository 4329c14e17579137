use Rattle.std.proofs.Common.{◌≤◌, ◌+◌, ◌*◌, length}
use Rattle.asn_constraint_text.proofs.reading.+reading.Given as goal

abbrev pub decreases-content_at : goal.decreases-content_at
decreases-content_at l = 11 * l.levels + 10

abbrev pub decreases-union_at : goal.decreases-union_at
decreases-union_at l = 11 * l.levels + 9

abbrev pub decreases-intersection_at : goal.decreases-intersection_at
decreases-intersection_at l = 11 * l.levels + 8

abbrev pub decreases-single_at : goal.decreases-single_at
decreases-single_at l = 11 * l.levels + 7

abbrev pub decreases-inner_at : goal.decreases-inner_at
decreases-inner_at l = 11 * l.levels + 6

abbrev pub decreases-alternatives_at : goal.decreases-alternatives_at
decreases-alternatives_at l = 11 * l.levels + 5

abbrev pub decreases-components_at : goal.decreases-components_at
decreases-components_at l = 11 * l.levels + 5

abbrev pub decreases-push_alternatives : goal.decreases-push_alternatives
decreases-push_alternatives l = 11 * l.levels + 4

abbrev pub decreases-push_component : goal.decreases-push_component
decreases-push_component l = 11 * l.levels + 3

abbrev pub decreases-push_alternative : goal.decreases-push_alternative
decreases-push_alternative l = 11 * l.levels + 3

abbrev pub decreases-alternative_at : goal.decreases-alternative_at
decreases-alternative_at l = 11 * l.levels + 2

abbrev pub decreases-part_constraint_at : goal.decreases-part_constraint_at
decreases-part_constraint_at l = 11 * l.levels + 1

abbrev pub decreases-constraint_at : goal.decreases-constraint_at
decreases-constraint_at l = 11 * l.levels

abbrev pub invariant-union_at-operands : goal.invariant-union_at-operands
invariant-union_at-operands l = length l.cursor.rest.now ≤ length l.fn.cursor.rest.now

abbrev pub decreases-union_at-operands : goal.decreases-union_at-operands
decreases-union_at-operands l = length l.cursor.rest.now

abbrev pub invariant-intersection_at-operands : goal.invariant-intersection_at-operands
invariant-intersection_at-operands l = length l.cursor.rest.now ≤ length l.fn.cursor.rest.now

abbrev pub decreases-intersection_at-operands : goal.decreases-intersection_at-operands
decreases-intersection_at-operands l = length l.cursor.rest.now

abbrev pub invariant-components_at-components : goal.invariant-components_at-components
invariant-components_at-components l = length l.cursor.rest.now ≤ length l.fn.cursor.rest.now

abbrev pub decreases-components_at-components : goal.decreases-components_at-components
decreases-components_at-components l = length l.cursor.rest.now

abbrev pub invariant-push_alternatives-alternatives : goal.invariant-push_alternatives-alternatives
invariant-push_alternatives-alternatives l = length l.cursor.rest.now ≤ length l.fn.cursor.rest.now

abbrev pub decreases-push_alternatives-alternatives : goal.decreases-push_alternatives-alternatives
decreases-push_alternatives-alternatives l = length l.cursor.rest.now
