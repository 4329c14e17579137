use Rattle.std.proofs.Common.{refl, arith, rules, None}
use Rattle.std.proofs.Math.Numerals.{add-one}
use Rattle.asn_notation.specs.Tree.{assignment_view, assignments_view}
use Rattle.asn_module.proofs.Tables.{names_next, view_at, length_view}
use Rattle.asn_module.proofs.table.names_of.Goals as goal

pub loop-assignment-preserved : goal.loop-assignment-preserved
loop-assignment-preserved c =
    let l = c.loop-assignment in
    let all = assignments_view c.args.assignments.now in
    rw (c.in_ok-push.ensures.items, add-one)
    (names_next all all l.names.items l.assignment-index (assignment_view c.assignment-item.result) (record { name = c.in_ok-name.name; known = None })
    (omega (arith, length_view c.args.assignments.now, c.loop-assignment-test.true))
    (view_at c.args.assignments.now l.assignment-index c.assignment-item.result c.loop-assignment-test.true c.assignment-item.is) l.invariant (search rules) refl)
