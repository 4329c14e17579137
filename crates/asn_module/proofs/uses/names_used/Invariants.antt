use Rattle.std.proofs.Common.{◌≡◌, ◌++◌, drop}
use Rattle.asn_notation.specs.Tree.{assignments_view}
use Rattle.asn_module.specs.Uses.{names_now, all_references}
use Rattle.asn_module.proofs.uses.names_used.Given as goal

abbrev pub invariant-loop-assignment : goal.invariant-loop-assignment
invariant-loop-assignment l =
    names_now l.names.items ++ all_references (assignments_view (drop l.assignment-index l.assignments)) ≡ all_references (assignments_view l.assignments)
