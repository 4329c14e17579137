use Rattle.std.proofs.Common.{take}
use Rattle.asn_notation.specs.Tree.{assignments_view}
use Rattle.asn_module.specs.Known.{AreSound}
use Rattle.asn_module.proofs.table.names_of.Given as goal

abbrev pub invariant-loop-assignment : goal.invariant-loop-assignment
invariant-loop-assignment l = AreSound (assignments_view l.assignments) (take l.assignment-index (assignments_view l.assignments)) l.names.items
