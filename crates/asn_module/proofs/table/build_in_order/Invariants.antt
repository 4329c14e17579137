use Rattle.asn_notation.specs.Tree.{assignments_view}
use Rattle.asn_module.specs.Known.{AreSound}
use Rattle.asn_module.proofs.table.build_in_order.Given as goal

abbrev pub invariant-loop-index : goal.invariant-loop-index
invariant-loop-index l = AreSound (assignments_view l.assignments) (assignments_view l.assignments) l.names.items
