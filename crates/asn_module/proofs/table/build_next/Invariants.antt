use Rattle.std.proofs.Common.{◌≡◌, take}
use Rattle.asn_notation.specs.Tree.{assignments_view}
use Rattle.asn_module.specs.Known.{look, AreDone}
use Rattle.asn_module.proofs.table.build_next.Given as goal

abbrev pub invariant-loop-index : goal.invariant-loop-index
invariant-loop-index l = record {
  same : l.names.items ≡ l.fn.names.items;
  done : AreDone (look l.names.items) (take l.index (assignments_view l.assignments)) l.names.items;
}
