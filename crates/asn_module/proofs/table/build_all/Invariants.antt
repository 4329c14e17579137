use Rattle.asn_notation.specs.Tree.{assignments_view}
use Rattle.asn_module.specs.Known.{AreSound, unbuilt}
use Rattle.asn_module.proofs.table.build_all.Given as goal

abbrev pub invariant-builds : goal.invariant-builds
invariant-builds l = AreSound (assignments_view l.assignments) (assignments_view l.assignments) l.names.items

abbrev pub decreases-builds : goal.decreases-builds
decreases-builds l = unbuilt l.names.items
