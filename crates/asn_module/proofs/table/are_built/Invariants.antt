use Rattle.std.proofs.Common.{◌≡◌, drop}
use Rattle.asn_module.specs.Known.{unbuilt}
use Rattle.asn_module.proofs.table.are_built.Given as goal

abbrev pub invariant-loop-named : goal.invariant-loop-named
invariant-loop-named l = unbuilt (drop l.named-index l.names) ≡ unbuilt l.names
