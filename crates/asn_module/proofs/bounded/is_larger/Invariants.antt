use Rattle.std.proofs.Common.{◌≡◌, ◌≤◌, ◌+◌, drop}
use Rattle.asn_module.specs.Known.{built_size}
use Rattle.asn_module.proofs.bounded.is_larger.Given as goal

abbrev pub invariant-loop-named : goal.invariant-loop-named
invariant-loop-named l = record {
  few : l.left ≤ l.most;
  counted : l.left + built_size l.names ≡ l.most + built_size (drop l.named-index l.names);
}
