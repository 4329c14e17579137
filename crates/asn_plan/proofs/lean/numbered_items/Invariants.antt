use Rattle.std.proofs.Common.{◌≡◌, map, take}
use Rattle.asn_values.specs.View.{label_of}
use Rattle.asn_plan.specs.InOrder.{numbered}
use Rattle.asn_plan.proofs.lean.numbered_items.Given as goal

abbrev pub invariant-loop-place : goal.invariant-loop-place
invariant-loop-place l = map label_of l.numbered.items ≡ numbered 0 (map label_of (take l.place l.items))
