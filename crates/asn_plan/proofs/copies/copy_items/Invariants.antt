use Rattle.std.proofs.Common.{◌≡◌, map, take}
use Rattle.asn_values.specs.View.{label_of}
use Rattle.asn_plan.proofs.copies.copy_items.Given as goal

abbrev pub invariant-loop-item : goal.invariant-loop-item
invariant-loop-item l = map label_of l.copies.items ≡ map label_of (take l.item-index l.items)
