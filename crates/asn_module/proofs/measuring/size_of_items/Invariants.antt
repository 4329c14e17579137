use Rattle.std.proofs.Common.{◌≡◌, ◌≤◌, ◌+◌, drop, map}
use Rattle.asn_values.specs.View.{label_of}
use Rattle.asn_module.specs.Sizes.{capped_size, labels_size}
use Rattle.asn_module.proofs.measuring.size_of_items.Given as goal

abbrev pub invariant-loop-item : goal.invariant-loop-item
invariant-loop-item l = record {
  few : l.total ≤ 4294967296;
  counted : capped_size (l.total + labels_size (map label_of (drop l.item-index l.items))) ≡ capped_size (labels_size (map label_of l.items));
}
