use Rattle.std.proofs.Common.{◌≡◌, ◌↔◌, map, drop}
use Rattle.asn_values.specs.View.{label_of}
use Rattle.asn_values.proofs.type_equality.are_same_items.Given as goal

-- the lists are the same where what is still to be compared is
abbrev pub invariant-loop-index : goal.invariant-loop-index
invariant-loop-index l = (map label_of (drop l.index l.left) ≡ map label_of (drop l.index l.right)) ↔ (map label_of l.left ≡ map label_of l.right)
