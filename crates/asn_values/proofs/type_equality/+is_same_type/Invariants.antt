use Rattle.std.proofs.Common.{◌≡◌, ◌↔◌, map, drop}
use Rattle.asn_values.specs.View.{part_of_field, branch_of}
use Rattle.asn_values.proofs.type_equality.+is_same_type.Given as goal

-- the lists are the same where what is still to be compared is
abbrev pub invariant-are_same_fields-loop-index : goal.invariant-are_same_fields-loop-index
invariant-are_same_fields-loop-index l =
    (map part_of_field (drop l.index l.left) ≡ map part_of_field (drop l.index l.right)) ↔ (map part_of_field l.left ≡ map part_of_field l.right)

abbrev pub invariant-are_same_alternatives-loop-index : goal.invariant-are_same_alternatives-loop-index
invariant-are_same_alternatives-loop-index l =
    (map branch_of (drop l.index l.left) ≡ map branch_of (drop l.index l.right)) ↔ (map branch_of l.left ≡ map branch_of l.right)
