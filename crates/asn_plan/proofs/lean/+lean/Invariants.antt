use Rattle.std.proofs.Common.{◌≡◌, map, drop, take}
use Rattle.asn_values.specs.Shape.{append_fields}
use Rattle.asn_values.specs.View.{fields_of, part_of_field, alternatives_of, branch_of}
use Rattle.asn_plan.specs.Lean.{lean_root, lean_each, lean_alternatives}
use Rattle.asn_plan.proofs.lean.+lean.Given as goal

abbrev pub invariant-lean_root-loop-field : goal.invariant-lean_root-loop-field
invariant-lean_root-loop-field l =
    append_fields (fields_of (map part_of_field l.kept.items)) (lean_root l.single (fields_of (map part_of_field (drop l.field-index l.fields)))) ≡ lean_root l.single (fields_of (map part_of_field l.fields))

abbrev pub invariant-lean_each-loop-field : goal.invariant-lean_each-loop-field
invariant-lean_each-loop-field l =
    append_fields (fields_of (map part_of_field l.kept.items)) (lean_each l.single (fields_of (map part_of_field (drop l.field-index l.fields)))) ≡ lean_each l.single (fields_of (map part_of_field l.fields))

abbrev pub invariant-lean_alternatives-loop-alternative : goal.invariant-lean_alternatives-loop-alternative
invariant-lean_alternatives-loop-alternative l =
    alternatives_of (map branch_of l.kept.items) ≡ lean_alternatives l.single (alternatives_of (map branch_of (take l.alternative-index l.alternatives)))
