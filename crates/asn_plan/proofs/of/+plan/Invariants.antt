use Rattle.std.proofs.Common.{map, take}
use Rattle.asn_values.specs.View.{part_of_field, branch_of}
use Rattle.asn_plan.proofs.Growing.{PlannedUpTo, PlannedEach}
use Rattle.asn_plan.proofs.of.+plan.Given as goal

abbrev pub invariant-components_of-loop-place : goal.invariant-components_of-loop-place
invariant-components_of-loop-place l =
    PlannedUpTo l.fn.nodes.items (map part_of_field (take l.place l.fields)) l.nodes.items l.parts.items

abbrev pub invariant-alternatives_of-loop-alternative : goal.invariant-alternatives_of-loop-alternative
invariant-alternatives_of-loop-alternative l =
    PlannedEach l.fn.nodes.items (map branch_of (take l.alternative-index l.alternatives)) l.nodes.items l.parts.items
