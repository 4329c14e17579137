use Rattle.std.proofs.Common.{◌≡◌, ◌≤◌, ◌+◌, drop, map}
use Rattle.asn_values.specs.Measures.{fields_nodes, choice_nodes}
use Rattle.asn_values.specs.View.{fields_of, part_of_field, alternatives_of, branch_of}
use Rattle.asn_module.specs.Counting.{capped}
use Rattle.asn_module.proofs.counting.+counting_types.Given as goal

abbrev pub invariant-count_fields-loop-field : goal.invariant-count_fields-loop-field
invariant-count_fields-loop-field l = record {
  few : l.total ≤ 100001;
  counted : capped (l.total + fields_nodes (fields_of (map part_of_field (drop l.field-index l.fields)))) ≡ capped (fields_nodes (fields_of (map part_of_field l.fields)));
}

abbrev pub invariant-count_alternatives-loop-alternative : goal.invariant-count_alternatives-loop-alternative
invariant-count_alternatives-loop-alternative l = record {
  few : l.total ≤ 100001;
  counted : capped (l.total + choice_nodes (alternatives_of (map branch_of (drop l.alternative-index l.alternatives)))) ≡ capped (choice_nodes (alternatives_of (map branch_of l.alternatives)));
}
