use Rattle.std.proofs.Common.{◌≡◌, ◌≤◌, ◌+◌, drop, map}
use Rattle.asn_values.specs.View.{fields_of, part_of_field, alternatives_of, branch_of}
use Rattle.asn_module.specs.Sizes.{capped_size, fields_size, alternatives_size}
use Rattle.asn_module.proofs.measuring.+measuring.Given as goal

abbrev pub invariant-size_of_fields-loop-field : goal.invariant-size_of_fields-loop-field
invariant-size_of_fields-loop-field l = record {
  few : l.total ≤ 4294967296;
  counted : capped_size (l.total + fields_size (fields_of (map part_of_field (drop l.field-index l.fields)))) ≡ capped_size (fields_size (fields_of (map part_of_field l.fields)));
}

abbrev pub invariant-size_of_alternatives-loop-alternative : goal.invariant-size_of_alternatives-loop-alternative
invariant-size_of_alternatives-loop-alternative l = record {
  few : l.total ≤ 4294967296;
  counted : capped_size (l.total + alternatives_size (alternatives_of (map branch_of (drop l.alternative-index l.alternatives)))) ≡ capped_size (alternatives_size (alternatives_of (map branch_of l.alternatives)));
}
