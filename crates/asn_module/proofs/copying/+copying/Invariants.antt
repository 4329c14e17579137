use Rattle.std.proofs.Common.{◌≡◌, map, drop}
use Rattle.asn_values.specs.View.{fields_of, part_of_field, alternatives_of, branch_of}
use Rattle.asn_module.specs.Plain.{plain_fields, plain_alternatives}
use Rattle.asn_module.proofs.Lists.{before_fields, before_alternatives}
use Rattle.asn_module.proofs.copying.+copying.Given as goal

abbrev pub invariant-copy_fields-loop-field : goal.invariant-copy_fields-loop-field
invariant-copy_fields-loop-field l =
    before_fields (map part_of_field l.copies.items) (plain_fields (fields_of (map part_of_field (drop l.field-index l.fields)))) ≡ plain_fields (fields_of (map part_of_field l.fields))

abbrev pub invariant-copy_alternatives-loop-alternative : goal.invariant-copy_alternatives-loop-alternative
invariant-copy_alternatives-loop-alternative l =
    before_alternatives (map branch_of l.copies.items) (plain_alternatives (alternatives_of (map branch_of (drop l.alternative-index l.alternatives)))) ≡ plain_alternatives (alternatives_of (map branch_of l.alternatives))
