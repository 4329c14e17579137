use Rattle.std.proofs.Common.{◌≡◌, max, drop, map}
use Rattle.asn_values.specs.Measures.{fields_depth, choice_depth}
use Rattle.asn_values.specs.View.{fields_of, part_of_field, alternatives_of, branch_of}
use Rattle.tulvorn_c.proofs.levels.+levels.Given as goal

abbrev pub invariant-levels_of_fields-loop-field : goal.invariant-levels_of_fields-loop-field
invariant-levels_of_fields-loop-field l =
    max l.most (fields_depth (fields_of (map part_of_field (drop l.field-index l.fields)))) ≡ fields_depth (fields_of (map part_of_field l.fields))

abbrev pub invariant-levels_of_alternatives-loop-alternative : goal.invariant-levels_of_alternatives-loop-alternative
invariant-levels_of_alternatives-loop-alternative l =
    max l.most (choice_depth (alternatives_of (map branch_of (drop l.alternative-index l.alternatives)))) ≡ choice_depth (alternatives_of (map branch_of l.alternatives))
