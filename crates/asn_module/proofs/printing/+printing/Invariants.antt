use Rattle.std.proofs.Common.{◌≡◌, ◌++◌, drop, map}
use Rattle.std.specs.Prelude.{string_bytes}
use Rattle.asn_values.specs.View.{fields_of, part_of_field, alternatives_of, branch_of}
use Rattle.asn_module.specs.Printing.{after_spaces, components_tokens, alternatives_tokens}
use Rattle.asn_module.proofs.printing.+printing.Given as goal

abbrev pub invariant-write_components-loop-field : goal.invariant-write_components-loop-field
invariant-write_components-loop-field l =
    string_bytes l.out ++ after_spaces (components_tokens l.comma (fields_of (map part_of_field (drop l.field-index l.fields)))) ≡ string_bytes l.fn.out ++ after_spaces (components_tokens l.follow (fields_of (map part_of_field l.fields)))

abbrev pub invariant-write_alternatives-loop-alternative : goal.invariant-write_alternatives-loop-alternative
invariant-write_alternatives-loop-alternative l =
    string_bytes l.out ++ after_spaces (alternatives_tokens l.comma (alternatives_of (map branch_of (drop l.alternative-index l.alternatives)))) ≡ string_bytes l.fn.out ++ after_spaces (alternatives_tokens l.follow (alternatives_of (map branch_of l.alternatives)))
