use Rattle.std.proofs.Common.{◌≡◌, map, drop}
use Rattle.asn_values.specs.Walk.{no_field_bits_within}
use Rattle.asn_values.specs.View.{fields_of, part_of_field}
use Rattle.asn_values.proofs.zero_bits.+no_bits.Given as goal

-- what is left decides
abbrev pub invariant-have_no_bits-loop-field : goal.invariant-have_no_bits-loop-field
invariant-have_no_bits-loop-field l =
    no_field_bits_within l.levels (fields_of (map part_of_field (drop l.field-index l.fields))) ≡ no_field_bits_within l.levels (fields_of (map part_of_field l.fields))
