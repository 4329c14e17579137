use Rattle.std.proofs.Common.{◌≡◌, map, drop}
use Rattle.asn_values.specs.Profile.{bad_default_at}
use Rattle.asn_values.specs.View.{fields_of, part_of_field}
use Rattle.asn_values.proofs.default_values.are_bad.Given as goal

-- what is left decides
abbrev pub invariant-loop-field : goal.invariant-loop-field
invariant-loop-field l =
    bad_default_at (fields_of (map part_of_field (drop l.field-index l.fields))) ≡ bad_default_at (fields_of (map part_of_field l.fields))
