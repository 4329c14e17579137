use Rattle.std.proofs.Common.{◌≡◌, map, drop}
use Rattle.asn_values.specs.View.{fields_of, part_of_field}
use Rattle.asn_plan.specs.Nothing.{have_nothing}
use Rattle.asn_plan.proofs.lean.+has_nothing.Given as goal

-- what is left decides
abbrev pub invariant-have_nothing-loop-field : goal.invariant-have_nothing-loop-field
invariant-have_nothing-loop-field l =
    have_nothing l.single (fields_of (map part_of_field (drop l.field-index l.fields))) ≡ have_nothing l.single (fields_of (map part_of_field l.fields))
