use Rattle.std.proofs.Common.{◌≡◌, map, drop}
use Rattle.std.specs.List.{list_all}
use Rattle.asn_values.specs.Profile.{is_optional}
use Rattle.asn_values.specs.Shape.{demands}
use Rattle.asn_values.specs.View.{fields_of, part_of_field}
use Rattle.asn_values.proofs.additions.are_optional.Given as goal

-- what is left decides
abbrev pub invariant-loop-field : goal.invariant-loop-field
invariant-loop-field l =
    list_all is_optional (demands (fields_of (map part_of_field (drop l.field-index l.fields)))) ≡ list_all is_optional (demands (fields_of (map part_of_field l.fields)))
