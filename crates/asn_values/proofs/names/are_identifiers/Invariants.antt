use Rattle.std.proofs.Common.{◌≡◌, map, drop}
use Rattle.std.specs.List.{list_all}
use Rattle.asn_values.specs.Profile as profile
use Rattle.asn_values.proofs.names.are_identifiers.Given as goal

-- what is left decides
abbrev pub invariant-loop-part : goal.invariant-loop-part
invariant-loop-part g l =
    list_all profile.is_identifier (map g.T.Named.name_of (drop l.part-index l.parts))
    ≡ list_all profile.is_identifier (map g.T.Named.name_of l.parts)
