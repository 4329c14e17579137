use Rattle.std.proofs.Common.{◌≡◌, map, bytes_eq, drop}
use Rattle.std.specs.List.{list_any}
use Rattle.asn_values.proofs.names.is_among.Given as goal

-- what is left decides
abbrev pub invariant-loop-part : goal.invariant-loop-part
invariant-loop-part g l =
    list_any (bytes_eq l.name) (map g.T.Named.name_of (drop l.part-index l.parts))
    ≡ list_any (bytes_eq l.name) (map g.T.Named.name_of l.parts)
