use Rattle.std.proofs.Common.{◌≡◌, bytes_eq, drop}
use Rattle.asn_values.specs.LookUp.{first_where}
use Rattle.tulvorn_c.proofs.paths.first_among.Given as goal

-- what is left decides
abbrev pub invariant-loop-part : goal.invariant-loop-part
invariant-loop-part g l =
    first_where (λ t. bytes_eq l.name (g.T.Named.name_of t)) (drop l.part-index l.parts)
    ≡ first_where (λ t. bytes_eq l.name (g.T.Named.name_of t)) l.parts
