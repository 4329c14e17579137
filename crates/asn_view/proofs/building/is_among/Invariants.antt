use Rattle.std.proofs.Common.{◌≡◌, drop, bytes_eq}
use Rattle.std.specs.List.{list_any}
use Rattle.asn_view.proofs.building.is_among.Given as goal

-- what is left decides
abbrev pub invariant-loop-other : goal.invariant-loop-other
invariant-loop-other l =
    list_any (λ g. bytes_eq l.name g.0.now) (drop l.other-index l.parts) ≡ list_any (λ g. bytes_eq l.name g.0.now) l.parts
