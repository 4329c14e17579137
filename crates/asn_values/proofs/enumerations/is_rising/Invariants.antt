use Rattle.std.proofs.Common.{◌≡◌, map, drop}
use Rattle.asn_values.specs.Profile.{is_rising}
use Rattle.asn_values.specs.View.{label_of}
use Rattle.asn_values.proofs.enumerations.is_rising.Given as goal

-- what is left decides
abbrev pub invariant-loop-index : goal.invariant-loop-index
invariant-loop-index l =
    is_rising (map (λ i. i.number) (map label_of (drop l.index l.items)))
    ≡ is_rising (map (λ i. i.number) (map label_of l.items))
