use Rattle.std.proofs.Common.{◌≡◌, map, drop}
use Rattle.std.specs.List.{list_any}
use Rattle.asn_values.specs.Profile.{is_not_32_bits}
use Rattle.asn_values.specs.View.{label_of}
use Rattle.asn_values.proofs.enumerations.has_large_number.Given as goal

-- what is left decides
abbrev pub invariant-loop-item : goal.invariant-loop-item
invariant-loop-item l =
    list_any is_not_32_bits (map (λ i. i.number) (map label_of (drop l.item-index l.items)))
    ≡ list_any is_not_32_bits (map (λ i. i.number) (map label_of l.items))
