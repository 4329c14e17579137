use Rattle.std.proofs.Common.{◌≡◌, map, drop}
use Rattle.std.specs.List.{list_any}
use Rattle.asn_values.specs.Profile.{int_eq}
use Rattle.asn_values.specs.View.{label_of}
use Rattle.asn_newer.proofs.oer_items.has_number.Given as goal

-- what is left decides
abbrev pub invariant-loop-item : goal.invariant-loop-item
invariant-loop-item l =
    list_any (int_eq l.number) (map (λ i. i.number) (map label_of (drop l.item-index l.items)))
    ≡ list_any (int_eq l.number) (map (λ i. i.number) (map label_of l.items))
