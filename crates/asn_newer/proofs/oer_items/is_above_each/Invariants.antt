use Rattle.std.proofs.Common.{◌≡◌, map, drop}
use Rattle.std.specs.List.{list_all}
use Rattle.std.specs.Int.RustNames.{int_lt}
use Rattle.asn_values.specs.View.{label_of}
use Rattle.asn_newer.proofs.oer_items.is_above_each.Given as goal

-- what is left decides
abbrev pub invariant-loop-item : goal.invariant-loop-item
invariant-loop-item l =
    list_all (λ x. int_lt x l.number) (map (λ i. i.number) (map label_of (drop l.item-index l.items)))
    ≡ list_all (λ x. int_lt x l.number) (map (λ i. i.number) (map label_of l.items))
