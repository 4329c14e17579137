use Rattle.std.proofs.Common.{◌≡◌, drop}
use Rattle.std.specs.List.{list_any}
use Rattle.asn_notation.specs.Tree.{items_view}
use Rattle.asn_module.specs.Meaning.{has_number}
use Rattle.asn_module.proofs.items.has_number.Given as goal

abbrev pub invariant-loop-item : goal.invariant-loop-item
invariant-loop-item l = list_any has_number (items_view (drop l.item-index l.items)) ≡ list_any has_number (items_view l.items)
