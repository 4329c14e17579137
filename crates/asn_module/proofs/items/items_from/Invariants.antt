use Rattle.std.proofs.Common.{◌≡◌, ◌+◌, ◌++◌, drop, map}
use Rattle.asn_values.specs.View.{label_of}
use Rattle.asn_notation.specs.Tree.{items_view}
use Rattle.asn_module.specs.Meaning.{labels_from}
use Rattle.asn_module.proofs.items.items_from.Given as goal

abbrev pub invariant-loop-index : goal.invariant-loop-index
invariant-loop-index l = map label_of l.all.items ++ labels_from l.numbered (l.start + l.index) (items_view (drop l.index l.items)) ≡ labels_from l.numbered l.start (items_view l.items)
