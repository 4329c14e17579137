use Rattle.std.proofs.Common.{◌∙◌, sym}
use Rattle.asn_plan.proofs.Singles.{number_counted, item_counted, leaf_counted}
use Rattle.asn_plan.proofs.plan.Kind.is_one_entry.Goals as goal

pub returns-in-Number : goal.returns-in-Number
returns-in-Number c some ns t p =
    number_counted c.args.single ns t c.in-Number.number (sym c.number_has_nothing.ensures ∙ some) (rw c.in-Number.is at p)

pub returns-in-Item : goal.returns-in-Item
returns-in-Item c some ns t p =
    item_counted c.args.single ns t c.in-Item.items (sym c.has_nothing.ensures ∙ some) (rw c.in-Item.is at p)

pub returns-in-Leaf : goal.returns-in-Leaf
returns-in-Leaf c some ns t p =
    leaf_counted c.args.single ns t c.in-Leaf.leaf (sym c.has_nothing-in-Leaf.ensures ∙ some) (rw c.in-Leaf.is at p)
