use Rattle.std.proofs.Common.{◌≡◌, List, None, map, subst, ap, ◌∙◌}
use Rattle.asn_values.specs.Datum.{item}
use Rattle.asn_values.specs.Shape.{enumerated}
use Rattle.asn_values.specs.View.{shape_of, label_of, more_labels_of}
use Rattle.asn_values.specs.declared.types.Item.{Item}
use Rattle.asn_values.proofs.Views.{shape_of-Enum}
use Rattle.asn_bits.specs.Numbers.{packed}
use Rattle.asn_rules.specs.Languages.{Spells}
use Rattle.asn_rules.specs.Listed.{Spelt}
use Rattle.asn_walk.specs.Items.{enumeration_of}
use Rattle.asn_oer.specs.Oer.{oer, oer_fields}
use Rattle.asn_oer.specs.Rules.{oer_ruling}
use Rattle.asn_oer.specs.Walk.{oer_coding}
use Rattle.asn_oer.proofs.plan_leaves.OerPlanLeaves.try_item.Goals as goal

pub returns-then-take_item-clause-some : goal.returns-then-take_item-clause-some
unfolding oer_coding oer_ruling
returns-then-take_item-clause-some c =
    let p = c.position_of_number-position.result in
    let type = enumerated (map label_of c.in-Enum.root.items) (more_labels_of c.in-Enum.ext) in
    let is : shape_of c.args.items.now.ty ≡ type = ap shape_of c.in-Enum.is ∙ shape_of-Enum c.in-Enum.root c.in-Enum.ext in
    let read : Spells oer_fields (Spelt oer None type) (item p) (packed c.args.units.now) (packed c.take_item.new.units) =
    subst (λ (l : List Item). Spells oer_fields (Spelt oer None (enumeration_of l c.in-Enum.ext)) (item p) (packed c.args.units.now) (packed c.take_item.new.units)) c.deref.ensures.value (c.take_item.ensures.done c.if-take_item.true None tt) in
    rw is read
