use Rattle.std.proofs.Common.{◌≡◌, None, length, map, ◌∙◌, ap, arith, length-append}
use Rattle.std.proofs.lemmas.List.{length-map}
use Rattle.asn_values.specs.View.{label_of, more_labels_of}
use Rattle.asn_values.specs.Shape.{more_labels}
use Rattle.asn_walk.proofs.ItemNumbers.{few_items}
use Rattle.asn_walk.proofs.items.item_count.Goals as goal

pub overflow_cast-result : goal.overflow_cast-result
overflow_cast-result c =
    let root = map label_of c.args.root.now in
    let more = more_labels_of c.args.more.now in
    let is : length (more_labels more) ≡ length c.in-Some.items.items = ap (λ o. length (more_labels (more_labels_of o))) c.in-Some.is ∙ length-map c.in-Some.items.items label_of in
    omega (arith, few_items root more c.requires.of_profile, length-append root (more_labels more), length-map c.args.root.now label_of, is, c.len.ensures)

pub overflow_cast-result-in-None : goal.overflow_cast-result-in-None
overflow_cast-result-in-None c =
    let root = map label_of c.args.root.now in
    let more = more_labels_of c.args.more.now in
    omega (arith, few_items root more c.requires.of_profile, length-append root (more_labels more), length-map c.args.root.now label_of)
