use Rattle.std.proofs.Common.{◌≡◌, ◌≤◌, ◌++◌, List, length, map, length-append, ap, sym, ◌∙◌, arith}
use Rattle.std.proofs.lemmas.List.{length-map}
use Rattle.asn_values.specs.declared.types.Item.{Item}
use Rattle.asn_values.specs.Shape.{MoreLabels, marked_labels, more_labels}
use Rattle.asn_values.specs.View.{label_of, more_labels_of}
use Rattle.asn_walk.proofs.ItemNumbers.{few_items}
use Rattle.asn_oer.proofs.enumerated.position_of_number.Goals as goal

pub overflow_cast-result : goal.overflow_cast-result
overflow_cast-result c =
    let root = map label_of c.args.root.now in
    let more = more_labels_of c.args.more.now in
    let few : length (root ++ more_labels more) ≤ 256 = few_items root more c.requires.of_profile in
    omega (arith, few, length-append root (more_labels more), length-map c.args.root.now label_of, c.in-Some.ensures)

pub overflow_cast-result-2 : goal.overflow_cast-result-2
overflow_cast-result-2 c =
    let root = map label_of c.args.root.now in
    let more = more_labels_of c.args.more.now in
    let items = c.as_slice.result.now in
    let few : length (root ++ more_labels more) ≤ 256 = few_items root more c.requires.of_profile in
    let marked : more ≡ marked_labels (map label_of items) =
    ap more_labels_of c.in-Some-more.is ∙ ap (λ (l : List Item). marked_labels (map label_of l)) (sym c.as_slice.ensures.value) in
    let added : length (more_labels more) ≡ length items = ap (λ (m : MoreLabels). length (more_labels m)) marked ∙ length-map items label_of in
    omega (arith, few, added, length-append root (more_labels more), length-map c.args.root.now label_of, c.in_ok-place.ensures)
