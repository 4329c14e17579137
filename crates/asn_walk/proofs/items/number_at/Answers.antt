use Rattle.std.proofs.Common.{◌≡◌, ◌<◌, ◌+◌, List, length, map, sym, ◌∙◌, ap, arith}
use Rattle.std.proofs.lemmas.List.{length-map}
use Rattle.asn_values.specs.declared.types.Item.{Item}
use Rattle.asn_values.specs.Profile.{InProfile}
use Rattle.asn_values.specs.Shape.{enumerated, marked_labels}
use Rattle.asn_values.specs.View.{label_of, more_labels_of}
use Rattle.asn_walk.proofs.ItemNumbers.{root_number, added_number}
use Rattle.asn_walk.proofs.items.number_at.Goals as goal

pub returns-then-position-root : goal.returns-then-position-root
returns-then-position-root c =
    root_number c.args.root.now (more_labels_of c.args.more.now) c.args.position c.index-root-position.result c.requires.of_profile c.if-position-root.true

pub returns : goal.returns
returns c =
    let root = c.args.root.now in
    let items = c.as_slice.result.now in
    let marked : more_labels_of c.args.more.now ≡ marked_labels (map label_of items) =
    ap more_labels_of c.in-Some.is ∙ ap (λ (l : List Item). marked_labels (map label_of l)) (sym c.as_slice.ensures.value) in
    let good : InProfile (enumerated (map label_of root) (marked_labels (map label_of items))) = rw marked at c.requires.of_profile in
    let there : c.args.position < length root + length (map label_of items) = rw marked at c.requires.there in
    let inside : c.args.position < length root + length items = omega (arith, there, length-map items label_of) in
    rw marked (added_number root items c.args.position c.index-as_slice-position.result good c.if-position-root.false inside)
