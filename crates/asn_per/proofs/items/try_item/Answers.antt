-- The index, after an extension bit 0 where there is a mark.
use Rattle.std.proofs.Common.{◌≡◌, ◌≤◌, ◌<◌, ◌+◌, ◌++◌, map, length, ap, ◌∙◌, arith}
use Rattle.std.proofs.lemmas.List.{length-map}
use Rattle.asn_values.specs.Shape.{has_more_labels}
use Rattle.asn_values.specs.View.{label_of, more_labels_of}
use Rattle.asn_bits.specs.Numbers.{bits, width}
use Rattle.asn_bits.specs.Sink.{bit_of}
use Rattle.asn_bits.proofs.Weights.{bits_only}
use Rattle.asn_per.specs.Indexes.{AreRootItems}
use Rattle.asn_per.proofs.Read.AtOnce.{item_first}
use Rattle.asn_plan.proofs.RootItems.{root_items, mark_there}
use Rattle.asn_plan.proofs.FieldBits.{one_mark_bit}
use Rattle.asn_per.proofs.Write.IndexBits.{few_index_bits}
use Rattle.asn_per.proofs.items.try_item.Goals as goal

pub overflow_sub-highest : goal.overflow_sub-highest
overflow_sub-highest c =
    let good : AreRootItems (map label_of c.args.root.now) = root_items (map label_of c.args.root.now) (more_labels_of c.args.more.now) c.requires.of_profile in
    let some : 0 < length c.args.root.now = simp length-map at good.some in
    omega (arith, some)

pub try_number-requires : goal.try_number-requires
try_number-requires c =
    let good : AreRootItems (map label_of c.args.root.now) = root_items (map label_of c.args.root.now) (more_labels_of c.args.more.now) c.requires.of_profile in
    let some : 0 < length c.args.root.now = simp length-map at good.some in
    let few : length c.args.root.now ≤ 256 = simp length-map at good.few in
    let count : width (c.from.result + 1) ≤ 8 = few_index_bits (c.from.result + 1) (omega (arith, some, few, c.from.ensures)) in
    omega (arith, count, c.width.ensures.width, c.from-mark_bits.ensures, one_mark_bit c.is_some.result)

pub position_of_index-requires : goal.position_of_index-requires
position_of_index-requires c =
    let good : AreRootItems (map label_of c.args.root.now) = root_items (map label_of c.args.root.now) (more_labels_of c.args.more.now) c.requires.of_profile in
    let some : 0 < length c.args.root.now = simp length-map at good.some in
    record { good = good; inside = omega (arith, c.in_ok-index.ensures.some.spelt.member.1, some) }

pub returns-clause-some : goal.returns-clause-some
returns-clause-some c =
    let ls = map label_of c.args.root.now in
    let more = more_labels_of c.args.more.now in
    let n = c.in_ok-index.index in
    let first = c.in_ok-index.ensures.some in
    let good : AreRootItems ls = root_items ls more c.requires.of_profile in
    let some : 0 < length c.args.root.now = simp length-map at good.some in
    let inside : n < length c.args.root.now = omega (arith, first.spelt.member.1, some) in
    let values : c.from.result + 1 ≡ length ls = simp length-map (omega (arith, some, c.from.ensures)) in
    let count : c.width.result ≡ width (length ls) = c.width.ensures.width ∙ ap width values in
    let mark : c.from-mark_bits.result ≡ bit_of (has_more_labels more) = c.from-mark_bits.ensures ∙ ap bit_of (c.is_some.ensures ∙ mark_there c.args.more.now) in
    let is = (bits_only (c.from-mark_bits.result + c.width.result) n first.number first.spelt.digits).1 in
    let split : c.args.bits.now ≡ bits (c.from-mark_bits.result + width (length ls)) n ++ c.try_number.new.bits =
    first.split ∙ ap (λ t. t ++ c.try_number.new.bits) (is ∙ ap (λ k. bits (c.from-mark_bits.result + k) n) count) in
    rw c.position_of_index.ensures (item_first ls more c.from-mark_bits.result n c.args.bits.now c.try_number.new.bits c.requires.of_profile mark (simp length-map inside) split)
