-- The bits of the number are those of the string.
use Rattle.std.proofs.Common.{◌≡◌, ◌+◌, None, length, map, refl, subst, ap, ◌∙◌, arith}
use Rattle.std.proofs.lemmas.List.{with_items_is}
use Rattle.std.specs.Vec.{with_items}
use Rattle.asn_values.specs.declared.value.Value as views
use Rattle.asn_values.specs.declared.value.Value.TheVariants as value
use Rattle.asn_values.specs.Datum.{bit_list}
use Rattle.asn_values.specs.View.{datum_of, size_range_of}
use Rattle.asn_values.proofs.Views.{datum_of-Bits}
use Rattle.asn_bits.specs.Begun.{StandsFirst}
use Rattle.asn_bits.specs.Numbers.{bits}
use Rattle.asn_bits.specs.Sink.{bit_of}
use Rattle.asn_rules.specs.NumberSets.{Admits, up_to}
use Rattle.asn_walk.specs.AtOnce.{BitsFirst, IsOnlyLength}
use Rattle.asn_walk.proofs.AtOnce.{bits_split}
use Rattle.asn_walk.proofs.at_once.try_bits.Goals as goal

pub returns-clause-done : goal.returns-clause-done
unfolding views.out-Value denote.Hole.Carrier.out
returns-clause-done c _ =
    let new = c.overwrite_bits.new.truths in
    let r = c.try_number.new.bits in
    let vec = with_items c.in-Bits.truths new in
    let many : length new ≡ c.in-Bits.truths.len = omega (arith, c.overwrite_bits.auto.truths, rw c.in-Bits.truths-is at c.as_mut_slice.ensures.len) in
    let items : vec.items ≡ new = with_items_is c.in-Bits.truths new many in
    let count = c.len-count.result in
    let here : length c.as_mut_slice.result.now ≡ c.in-Bits.truths.len = rw c.in-Bits.truths-is at c.as_mut_slice.ensures.len in
    let same : count ≡ length new = omega (arith, c.len-count.ensures, many) in
    let first : StandsFirst (bit_of c.args.size.now.ext + count) (λ w. Admits (up_to c.greatest_of_width.result None) w) c.in-Some.number c.args.bits.now r = rw c.from.ensures at c.in-Some.ensures.some in
    let word : map bit_of new ≡ bits count c.in-Some.number = c.overwrite_bits.ensures ∙ ap (λ n. bits n c.in-Some.number) (omega (arith, here, same, many)) in
    let told : BitsFirst (size_range_of c.args.size.now) (datum_of (value.Bits vec)) c.args.bits.now r = record {
      truths = new;
      is = datum_of-Bits vec ∙ ap bit_list items;
      only = subst (λ n. IsOnlyLength (size_range_of c.args.size.now) n) same (c.if-not-is_only_length.ensures refl);
      few = omega (arith, same, c.if-count-gt63.false);
      split = bits_split c.args.size.now.ext count c.in-Some.number c.greatest_of_width.result new c.args.bits.now r first c.greatest_of_width.ensures word;
    } in
    rw (c.in-Bits.truths-is, c.in-Bits.is) told
