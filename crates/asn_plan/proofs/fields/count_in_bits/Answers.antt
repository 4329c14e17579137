use Rattle.std.proofs.Common.{◌≡◌, ◌+◌, suc, Some, refl, ap, ◌∙◌, arith}
use Rattle.asn_bits.specs.Numbers.{width}
use Rattle.asn_bits.specs.Sink.{bit_of}
use Rattle.asn_bits.proofs.Prefixes.{bool_byte-is}
use Rattle.asn_plan.proofs.FieldBits.{width_below, one_mark_bit}
use Rattle.asn_plan.proofs.fields.count_in_bits.Goals as goal

pub invariant_of-result : goal.invariant_of-result
invariant_of-result c =
    let marked = c.args.size.now.ext in
    let mark : c.from.result ≡ bit_of marked = c.from.ensures ∙ bool_byte-is marked in
    record {
      few = omega (arith, mark, one_mark_bit marked, c.width.ensures.width, width_below (c.from-2.result + 1) 32 (omega (arith, c.from-2.ensures)));
      small = omega (arith, c.in_ok-most.ensures);
    }

pub returns : goal.returns
returns c =
    let marked = c.args.size.now.ext in
    let most = c.in_ok-most.most in
    let mark : c.from.result ≡ bit_of marked = c.from.ensures ∙ bool_byte-is marked in
    let bounds = c.in_ok-most.ensures in
    let sum : c.in_ok-high.high ≡ c.args.size.now.low + most = omega (arith, bounds) in
    let values : c.from-2.result + 1 ≡ suc most = omega (arith, c.from-2.ensures) in
    record {
      first = refl;
      low = refl;
      high = c.in_ok-high.was ∙ ap Some sum;
      few = omega (arith, sum, c.if-high-ge-GENERAL_FROM.false);
      bits = omega (arith, mark, c.width.ensures.width, ap width values);
    }
