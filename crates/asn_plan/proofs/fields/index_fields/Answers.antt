use Rattle.std.proofs.Common.{◌≡◌, ap, ◌∙◌, refl, is_some, arith}
use Rattle.asn_bits.specs.Sink.{bit_of}
use Rattle.asn_bits.proofs.Prefixes.{bool_byte-is}
use Rattle.asn_plan.proofs.FieldBits.{width_below, one_mark_bit}
use Rattle.asn_plan.proofs.fields.index_fields.Goals as goal

pub invariant_of-result-2 : goal.invariant_of-result-2
invariant_of-result-2 c =
    let mark : c.from.result ≡ bit_of c.is_some.result = c.from.ensures ∙ bool_byte-is c.is_some.result in
    record {
      few = omega (arith, mark, one_mark_bit c.is_some.result, c.width.ensures.width, width_below c.args.root 16 (omega (arith, c.if-root-gt65536.false)));
      small = omega (arith, c.if-root-gt65536.false);
    }

pub returns : goal.returns
returns c =
    let mark : c.from.result ≡ bit_of (is_some c.args.additions) = c.from.ensures ∙ bool_byte-is c.is_some.result ∙ ap bit_of c.is_some.ensures in
    record {
      in_bits = record { first = refl; low = refl; most = omega (arith, c.if-root-eq0.false); bits = omega (arith, mark, c.width.ensures.width) };
      in_octets = record { first = refl; low = refl; most = omega (arith, c.if-root-eq0.false, c.min.ensures); short = omega (arith, c.min.ensures); bits = refl };
    }
