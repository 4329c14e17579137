use Rattle.std.proofs.Common.{◌≡◌, ◌-◌, ◌/◌, ◌^◌, ◌==◌, length, map, take, ap, ◌∙◌, sym, arith}
use Rattle.std.proofs.lemmas.List.{take_all}
use Rattle.std.proofs.lemmas.Nat.{and_mask}
use Rattle.asn_bits.specs.Numbers.{bits}
use Rattle.asn_bits.specs.Sink.{bit_of}
use Rattle.asn_plan.proofs.StringsPut.{bit_set, bits_whole, same_truths}
use Rattle.asn_plan.proofs.strings.fill_bits.Goals as goal

pub loop-i-preserved : goal.loop-i-preserved
loop-i-preserved c =
    let count = length c.args.into.now in
    let i = c.loop-i.i in
    let less = c.loop-i-test.true in
    bit_set c.loop-i.into count i c.args.number _ (omega (arith, less, c.loop-i.auto.into)) less c.loop-i.invariant
    (ap (λ b. b == 1) (and_mask (c.args.number / 2 ^ (count - 1 - i)) 1))

pub returns : goal.returns
returns c some bs e =
    let count = length c.args.into.now in
    let all : c.loop-i.i ≡ count = omega (arith, c.loop-i-test.false, c.loop-i.auto.i-end) in
    let whole : take c.loop-i.i c.loop-i.into ≡ c.loop-i.into = take_all c.loop-i.i c.loop-i.into (omega (arith, c.loop-i-test.false, c.loop-i.auto.into)) in
    same_truths c.loop-i.into bs (bits count c.args.number)
    (bits_whole (map bit_of c.loop-i.into) count c.loop-i.i c.args.number all (ap (λ l. map bit_of l) (sym whole) ∙ c.loop-i.invariant)) e
