-- Each turn adds the next octet of the number.
use Rattle.std.proofs.Common.{◌≡◌, ◌++◌, ◌∷◌, [], ◌+◌, ◌-◌, ◌*◌, ◌/◌, ◌%◌, ◌^◌, append_assoc, arith, ap, sym, ◌∙◌}
use Rattle.std.proofs.lemmas.List.{append-nil}
use Rattle.std.proofs.Math.Nat.{div-one}
use Rattle.asn_bits.specs.Numbers.{octets}
use Rattle.asn_bits.proofs.Packing.{octets_more}
use Rattle.asn_bits.proofs.words.push_low.Goals as goal

pub loop-i-init : goal.loop-i-init
loop-i-init c = (sym (append-nil c.args.bytes.now.items), omega arith, omega arith)

pub push_reserved-requires : goal.push_reserved-requires
push_reserved-requires c = omega (arith, c.loop-i.invariant.1, c.loop-i.invariant.2)

pub loop-i-preserved : goal.loop-i-preserved
loop-i-preserved c =
    let n = c.args.n in
    let i = c.loop-i.i in
    let old = c.args.bytes.now.items in
    let here = 8 * (c.args.count - 1 - i) in
    let one_more : 8 * (c.args.count - i) ≡ here + 8 = omega arith in
    let next : 8 * (c.args.count - (i + 1)) ≡ here = omega arith in
    let sofar : c.loop-i.bytes.items ≡ old ++ octets i (n / 2 ^ (here + 8)) = c.loop-i.invariant.0 ∙ ap (λ t. old ++ octets i (n / 2 ^ t)) one_more in (
      c.push_reserved.ensures.items ∙ ap (λ t. c.loop-i.bytes.items ++ t ∷ []) c.low_octet.ensures ∙ ap (λ t. t ++ n / 2 ^ here % 256 ∷ []) sofar
          ∙ append_assoc old (octets i (n / 2 ^ (here + 8))) (n / 2 ^ here % 256 ∷ []) ∙ ap (λ t. old ++ t) (sym (octets_more i here n))
          ∙ ap (λ t. old ++ octets (i + 1) (n / 2 ^ t)) (sym next),
      omega (arith, c.loop-i.invariant.1),
      omega (arith, c.loop-i.invariant.2),
    )

pub returns-clause-items : goal.returns-clause-items
returns-clause-items c =
    let n = c.args.n in
    let old = c.args.bytes.now.items in
    let all : c.loop-i.i ≡ c.args.count = omega arith in
    let none : 8 * (c.args.count - c.loop-i.i) ≡ 0 = omega arith in
    let whole : n / 2 ^ (8 * (c.args.count - c.loop-i.i)) ≡ n = ap (λ t. n / 2 ^ t) none ∙ div-one n in
    c.loop-i.invariant.0 ∙ ap (λ t. old ++ octets c.loop-i.i t) whole ∙ ap (λ t. old ++ octets t n) all

pub returns-clause-len : goal.returns-clause-len
returns-clause-len c = omega (arith, c.loop-i.invariant.1)

pub returns-clause-capacity : goal.returns-clause-capacity
returns-clause-capacity c = omega (arith, c.loop-i.invariant.2)
