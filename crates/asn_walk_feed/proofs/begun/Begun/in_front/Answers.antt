use Rattle.std.proofs.Common.{◌≡◌, ◌+◌, ◌-◌, ◌*◌, ◌%◌, ◌≤◌, ◌^◌, ◌++◌, ℕ, List, length, sym, ap, ◌∙◌, arith}
use Rattle.std.proofs.lemmas.Nat.{pow_pos}
use Rattle.asn_bits.specs.Numbers.{bits}
use Rattle.asn_bits.proofs.Octets.{length-digits}
use Rattle.asn_walk_feed.proofs.Bits.{shifted_bits}
use Rattle.asn_walk_feed.proofs.begun.Begun.in_front.Goals as goal

pub returns : goal.returns
returns c =
    let k = c.self.inside.count in
    let few : k ≤ 128 = c.self.invariant.0 in
    let room = 128 - k in
    let x = c.self.inside.number * 2 ^ room % 340282366920938463463374607431768211456 in
    let l : length c.args.self.now ≡ k = ap length (sym c.self.view_is) ∙ length-digits 2 k c.self.inside.number in
    let sum : k + room ≡ 128 = omega (arith, few) in
    let same : x ≡ x + 0 = omega arith in
    sym (ap (λ (i : ℕ). bits i x) sum)
    ∙ ap (λ (m : ℕ). bits (k + room) m) same
    ∙ shifted_bits k room c.self.inside.number 0 (omega (arith, few)) c.self.invariant.1 (pow_pos room)
    ∙ ap (λ (us : List ℕ). us ++ bits room 0) c.self.view_is
    ∙ ap (λ (i : ℕ). c.args.self.now ++ bits (128 - i) 0) (sym l)
