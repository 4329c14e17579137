use Rattle.std.proofs.Common.{◌≡◌, ◌+◌, ◌<◌, ◌≤◌, ◌^◌, ◌++◌, ℕ, List, length, sym, ap, ◌∙◌, arith}
use Rattle.std.proofs.Math.Nat.{pow-le-pow_right}
use Rattle.asn_bits.specs.Numbers.{bits}
use Rattle.asn_bits.proofs.Octets.{length-digits}
use Rattle.asn_walk_feed.proofs.Bits.{shifted_fits, shifted_bits}
use Rattle.asn_walk_feed.proofs.begun.Begun.push.Goals as goal

pub overflow_add-self : goal.overflow_add-self
overflow_add-self c =
    let k = c.self.inside.count in
    let l : length c.args.self.now ≡ k = ap length (sym c.self.view_is) ∙ length-digits 2 k c.self.inside.number in
    let room : k + c.args.count ≤ 128 = omega (arith, c.requires.room, l) in
    let n : c.from.result < 2 ^ c.args.count = rw c.from.ensures c.requires.fits in
    let all = shifted_fits k c.args.count c.self.inside.number c.from.result room c.self.invariant.1 n in
    let up : 2 ^ (k + c.args.count) ≤ 2 ^ 128 = pow-le-pow_right (omega arith) room in
    omega (arith, all, up)

pub invariant_of-self : goal.invariant_of-self
invariant_of-self c =
    let k = c.self.inside.count in
    let l : length c.args.self.now ≡ k = ap length (sym c.self.view_is) ∙ length-digits 2 k c.self.inside.number in
    let room : k + c.args.count ≤ 128 = omega (arith, c.requires.room, l) in
    let n : c.from.result < 2 ^ c.args.count = rw c.from.ensures c.requires.fits in
    (room, shifted_fits k c.args.count c.self.inside.number c.from.result room c.self.invariant.1 n)

pub returns : goal.returns
returns c =
    let k = c.self.inside.count in
    let l : length c.args.self.now ≡ k = ap length (sym c.self.view_is) ∙ length-digits 2 k c.self.inside.number in
    let room : k + c.args.count ≤ 128 = omega (arith, c.requires.room, l) in
    let n : c.from.result < 2 ^ c.args.count = rw c.from.ensures c.requires.fits in
    shifted_bits k c.args.count c.self.inside.number c.from.result room c.self.invariant.1 n
    ∙ ap (λ (us : List ℕ). us ++ bits c.args.count c.from.result) c.self.view_is
    ∙ ap (λ (m : ℕ). c.args.self.now ++ bits c.args.count m) c.from.ensures
