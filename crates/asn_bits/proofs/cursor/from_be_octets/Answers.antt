-- Each octet goes after those before it.
use Rattle.std.proofs.Common.{◌≡◌, ◌<◌, ◌≤◌, ◌+◌, ◌*◌, ◌^◌, ℕ, get_or, take, ap, sym, ◌∙◌, add-one, arith}
use Rattle.std.proofs.lemmas.List.{take_more}
use Rattle.std.proofs.Math.Nat.{pow-le-pow_right, pow-suc}
use Rattle.asn_bits.proofs.Reading.{octets_next}
use Rattle.asn_bits.proofs.cursor.from_be_octets.Goals as goal

-- the octets before the last of nine hold less than 2 ^ 64
below_last : (i n : ℕ) → i < 9 → n < 256 ^ i → n < 2 ^ 64
below_last i n h l =
    let e : i ≤ 8 = omega arith in
    let z : 0 < 256 = omega arith in
    let p : 256 ^ i ≤ 256 ^ 8 = pow-le-pow_right z e in
    omega arith

pub overflow_mul-n : goal.overflow_mul-n
overflow_mul-n c = let h = below_last c.loop-octet.octet-index c.loop-octet.n (omega arith) c.loop-octet.invariant.1 in omega arith

pub overflow_add-n : goal.overflow_add-n
overflow_add-n c =
    let h = below_last c.loop-octet.octet-index c.loop-octet.n (omega arith) c.loop-octet.invariant.1 in
    let o : get_or c.args.front.now c.loop-octet.octet-index 0 < 256 = omega (arith, c.type_inv.front c.loop-octet.octet-index) in
    omega arith

pub loop-octet-preserved : goal.loop-octet-preserved
loop-octet-preserved c =
    let i = c.loop-octet.octet-index in
    let n = c.loop-octet.n in
    let o : get_or c.args.front.now i 0 < 256 = omega (arith, c.type_inv.front i) in
    let p : 256 ^ (i + 1) ≡ 256 ^ i * 256 = ap (λ t. 256 ^ t) (add-one i) ∙ pow-suc 256 i in (
      octets_next (take i c.args.front.now) i n (get_or c.args.front.now i 0) c.loop-octet.invariant.0 o ∙ sym (take_more c.args.front.now i 0 c.loop-octet-test.true),
      omega arith,
    )
