use Rattle.std.proofs.Common.{rules, ◌≡◌, ◌≤◌, ◌-◌, ◌*◌, ◌/◌, ◌^◌, ◌-ℤ◌, ℕ, ℤ, pos, negsuc, false, to_z, of_z, refl, sym, ap, ◌∙◌, arith}
use Rattle.std.proofs.lemmas.Int.{ints}
use Rattle.std.specs.Int.RustNames.{int_le}
use mir.Syntax.{w128}
use lib.IntN.{nat_abs}
use Rattle.asn_bits.specs.Numbers.{magnitude}
use Rattle.asn_bits.proofs.Reading.{word_mask}
use Rattle.asn_bits.proofs.Splits.{two_pow_octets}
use Rattle.asn_plan.specs.Ranged.{held_in}
use Rattle.asn_plan.proofs.leaves.held_in.Goals as goal

-- how far a negative integer lies below -1
below_is : (z : ℤ) → int_le (pos 0) z ≡ false → nat_abs (negsuc 0 -ℤ z) ≡ magnitude z
below_is (pos n) e = absurd (omega (arith, ints, e))
below_is (negsuc n) e = let is : (negsuc 0 -ℤ negsuc n) ≡ pos n = omega (arith, ints) in ap nat_abs is

held_is : (k : ℕ) (z : ℤ) → int_le (pos 0) z ≡ false → 256 ^ k - 1 - magnitude z ≡ held_in k z
held_is k (pos n) e = absurd (omega (arith, ints, e))
held_is k (negsuc n) e = refl

-- what 64 bits of which so many octets are left hold
mask_is : (k : ℕ) → k ≤ 8 → 18446744073709551615 / 2 ^ (64 - 8 * k) ≡ 256 ^ k - 1
mask_is k few = word_mask (8 * k) (omega (arith, few)) ∙ ap (λ t. t - 1) (sym (two_pow_octets k))

pub overflow_sub-result-3 : goal.overflow_sub-result-3
overflow_sub-result-3 c =
    let z = c.args.integer in
    let same : to_z w128 (of_z w128 z) ≡ z = search rules in
    let up : to_z w128 (of_z w128 (negsuc 0 -ℤ z)) ≡ negsuc 0 -ℤ z = search rules in
    let below : nat_abs (negsuc 0 -ℤ z) ≡ magnitude z = below_is z (rw same at c.if-integer-ge0.false) in
    rw (same, up, below, mask_is c.args.octets c.requires.few) (omega (arith, c.requires.room))

pub returns : goal.returns
returns c =
    let z = c.args.integer in
    let same : to_z w128 (of_z w128 z) ≡ z = search rules in
    let up : to_z w128 (of_z w128 (negsuc 0 -ℤ z)) ≡ negsuc 0 -ℤ z = search rules in
    let low : int_le (pos 0) z ≡ false = rw same at c.if-integer-ge0.false in
    rw (same, up, below_is z low, mask_is c.args.octets c.requires.few) (held_is c.args.octets z low)
