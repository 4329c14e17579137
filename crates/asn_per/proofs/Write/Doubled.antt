-- The bits that tell twice as many values apart: one more.
use Rattle.std.proofs.Common.{◌≡◌, ◌≤◌, ◌*◌, ◌^◌, ℕ, zero, suc, nat_le, arith}
use Rattle.std.proofs.lemmas.Bool.{le-leb}
use Rattle.std.proofs.Math.Nat.{two-pow-succ}
use Rattle.asn_bits.specs.Numbers.{width}
use Rattle.asn_bits.proofs.Octets.{least_from_below}
use Rattle.asn_bits.proofs.Widths.{width_holds}

-- they suffice where the values are no more than so many bits tell apart
width_below : (r k : ℕ) → r ≤ 2 ^ k → width r ≤ k
width_below r k h = least_from_below (λ j. nat_le r (2 ^ j)) r 0 k (omega arith) (le-leb r (2 ^ k) h)

above_half : (r w : ℕ) → 1 ≤ r → 2 * r ≤ 2 ^ w → suc (width r) ≤ w
above_half r zero some h = omega (arith, some, h)
above_half r (suc k) some h = omega (arith, width_below r k (omega (arith, h, two-pow-succ k)))

pub doubled_width : (r : ℕ) → 1 ≤ r → width (2 * r) ≡ suc (width r)
doubled_width r some =
    let most = width_below (2 * r) (suc (width r)) (omega (arith, width_holds r, two-pow-succ (width r))) in
    let least = above_half r (width (2 * r)) some (width_holds (2 * r)) in
    omega (arith, most, least)
