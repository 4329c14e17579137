-- Numbers of more bits than a word has, as one in front of 64 bits.
use Rattle.std.proofs.Common.{◌≡◌, ◌≤◌, ◌<◌, ◌+◌, ◌-◌, ◌*◌, ◌/◌, ◌%◌, ◌^◌, ℕ, List, ◌++◌, length, length-append, pow-add, ap, ◌∙◌, sym, append_assoc, arith}
use Rattle.std.proofs.Math.Nat.{pow-le-pow_right}
use Rattle.asn_bits.specs.Numbers.{bits}
use Rattle.asn_bits.proofs.Octets.{length-digits}
use Rattle.asn_bits.proofs.Splits.{digits-add, digits-mod, digits-join}

-- the front ones, and 64 after them
pub wide_bits : (k f r : ℕ) (us mid new : List ℕ) → 64 ≤ k → r < 2 ^ 64 → us ≡ bits (k - 64) f ++ mid → mid ≡ bits 64 r ++ new → us ≡ bits k (f * 2 ^ 64 + r) ++ new
wide_bits k f r us mid new w l a b =
    let count : k - 64 + 64 ≡ k = omega (arith, w) in
    let both : bits (k - 64) f ++ bits 64 r ≡ bits (k - 64 + 64) (f * 2 ^ 64 + r) = digits-join 2 (omega arith) (k - 64) 64 f r l in
    let whole : bits (k - 64) f ++ bits 64 r ≡ bits k (f * 2 ^ 64 + r) = both ∙ ap (λ (i : ℕ). bits i (f * 2 ^ 64 + r)) count in
    a ∙ ap (λ (t : List ℕ). bits (k - 64) f ++ t) b ∙ sym (append_assoc (bits (k - 64) f) (bits 64 r) new) ∙ ap (λ (t : List ℕ). t ++ new) whole

pub wide_fits : (k f r : ℕ) → 64 ≤ k → f < 2 ^ (k - 64) → r < 2 ^ 64 → f * 2 ^ 64 + r < 2 ^ k
wide_fits k f r w h l =
    let count : 64 + (k - 64) ≡ k = omega (arith, w) in
    let power : 2 ^ k ≡ 2 ^ 64 * 2 ^ (k - 64) = ap (λ (i : ℕ). 2 ^ i) (sym count) ∙ pow-add 2 64 (k - 64) in
    omega (arith, power, h, l)

-- how many bits there are
pub wide_length : (k f : ℕ) (us mid : List ℕ) → us ≡ bits (k - 64) f ++ mid → length us ≡ k - 64 + length mid
wide_length k f us mid a = ap length a ∙ length-append (bits (k - 64) f) mid ∙ ap (λ (i : ℕ). i + length mid) (length-digits 2 (k - 64) f)

-- a number as those two
pub wide_split : (k n : ℕ) → 64 ≤ k → bits k n ≡ bits (k - 64) (n / 2 ^ 64) ++ bits 64 (n % 2 ^ 64)
wide_split k n w =
    let count : k ≡ k - 64 + 64 = omega (arith, w) in
    let low : bits 64 (n % 2 ^ 64) ≡ bits 64 n = digits-mod 2 (omega arith) 64 n in
    ap (λ (i : ℕ). bits i n) count ∙ digits-add 2 (k - 64) 64 n ∙ ap (λ (t : List ℕ). bits (k - 64) (n / 2 ^ 64) ++ t) (sym low)

pub wide_front : (k n : ℕ) → 64 ≤ k → n < 2 ^ k → n / 2 ^ 64 < 2 ^ (k - 64)
wide_front k n w h =
    let count : 64 + (k - 64) ≡ k = omega (arith, w) in
    let power : 2 ^ k ≡ 2 ^ 64 * 2 ^ (k - 64) = ap (λ (i : ℕ). 2 ^ i) (sym count) ∙ pow-add 2 64 (k - 64) in
    omega (arith, power, h)

-- a number of few bits is one of a word
pub narrow : (k n : ℕ) → k ≤ 64 → n < 2 ^ k → n < 2 ^ 64
narrow k n few h =
    let up : 2 ^ k ≤ 2 ^ 64 = pow-le-pow_right {n = 2} (omega arith) {i = k} {j = 64} few in
    omega (arith, up, h)
