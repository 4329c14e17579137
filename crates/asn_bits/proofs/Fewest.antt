-- The fewest bits and octets of a number, from the zeros before its first bit.
use Rattle.std.proofs.Common.{◌≡◌, ◌≤◌, ◌<◌, ◌+◌, ◌-◌, ◌*◌, ◌/◌, ◌^◌, ℕ, ℤ, pos, negsuc, ◌≤ℤ◌, ◌<ℤ◌, zero, suc, nat_le, inl, inr, ◌∙◌, ap, arith}
use Rattle.std.proofs.lemmas.Bool.{le-leb, cases_lt}
use Rattle.std.proofs.lemmas.Nat.{leading_length}
use Rattle.std.proofs.Math.Nat.{pow-zero, pow-le-pow_right, two-pow-succ}
use Rattle.std.proofs.lemmas.Int.{ints}
use Rattle.asn_limits.specs.Limits.{lowest_integer, highest_integer}
use lib.Count.{count_leading_zeros}
use Rattle.asn_bits.specs.Numbers.{width, octet_count, magnitude, signed_octet_count, most_signed_octets}
use Rattle.asn_bits.proofs.Octets.{octet_count_below, octet_count_fits, least_from_below, signed_count_below, signed_count_some, signed_fits}
use Rattle.asn_bits.proofs.Splits.{two_pow_octets}
use Rattle.asn_bits.proofs.Widths.{width_holds}

-- a number of m bits fits no fewer
bits_needed : (m j a : ℕ) → 2 ^ m ≤ 2 * a + 1 → a < 2 ^ j → m ≤ j
bits_needed m j a h l =
    elim (cases_lt j m) [
      | inl b ↦ absurd (let up : 2 ^ suc j ≤ 2 ^ m = pow-le-pow_right (omega arith) b in omega (arith, two-pow-succ j))
      | inr b ↦ b
    ]

pub width_below : (r m : ℕ) → r ≤ 2 ^ m → width r ≤ m
width_below r m h = least_from_below (λ k. nat_le r (2 ^ k)) r 0 m (omega arith) (le-leb r (2 ^ m) h)

-- the bits of the highest of r values, counted from 0, are its width, in a word of w bits that holds it
pub width_counted : (w r a : ℕ) → a < 2 ^ w → a ≡ r - 1 → w - count_leading_zeros w a ≡ width r
width_counted w zero a h e =
    let found = leading_length w a h in
    let m = found.0 in
    let c : count_leading_zeros w a + m ≡ w = found.1 in
    let half : 2 ^ m ≤ 2 * a + 1 = found.3 in
    let none : m ≤ 0 = bits_needed m 0 a half (omega (arith, pow-zero 2)) in
    omega arith
width_counted w (suc r) a h e =
    let found = leading_length w a h in
    let m = found.0 in
    let c : count_leading_zeros w a + m ≡ w = found.1 in
    let fits : a < 2 ^ m = found.2 in
    let half : 2 ^ m ≤ 2 * a + 1 = found.3 in
    let least : width (suc r) ≤ m = width_below (suc r) m (omega arith) in
    let enough : suc r ≤ 2 ^ width (suc r) = width_holds (suc r) in
    let most : m ≤ width (suc r) = bits_needed m (width (suc r)) a half (omega arith) in
    omega arith

-- eight bits of a number an octet
pub octets_counted : (n m : ℕ) → n < 2 ^ m → 2 ^ m ≤ 2 * n + 1 → 0 < m → (m + 7) / 8 ≡ octet_count n
octets_counted n m h l p =
    let k = (m + 7) / 8 in
    let up : 2 ^ m ≤ 2 ^ (8 * k) = pow-le-pow_right (omega arith) (omega arith) in
    let least : octet_count n ≤ k = octet_count_below n k (omega arith) (omega (arith, two_pow_octets k)) in
    let enough : n < 2 ^ (8 * octet_count n) = omega (arith, octet_count_fits n, two_pow_octets (octet_count n)) in
    let most : m ≤ 8 * octet_count n = bits_needed m (8 * octet_count n) n l enough in
    omega arith

-- the bits of a number of w, and the octets for them
pub octet_count_leading : (w n : ℕ) → n < 2 ^ w → 0 < w - count_leading_zeros w n → (w - count_leading_zeros w n + 7) / 8 ≡ octet_count n
octet_count_leading w n h p =
    let found = leading_length w n h in
    let m = found.0 in
    let e : w - count_leading_zeros w n ≡ m = omega arith in
    ap (λ t. (t + 7) / 8) e ∙ octets_counted n m found.2 found.3 (omega arith)

-- no bits are the number 0, in one octet
pub octet_count_none : (w n : ℕ) → n < 2 ^ w → w - count_leading_zeros w n ≡ 0 → octet_count n ≡ 1
octet_count_none w n h e =
    let found = leading_length w n h in
    let m : found.0 ≡ 0 = omega arith in
    let z : 2 ^ found.0 ≡ 1 = ap (λ i. 2 ^ i) m ∙ pow-zero 2 in
    let n_zero : n ≡ 0 = omega arith in
    ap octet_count n_zero

-- of more than 64 bits, and up to 72
pub octet_count_nine : (n : ℕ) → 2 ^ 64 ≤ n → n < 2 ^ 72 → octet_count n ≡ 9
octet_count_nine n l h =
    let most : octet_count n ≤ 9 = octet_count_below n 9 (omega arith) (omega (arith, h)) in
    elim (cases_lt (octet_count n) 9) [
      | inl b ↦
          (let up : 256 ^ octet_count n ≤ 256 ^ 8 = pow-le-pow_right {n = 256} (omega arith) {i = octet_count n} {j = 8} (omega (arith, b)) in
          absurd (omega (arith, octet_count_fits n, up, l)))
      | inr b ↦ omega (arith, b, most)
    ]

-- a sign bit more
pub signed_count_leading : (z : ℤ) → magnitude z < 2 ^ 64 → (72 - count_leading_zeros 64 (magnitude z)) / 8 ≡ signed_octet_count z
signed_count_leading z h =
    let found = leading_length 64 (magnitude z) h in
    let m = found.0 in
    let e : 72 - count_leading_zeros 64 (magnitude z) ≡ m + 8 = omega (arith, found.1) in
    let k = (m + 8) / 8 in
    let up : 2 ^ m ≤ 2 ^ (8 * k - 1) = pow-le-pow_right (omega arith) (omega arith) in
    let least : signed_octet_count z ≤ k = signed_count_below z k (omega arith) (omega (arith, found.2, up)) in
    let most : m ≤ 8 * signed_octet_count z - 1 = bits_needed m (8 * signed_octet_count z - 1) (magnitude z) found.3 (signed_fits z) in
    let same : k ≡ signed_octet_count z = omega (arith, least, most, signed_count_some z) in
    ap (λ t. t / 8) e ∙ same

-- an integer of the profile
pub magnitude_word : (z : ℤ) → lowest_integer ≤ℤ z → z ≤ℤ highest_integer → magnitude z < 2 ^ 64
magnitude_word (pos n) p q = omega (arith, ints)
magnitude_word (negsuc n) p q = omega (arith, ints)

-- it fits the most octets
pub magnitude_below : (z : ℤ) → lowest_integer ≤ℤ z → z ≤ℤ highest_integer → magnitude z < 2 ^ (8 * most_signed_octets - 1)
magnitude_below (pos n) p q = omega (arith, ints)
magnitude_below (negsuc n) p q = omega (arith, ints)

-- one of 64 signed bits
pub magnitude_short : (z : ℤ) → lowest_integer ≤ℤ z → z <ℤ pos (2 ^ 63) → magnitude z < 2 ^ 63
magnitude_short (pos n) p q = omega (arith, ints)
magnitude_short (negsuc n) p q = omega (arith, ints)
