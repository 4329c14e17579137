-- The bits of the lengths and octets that writers write, and of the zeros that fill up octets.
use Rattle.std.proofs.Common.{◌≡◌, ◌≤◌, ◌<◌, ◌+◌, ◌-◌, ◌*◌, ◌%◌, ◌^◌, ℕ, Bool, true, false, List, [], ◌∷◌, ◌++◌, length, replicate, refl, sym, ◌∙◌, ap, arith, nat_lt}
use Rattle.std.proofs.lemmas.Bool.{lt-ltb, le-ltb}
use Rattle.std.proofs.lemmas.List.{append-nil}
use Rattle.std.proofs.lemmas.Nat.{pow-add}
use Rattle.std.proofs.Math.Nat.{one-le-pow, mul-lt-mul_of_pos_right}
use Rattle.std.proofs.Math.Pow.{pow_mono}
use Rattle.asn_bits.specs.Lengths.{octet_length}
use Rattle.asn_bits.specs.Numbers.{bits, octets, octet_count, padding, unpacked}
use Rattle.asn_bits.specs.Sink.{bit_of}
use Rattle.asn_bits.proofs.Packing.{bits_zero}
use Rattle.asn_bits.proofs.Splits.{digits-join, unpacked-append, unpacked-octets}
use Rattle.asn_rules.specs.Fields.{spelled}
use Rattle.asn_rules.specs.Filled.{unused_bits}
use Rattle.asn_rules.specs.NumberSets.{least_of}
use Rattle.asn_rules.proofs.Plain.CountedNumbers.{count_is}

-- one octet
pub one_octet : (n : ℕ) → unpacked (n ∷ []) ≡ bits 8 n
one_octet n = append-nil (bits 8 n)

-- an octet and others
pub first_octet : (n k m : ℕ) → unpacked (n ∷ octets k m) ≡ bits 8 n ++ bits (8 * k) m
first_octet n k m = ap (λ (t : List ℕ). bits 8 n ++ t) (unpacked-octets k m)

pub short_length : (n : ℕ) → n < 128 → unpacked (octet_length n) ≡ bits 8 n
short_length n h = let e : nat_lt n 128 ≡ true = lt-ltb n 128 h in rw (e, octet_length) (one_octet n)

pub long_length : (n c : ℕ) → 128 ≤ n → c ≡ octet_count n → unpacked (octet_length n) ≡ bits 8 (128 + c) ++ bits (8 * c) n
long_length n c h k =
    let e : nat_lt n 128 ≡ false = le-ltb n 128 h in
    let all : unpacked (octet_length n) ≡ bits 8 (128 + octet_count n) ++ bits (8 * octet_count n) n = rw (e, octet_length) (first_octet (128 + octet_count n) (octet_count n) n) in
    all ∙ ap (λ (i : ℕ). bits 8 (128 + i) ++ bits (8 * i) n) (sym k)

-- an octet and others, as one number
pub after_octet : (a k n m : ℕ) → n < 2 ^ (8 * k) → m ≡ a * 2 ^ (8 * k) + n → bits (8 * (1 + k)) m ≡ bits 8 a ++ bits (8 * k) n
after_octet a k n m h e =
    let all : 8 + 8 * k ≡ 8 * (1 + k) = omega arith in
    ap (bits (8 * (1 + k))) e ∙ ap (λ (i : ℕ). bits i (a * 2 ^ (8 * k) + n)) (sym all)
    ∙ sym (digits-join 2 (omega arith) 8 (8 * k) a n h)

-- a length with the octet before it, as one number
pub joined_length : (n k m : ℕ) → 128 ≤ n → 1 ≤ k → least_of k ≤ n → n < 256 ^ k → n < 2 ^ (8 * k) → m ≡ (128 + k) * 2 ^ (8 * k) + n → bits (8 * (1 + k)) m ≡ unpacked (octet_length n)
joined_length n k m long some least few fits e =
    after_octet (128 + k) k n m fits e ∙ sym (long_length n k long (sym (count_is n k some least few)))

-- octets and their length
pub content : (os : List ℕ) → unpacked (spelled os) ≡ unpacked (octet_length (length os)) ++ unpacked os
content os = unpacked-append (octet_length (length os)) os

-- the zeros after n bits as a number
pub filling_bits : (n u : ℕ) → u ≡ unused_bits n → bits u 0 ≡ padding n
filling_bits n u e = ap (λ (i : ℕ). bits i 0) e ∙ bits_zero (unused_bits n)

-- a number in the first bits of an octet, and zeros after it
pub in_octet : (c n : ℕ) → c ≤ 8 → 1 ≤ c → n < 2 ^ c → bits 8 (n * 2 ^ (8 - c) % 18446744073709551616) ≡ bits c n ++ padding c
in_octet c n few some h =
    let r = 8 - c in
    let two : 0 < 2 = omega arith in
    let all : c + r ≡ 8 = omega arith in
    let power : 2 ^ c * 2 ^ r ≡ 256 = sym (pow-add 2 c r) ∙ ap (λ i. 2 ^ i) all in
    let less : n * 2 ^ r < 2 ^ c * 2 ^ r = mul-lt-mul_of_pos_right h (one-le-pow r 2 two) in
    let kept : n * 2 ^ r % 18446744073709551616 ≡ n * 2 ^ r + 0 = omega (arith, less, power) in
    let zeros : bits r 0 ≡ padding c = bits_zero r ∙ ap (λ (i : ℕ). replicate i 0) (omega arith) in
    ap (bits 8) kept ∙ ap (λ (i : ℕ). bits i (n * 2 ^ r + 0)) (sym all)
    ∙ sym (digits-join 2 two c r n 0 (one-le-pow r 2 two)) ∙ ap (λ (t : List ℕ). bits c n ++ t) zeros

-- a bit above others
one_bit : (b : Bool) → bits 1 (bit_of b) ≡ bit_of b ∷ []
one_bit true = refl
one_bit false = refl

at_most_once : (b : Bool) (r p : ℕ) → r ≡ bit_of b → r * p ≤ p
at_most_once true r p e = omega (arith, ap (λ (t : ℕ). t * p) e)
at_most_once false r p e = omega (arith, ap (λ (t : ℕ). t * p) e)

module _ (b : Bool) (r n f : ℕ) (is : r ≡ bit_of b) (few : n < 8) (within : f < 2 ^ n) where
  below : 2 ^ n ≤ 2 ^ 7
  below = pow_mono {i = n} {j = 7} (omega arith)

  kept : r * 2 ^ n % 18446744073709551616 ≡ r * 2 ^ n
  kept = omega (arith, below, at_most_once b r (2 ^ n) is)

  pub first_fits : r * 2 ^ n % 18446744073709551616 + f < 2 ^ (1 + n)
  first_fits = omega (arith, kept, within, at_most_once b r (2 ^ n) is, pow-add 2 1 n)

  pub first_bits : bits (1 + n) (r * 2 ^ n % 18446744073709551616 + f) ≡ bit_of b ∷ bits n f
  first_bits =
      ap (λ (t : ℕ). bits (1 + n) (t + f)) kept ∙ sym (digits-join 2 (omega arith) 1 n r f within)
      ∙ ap (λ (t : ℕ). bits 1 t ++ bits n f) is ∙ ap (λ (t : List ℕ). t ++ bits n f) (one_bit b)
