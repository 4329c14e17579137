-- Digits split anywhere: the high ones are those of the quotient, the low ones those of the remainder.
use Rattle.std.proofs.Common.{◌≡◌, ◌<◌, ◌+◌, ◌*◌, ◌/◌, ◌%◌, ◌^◌, ℕ, zero, suc, List, [], ◌∷◌, ◌++◌, length, drop, refl, sym, ◌∙◌, ap, arith, append_assoc, mul_assoc, mul_comm}
use Rattle.std.proofs.lemmas.Nat.{pow-add, div-mul-add, div-add-mod'}
use Rattle.std.proofs.Math.Nat.{pow-zero, pow-succ', div-one, add-mul-div_left, add-mul-mod_self_right, div-div-eq-div-mul, one-le-pow}
use Rattle.std.proofs.Math.Seq.{drop-append_seam}
use Rattle.std.specs.Int.{byte_at, bytes_high_first}
use Rattle.asn_bits.specs.Numbers.{digits, bits, octets, unpacked}
use Rattle.asn_bits.proofs.Octets.{length-digits}

-- a quotient by two powers
div-pow-add : (base j k n : ℕ) → n / base ^ (j + k) ≡ n / base ^ k / base ^ j
div-pow-add base j k n =
    ap (λ b. n / b) (ap (λ i. base ^ i) (omega arith) ∙ pow-add base k j) ∙ sym (div-div-eq-div-mul n (base ^ k) (base ^ j))

-- the first j of j + k digits are those of the quotient
pub digits-add : (base j k n : ℕ) → digits base (j + k) n ≡ digits base j (n / base ^ k) ++ digits base k n
digits-add base zero k n = ap (λ i. digits base i n) (omega arith)
digits-add base (suc j) k n =
    let e : suc j + k ≡ suc (j + k) = omega arith in
    let head : (n / base ^ (j + k)) % base ≡ (n / base ^ k / base ^ j) % base = ap (λ q. q % base) (div-pow-add base j k n) in
    let tail = digits-add base j k n in
    ap (λ i. digits base i n) e ∙ cc

-- the last k of j + k digits
pub drop-digits : (base j k n : ℕ) → drop j (digits base (j + k) n) ≡ digits base k n
drop-digits base j k n =
    ap (drop j) (digits-add base j k n)
    ∙ ap (λ i. drop i (digits base j (n / base ^ k) ++ digits base k n)) (sym (length-digits base j (n / base ^ k)))
    ∙ drop-append_seam (digits base j (n / base ^ k)) (digits base k n)

-- what stands above the last k digits does not change them
pub digits_above : (base : ℕ) → 0 < base → (k m n : ℕ) → digits base k (m * base ^ k + n) ≡ digits base k n
digits_above base h zero m n = refl
digits_above base h (suc k) m n =
    let p = base ^ k in
    let up : m * base ^ suc k ≡ (m * base) * p = ap (λ b. m * b) (pow-succ' base k) ∙ sym (mul_assoc m base p) in
    let whole : m * base ^ suc k + n ≡ (m * base) * p + n = ap (λ t. t + n) up in
    let quotient : ((m * base) * p + n) / p ≡ n / p + m * base =
    ap (λ t. t / p) (omega (arith, mul_comm (m * base) p)) ∙ add-mul-div_left n (m * base) (one-le-pow k base h) in
    let head : ((m * base) * p + n) / p % base ≡ n / p % base = ap (λ t. t % base) quotient ∙ add-mul-mod_self_right (n / p) m base in
    let tail = digits_above base h k (m * base) n in
    ap (λ t. digits base (suc k) t) whole ∙ cc

-- the last k digits are those of the remainder
pub digits-mod : (base : ℕ) → 0 < base → (k n : ℕ) → digits base k (n % base ^ k) ≡ digits base k n
digits-mod base h k n =
    sym (digits_above base h k (n / base ^ k) (n % base ^ k)) ∙ ap (digits base k) (div-add-mod' n (base ^ k))

-- digits of two numbers one after the other are those of one number
pub digits-join : (base : ℕ) → 0 < base → (j k m n : ℕ) → n < base ^ k → digits base j m ++ digits base k n ≡ digits base (j + k) (m * base ^ k + n)
digits-join base b j k m n h =
    let high : (m * base ^ k + n) / base ^ k ≡ m = div-mul-add m (base ^ k) n h in
    let low : digits base k (m * base ^ k + n) ≡ digits base k n = digits_above base b k m n in
    sym (digits-add base j k (m * base ^ k + n) ∙ cc)

-- ---- octets and bits

pub two_pow_octets : (k : ℕ) → 256 ^ k ≡ 2 ^ (8 * k)
two_pow_octets zero = pow-zero 256
two_pow_octets (suc k) =
    pow-succ' 256 k ∙ ap (λ t. 256 * t) (two_pow_octets k) ∙ sym (pow-add 2 8 (8 * k)) ∙ ap (λ i. 2 ^ i) (omega arith)

-- the bits of k octets of n are n in 8 k bits
pub unpacked-octets : (k n : ℕ) → unpacked (octets k n) ≡ bits (8 * k) n
unpacked-octets zero n = refl
unpacked-octets (suc k) n =
    let tail = unpacked-octets k n in
    let one : bits 8 ((n / 256 ^ k) % 256) ≡ bits 8 (n / 2 ^ (8 * k)) = ap (λ b. bits 8 ((n / b) % 256)) (two_pow_octets k) ∙ digits-mod 2 (omega arith) 8 (n / 2 ^ (8 * k)) in
    let both : bits 8 ((n / 256 ^ k) % 256) ++ unpacked (octets k n) ≡ bits 8 (n / 2 ^ (8 * k)) ++ bits (8 * k) n = cc (one, tail) in
    both ∙ sym (digits-add 2 8 (8 * k) n) ∙ ap (λ i. bits i n) (omega arith)

pub unpacked-append : (xs ys : List ℕ) → unpacked (xs ++ ys) ≡ unpacked xs ++ unpacked ys
unpacked-append [] ys = refl
unpacked-append (x ∷ xs) ys = ap (λ t. bits 8 x ++ t) (unpacked-append xs ys) ∙ sym (append_assoc (bits 8 x) (unpacked xs) (unpacked ys))

pub length-unpacked : (xs : List ℕ) → length (unpacked xs) ≡ 8 * length xs
length-unpacked [] = refl
length-unpacked (x ∷ xs) = omega (arith, length-unpacked xs)

-- the bytes that `to_be_bytes` gives are octets
pub bytes-octets : (k n : ℕ) → bytes_high_first k n ≡ octets k n
bytes-octets zero n = refl
bytes-octets (suc k) n = ap (λ b. b ∷ bytes_high_first k n) (byte k) ∙ ap (λ t. (n / 256 ^ k) % 256 ∷ t) (bytes-octets k n)
  where
    byte : (i : ℕ) → byte_at i n ≡ (n / 256 ^ i) % 256
    byte zero = ap (λ t. t % 256) (sym (div-one n)) ∙ ap (λ b. n / b % 256) (sym (pow-zero 256))
    byte (suc i) = refl

-- ---- the sink

-- what a sink holds once the k bits of n follow the c bits of p that waited: w octets more, and l bits wait
pub appended : (os : List ℕ) (c p k n w l j : ℕ) → n < 2 ^ k → 8 * w + l ≡ c + k → j ≡ p * 2 ^ k + n
    → unpacked (os ++ octets w (j / 2 ^ l)) ++ bits l j ≡ (unpacked os ++ bits c p) ++ bits k n
appended os c p k n w l j h e i =
    let together : bits c p ++ bits k n ≡ bits (8 * w + l) j =
    digits-join 2 (omega arith) c k p n h ∙ ap (λ t. bits (c + k) t) (sym i) ∙ ap (λ t. bits t j) (sym e) in
    ap (λ t. t ++ bits l j) (unpacked-append os (octets w (j / 2 ^ l)))
    ∙ append_assoc (unpacked os) (unpacked (octets w (j / 2 ^ l))) (bits l j)
    ∙ ap (λ t. unpacked os ++ t) (ap (λ t. t ++ bits l j) (unpacked-octets w (j / 2 ^ l)) ∙ sym (digits-add 2 (8 * w) l j) ∙ sym together)
    ∙ sym (append_assoc (unpacked os) (bits c p) (bits k n))
