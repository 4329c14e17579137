-- Octets and the fewer than 64 bits after them, as a sink holds them.
use Rattle.std.proofs.Common.{◌≡◌, ◌<◌, ◌≤◌, ◌+◌, ◌*◌, ◌-◌, ◌/◌, ◌%◌, ◌^◌, ℕ, zero, suc, List, [], ◌∷◌, ◌++◌, length, get_or, replicate, refl, sym, ◌∙◌, ap, arith, append_assoc, mul_assoc, mul_comm, length-append}
use Rattle.std.proofs.lemmas.List.{append-nil}
use Rattle.std.proofs.lemmas.Nat.{shr-shr, shr_below, pow-add, pow_pos, mul-add-lt, mod-mul-add, mod-pow-add, div-mul-add, div-add-mod'}
use Rattle.std.proofs.Math.Nat.{zero-div, one-le-pow, mod-lt, mul-lt-mul_of_pos_right, mul-div_cancel, add-mul, add-mul-div_left}
use Rattle.std.proofs.Math.Pow.{mod-mod-pow}
use Rattle.asn_bits.specs.Numbers.{bits, octets, unpacked, packed, padding}
use Rattle.asn_bits.proofs.Octets.{length-digits}
use Rattle.asn_bits.proofs.Splits.{length-unpacked, digits-add, digits-join, digits-mod, unpacked-append, unpacked-octets, appended}

pub length-unpacked_bits : (os : List ℕ) (c p : ℕ) → length (unpacked os ++ bits c p) ≡ 8 * length os + c
length-unpacked_bits os c p = omega (arith, length-append (unpacked os) (bits c p), length-unpacked os, length-digits 2 c p)

-- where the bits fill octets, those that wait do
pub octets_wait : (os : List ℕ) (c p : ℕ) → length (unpacked os ++ bits c p) % 8 ≡ 0 → c % 8 ≡ 0
octets_wait os c p e = omega (arith, length-unpacked_bits os c p)

-- the octets that wait are appended to the others
pub waiting_out : (os new : List ℕ) (c p : ℕ) → c % 8 ≡ 0 → new ≡ os ++ octets (c / 8) p → unpacked new ≡ unpacked os ++ bits c p
waiting_out os new c p z e =
    let all : 8 * (c / 8) ≡ c = omega arith in
    ap unpacked e ∙ unpacked-append os (octets (c / 8) p) ∙ ap (λ t. unpacked os ++ t) (unpacked-octets (c / 8) p ∙ ap (λ i. bits i p) all)

pub unpacked_whole : (os : List ℕ) (c p : ℕ) → c ≡ 0 → unpacked os ++ bits c p ≡ unpacked os
unpacked_whole os c p e = ap (λ i. unpacked os ++ bits i p) e ∙ append-nil (unpacked os)

-- eight bits give back their octet
octet_of : (o : ℕ) → o < 256 → 128 * (o / 2 ^ 7 % 2) + 64 * (o / 2 ^ 6 % 2) + 32 * (o / 2 ^ 5 % 2) + 16 * (o / 2 ^ 4 % 2) + 8 * (o / 2 ^ 3 % 2) + 4 * (o / 2 ^ 2 % 2) + 2 * (o / 2 ^ 1 % 2) + o / 2 ^ 0 % 2 ≡ o
octet_of o h = omega arith

pub packed-unpacked : (os : List ℕ) → ((i d : ℕ) → i < length os → get_or os i d < 256) → packed (unpacked os) ≡ os
packed-unpacked [] h = refl
packed-unpacked (o ∷ os) h =
    let first : o < 256 = h 0 0 (omega arith) in
    let rest = packed-unpacked os (λ i d l. h (suc i) d (omega arith)) in
    let one = octet_of o first in
    cc

-- no bits are no octets and none that waits
pub empty_view : (os : List ℕ) (c p : ℕ) → unpacked os ++ bits c p ≡ [] → (length os ≡ 0) × (c ≡ 0)
empty_view os c p e =
    let l = ap length e in
    (omega (arith, length-unpacked_bits os c p, l), omega (arith, length-unpacked_bits os c p, l))

pub view_empty : (os : List ℕ) (c p : ℕ) → length os ≡ 0 → c ≡ 0 → unpacked os ++ bits c p ≡ []
view_empty [] c p l e = ap (λ i. bits i p) e
view_empty (o ∷ os) c p l e = absurd (omega arith)

-- zeros are the bits of 0
pub bits_zero : (k : ℕ) → bits k 0 ≡ replicate k 0
bits_zero zero = refl
bits_zero (suc k) = let z : 0 / 2 ^ k % 2 ≡ 0 = ap (λ t. t % 2) (zero-div (2 ^ k)) in let rest = bits_zero k in cc

-- the padding of c bits after octets
pub padding_view : (os : List ℕ) (c p : ℕ) → padding (length (unpacked os ++ bits c p)) ≡ bits ((8 - c % 8) % 8) 0
padding_view os c p =
    let e : (8 - length (unpacked os ++ bits c p) % 8) % 8 ≡ (8 - c % 8) % 8 = omega (arith, length-unpacked_bits os c p) in
    let f : padding (length (unpacked os ++ bits c p)) ≡ replicate ((8 - c % 8) % 8) 0 = ap (λ k. replicate k 0) e in
    f ∙ sym (bits_zero ((8 - c % 8) % 8))

-- what m bits of a number keep of its last ones
pub bits_low : (l m n : ℕ) → l ≤ m → bits l (n % 2 ^ m) ≡ bits l n
bits_low l m n h =
    let e : 2 ^ m ≡ 2 ^ (m - l + l) = ap (λ i. 2 ^ i) (omega arith) in
    let f : n % 2 ^ m % 2 ^ l ≡ n % 2 ^ l = ap (λ t. n % t % 2 ^ l) e ∙ mod-mod-pow n (m - l) l in
    sym (digits-mod 2 (omega arith) l (n % 2 ^ m)) ∙ ap (bits l) f ∙ digits-mod 2 (omega arith) l n

-- one octet more of those of a number
pub octets_more : (i b n : ℕ) → octets (i + 1) (n / 2 ^ b) ≡ octets i (n / 2 ^ (b + 8)) ++ n / 2 ^ b % 256 ∷ []
octets_more i b n =
    let one : octets 1 (n / 2 ^ b) ≡ n / 2 ^ b % 256 ∷ [] = ap (λ t. t ∷ []) (omega arith) in
    digits-add 256 i 1 (n / 2 ^ b) ∙ ap (λ t. octets i t ++ octets 1 (n / 2 ^ b)) (shr-shr n b 8) ∙ ap (λ t. octets i (n / 2 ^ (b + 8)) ++ t) one

-- of a number shifted by k bits a word keeps the first ones
pub shifted_out : (p k w : ℕ) → k ≤ w → p * 2 ^ k % 2 ^ w ≡ p % 2 ^ (w - k) * 2 ^ k
shifted_out p k w h =
    let m = w - k in
    let q = p / 2 ^ m in
    let r = p % 2 ^ m in
    let e : 2 ^ w ≡ 2 ^ m * 2 ^ k = ap (λ i. 2 ^ i) (omega arith) ∙ pow-add 2 m k in
    let two : 0 < 2 = omega arith in
    let less : r * 2 ^ k < 2 ^ m * 2 ^ k = mul-lt-mul_of_pos_right (mod-lt p (one-le-pow m 2 two)) (one-le-pow k 2 two) in
    let parts : p * 2 ^ k ≡ q * (2 ^ m * 2 ^ k) + r * 2 ^ k =
    ap (λ t. t * 2 ^ k) (sym (div-add-mod' p (2 ^ m))) ∙ add-mul (q * 2 ^ m) r (2 ^ k) ∙ ap (λ t. t + r * 2 ^ k) (mul_assoc q (2 ^ m) (2 ^ k)) in
    ap (λ t. p * 2 ^ k % t) e ∙ ap (λ t. t % (2 ^ m * 2 ^ k)) parts ∙ mod-mul-add q (2 ^ m * 2 ^ k) (r * 2 ^ k) less

-- the k bits after the first f of 64, by two shifts
pub field_shifted : (n f k : ℕ) → f + k < 64 → n * 2 ^ f % 2 ^ 64 / 2 / 2 ^ (63 - k) ≡ n / 2 ^ (64 - (f + k)) % 2 ^ k
field_shifted n f k h =
    let e = 64 - (f + k) in
    let y = n * 2 ^ f % 2 ^ 64 in
    let x = n % 2 ^ (64 - f) in
    let down : y / 2 / 2 ^ (63 - k) ≡ y / 2 ^ f / 2 ^ e =
    shr-shr y 1 (63 - k) ∙ ap (λ i. y / 2 ^ i) (omega arith) ∙ sym (shr-shr y f e) in
    let up : y / 2 ^ f ≡ x = ap (λ t. t / 2 ^ f) (shifted_out n f 64 (omega arith)) ∙ mul-div_cancel x (pow_pos f) in
    let parts : x ≡ n / 2 ^ e % 2 ^ k * 2 ^ e + n % 2 ^ e = ap (λ i. n % 2 ^ i) (omega arith) ∙ mod-pow-add n k e in
    down ∙ ap (λ t. t / 2 ^ e) (up ∙ parts) ∙ div-mul-add (n / 2 ^ e % 2 ^ k) (2 ^ e) (n % 2 ^ e) (mod-lt n (pow_pos e))

-- the bits above the last l of two numbers one after the other
pub above_last : (k n l : ℕ) → n < 2 ^ k → l ≤ k → n / 2 ^ l < 2 ^ (k - l)
above_last k n l h less =
    let e : 2 ^ k ≡ 2 ^ (k - l + l) = ap (λ i. 2 ^ i) (omega arith) in
    shr_below n (k - l) l (omega (arith, e))

pub middle_is : (h k n l : ℕ) → n < 2 ^ k → l ≤ k → k ≤ 64 + l → h * 2 ^ (k - l) % 2 ^ 64 + n / 2 ^ l ≡ (h * 2 ^ k + n) / 2 ^ l % 2 ^ 64
middle_is h k n l fits less few =
    let m = k - l in
    let b = n / 2 ^ l in
    let x = h * 2 ^ m % 2 ^ 64 in
    let r = h % 2 ^ (64 - m) in
    let two : 0 < 2 = omega arith in
    let split : k ≡ m + l = omega arith in
    let up : h * 2 ^ k ≡ h * 2 ^ m * 2 ^ l = ap (λ t. h * t) (ap (λ i. 2 ^ i) split ∙ pow-add 2 m l) ∙ sym (mul_assoc h (2 ^ m) (2 ^ l)) in
    let order : h * 2 ^ k + n ≡ n + 2 ^ l * (h * 2 ^ m) = omega (arith, up, mul_comm (h * 2 ^ m) (2 ^ l)) in
    let quotient : (h * 2 ^ k + n) / 2 ^ l ≡ b + h * 2 ^ m = ap (λ t. t / 2 ^ l) order ∙ add-mul-div_left n (h * 2 ^ m) (one-le-pow l 2 two) in
    let whole : m + (64 - m) ≡ 64 = omega arith in
    let all : 2 ^ m * 2 ^ (64 - m) ≡ 2 ^ 64 = sym (pow-add 2 m (64 - m)) ∙ ap (λ i. 2 ^ i) whole in
    let sum : r * 2 ^ m + b < 2 ^ m * 2 ^ (64 - m) = mul-add-lt r (2 ^ m) b (2 ^ (64 - m)) (mod-lt h (one-le-pow (64 - m) 2 two)) (above_last k n l fits less) in
    let small : x + b < 2 ^ 64 = omega (arith, sum, all, shifted_out h m 64 (omega arith)) in
    let parts : b + h * 2 ^ m ≡ h * 2 ^ m / 2 ^ 64 * 2 ^ 64 + (x + b) = omega (arith, div-add-mod' (h * 2 ^ m) (2 ^ 64)) in
    sym (ap (λ t. t % 2 ^ 64) (quotient ∙ parts) ∙ mod-mul-add (h * 2 ^ m / 2 ^ 64) (2 ^ 64) (x + b) small)

-- a number of j bits with one of k bits after it has no more bits than both
pub both_fit : (j m k n s : ℕ) → m < 2 ^ j → n < 2 ^ k → s ≡ m * 2 ^ k % 2 ^ 64 + n → s < 2 ^ (j + k)
both_fit j m k n s h l e =
    let sum : m * 2 ^ k + n < 2 ^ k * 2 ^ j = mul-add-lt m (2 ^ k) n (2 ^ j) h l in
    let all : 2 ^ (j + k) ≡ 2 ^ k * 2 ^ j = ap (λ i. 2 ^ i) (omega arith) ∙ pow-add 2 k j in
    omega (arith, sum, all, e)

-- what a sink holds once n stands in k bits after the c bits that waited, and all of them wait
pub waiting_view : (os : List ℕ) (c p k n j : ℕ) → n < 2 ^ k → c + k ≤ 64 → j ≡ p * 2 ^ k % 2 ^ 64 + n → unpacked os ++ bits (c + k) j ≡ (unpacked os ++ bits c p) ++ bits k n
waiting_view os c p k n j h few e =
    let r = p % 2 ^ (64 - k) in
    let i : j ≡ r * 2 ^ k + n = e ∙ ap (λ t. t + n) (shifted_out p k 64 (omega arith)) in
    let low : bits c r ≡ bits c p = bits_low c (64 - k) p (omega arith) in
    let both : bits (c + k) j ≡ bits c p ++ bits k n =
    ap (bits (c + k)) i ∙ sym (digits-join 2 (omega arith) c k r n h) ∙ ap (λ t. t ++ bits k n) low in
    ap (λ t. unpacked os ++ t) both ∙ sym (append_assoc (unpacked os) (bits c p) (bits k n))

-- and once a word of them went out, where the last of the new ones wait
pub word_view : (os new : List ℕ) (c p k n l w : ℕ) → n < 2 ^ k → 64 + l ≡ c + k → l ≤ k → w ≡ (p * 2 ^ k + n) / 2 ^ l % 2 ^ 64 → new ≡ os ++ octets 8 w
    → unpacked new ++ bits l n ≡ (unpacked os ++ bits c p) ++ bits k n
word_view os new c p k n l w h all less e g =
    let j = p * 2 ^ k + n in
    let word : octets 8 w ≡ octets 8 (j / 2 ^ l) = ap (octets 8) e ∙ digits-mod 256 (omega arith) 8 (j / 2 ^ l) in
    let low : bits l n ≡ bits l j = ap (bits l) (sym (mod-mul-add p (2 ^ k) n h)) ∙ bits_low l k j less in
    ap (λ t. unpacked t ++ bits l n) g ∙ ap (λ t. unpacked (os ++ t) ++ bits l n) word ∙ ap (λ t. unpacked (os ++ octets 8 (j / 2 ^ l)) ++ t) low
    ∙ appended os c p k n 8 l j h all refl

-- the octets of those that wait, and what is left of them
pub octets_out : (os new : List ℕ) (c p : ℕ) → new ≡ os ++ octets (c / 8) (p / 2 ^ (c % 8)) → unpacked new ++ bits (c % 8) p ≡ unpacked os ++ bits c p
octets_out os new c p e =
    let l = c % 8 in
    let all : 8 * (c / 8) + l ≡ c = omega arith in
    ap (λ t. unpacked t ++ bits l p) e ∙ ap (λ t. t ++ bits l p) (unpacked-append os (octets (c / 8) (p / 2 ^ l)))
    ∙ append_assoc (unpacked os) (unpacked (octets (c / 8) (p / 2 ^ l))) (bits l p)
    ∙ ap (λ t. unpacked os ++ t) (ap (λ t. t ++ bits l p) (unpacked-octets (c / 8) (p / 2 ^ l)) ∙ sym (digits-add 2 (8 * (c / 8)) l p) ∙ ap (λ i. bits i p) all)

-- after whole octets
pub whole_after : (os new from : List ℕ) (c p : ℕ) → c ≡ 0 → new ≡ os ++ from → unpacked new ++ bits c p ≡ (unpacked os ++ bits c p) ++ unpacked from
whole_after os new from c p z e =
    unpacked_whole new c p z ∙ ap unpacked e ∙ unpacked-append os from ∙ ap (λ t. t ++ unpacked from) (sym (unpacked_whole os c p z))

-- where none waited, a word of new ones goes out
pub word_alone : (os new : List ℕ) (c p k n l : ℕ) → c ≡ 0 → 64 + l ≡ c + k → k ≤ 64 → new ≡ os ++ octets 8 n → unpacked new ++ bits l n ≡ (unpacked os ++ bits c p) ++ bits k n
word_alone os new c p k n l z all few e =
    let none : l ≡ 0 = omega arith in
    let word : 8 * 8 ≡ k = omega arith in
    unpacked_whole new l n none ∙ ap unpacked e ∙ unpacked-append os (octets 8 n) ∙ ap (λ t. unpacked os ++ t) (unpacked-octets 8 n ∙ ap (λ i. bits i n) word)
    ∙ ap (λ t. t ++ bits k n) (sym (unpacked_whole os c p z))

-- octets of a number after whole octets
pub octets_after : (os new : List ℕ) (c p k n : ℕ) → c ≡ 0 → new ≡ os ++ octets k n → unpacked new ++ bits c p ≡ (unpacked os ++ bits c p) ++ bits (8 * k) n
octets_after os new c p k n z e =
    whole_after os new (octets k n) c p z e ∙ ap (λ t. (unpacked os ++ bits c p) ++ t) (unpacked-octets k n)
