-- A number takes further bits after its own.
use Rattle.std.proofs.Common.{◌≡◌, ◌≤◌, ◌<◌, ◌+◌, ◌*◌, ◌%◌, ◌^◌, ℕ, zero, suc, List, [], ◌∷◌, ◌++◌, take, drop, refl, sym, ap, ◌∙◌, arith}
use Rattle.std.proofs.Math.Nat.{mod-eq_of_lt, pow-le-pow_right}
use Rattle.std.proofs.lemmas.List.{take_at}
use Rattle.std.proofs.lemmas.Nat.{pow-add, mul-add-lt}
use Rattle.asn_bits.specs.Numbers.{bits}
use Rattle.asn_bits.proofs.Octets.{length-digits}
use Rattle.asn_bits.proofs.Splits.{digits-join}

-- p in c bits and n in k bits after it are a number in all of them
pub both_fit : (c k p n : ℕ) → p < 2 ^ c → n < 2 ^ k → p * 2 ^ k + n < 2 ^ (c + k)
both_fit c k p n h l =
    let sum : p * 2 ^ k + n < 2 ^ k * 2 ^ c = mul-add-lt p (2 ^ k) n (2 ^ c) h l in
    let all : 2 ^ (c + k) ≡ 2 ^ k * 2 ^ c = ap (λ (i : ℕ). 2 ^ i) (omega arith) ∙ pow-add 2 k c in
    omega (arith, sum, all)

-- shifted, it does not run over
pub shifted : (c k p n : ℕ) → c + k ≤ 128 → p < 2 ^ c → n < 2 ^ k
    → p * 2 ^ k % 340282366920938463463374607431768211456 ≡ p * 2 ^ k
shifted c k p n room h l =
    let sum : p * 2 ^ k + n < 2 ^ (c + k) = both_fit c k p n h l in
    let up : 2 ^ (c + k) ≤ 2 ^ 128 = pow-le-pow_right (omega arith) room in
    let small : p * 2 ^ k < 340282366920938463463374607431768211456 = omega (arith, sum, up) in
    mod-eq_of_lt small

pub shifted_fits : (c k p n : ℕ) → c + k ≤ 128 → p < 2 ^ c → n < 2 ^ k
    → p * 2 ^ k % 340282366920938463463374607431768211456 + n < 2 ^ (c + k)
shifted_fits c k p n room h l = rw (shifted c k p n room h l) (both_fit c k p n h l)

-- its bits are those of both
pub shifted_bits : (c k p n : ℕ) → c + k ≤ 128 → p < 2 ^ c → n < 2 ^ k
    → bits (c + k) (p * 2 ^ k % 340282366920938463463374607431768211456 + n) ≡ bits c p ++ bits k n
shifted_bits c k p n room h l =
    ap (λ (m : ℕ). bits (c + k) (m + n)) (shifted c k p n room h l) ∙ sym (digits-join 2 (omega arith) c k p n l)

-- the first k bits of some
pub first_bits : (k n : ℕ) (us new : List ℕ) → us ≡ bits k n ++ new → take k us ≡ bits k n
first_bits k n us new e = ap (λ (l : List ℕ). take k l) e ∙ take_at (bits k n) new k (length-digits 2 k n)

-- the first j of a list and the next k are its first j + k
pub taken_in_two : (j k : ℕ) (us : List ℕ) → take j us ++ take k (drop j us) ≡ take (j + k) us
taken_in_two zero k us = ap (λ (i : ℕ). take i us) (omega arith)
taken_in_two (suc j) k [] = taken_of_none k ∙ sym (taken_of_none (suc j + k))
  where
    taken_of_none : (i : ℕ) → take {A = ℕ} i [] ≡ []
    taken_of_none zero = refl
    taken_of_none (suc i) = refl
taken_in_two (suc j) k (u ∷ us) =
    let sum : suc (j + k) ≡ suc j + k = omega arith in
    ap (λ (vs : List ℕ). u ∷ vs) (taken_in_two j k us) ∙ ap (λ (i : ℕ). take i (u ∷ us)) sum
