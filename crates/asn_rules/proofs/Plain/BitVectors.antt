-- Bits that are added to a vector of truth values, one after the other.
use Rattle.std.proofs.Common.{◌≡◌, ◌<◌, ◌+◌, ◌-◌, ◌/◌, ◌%◌, ◌^◌, ℕ, suc, Bool, List, [], ◌∷◌, ◌++◌, map, length, drop, get_or, sym, ap, ◌∙◌, arith, append_assoc}
use Rattle.std.proofs.lemmas.List.{map-append}
use Rattle.std.proofs.Math.Seq.{drop-cons}
use Rattle.asn_bits.specs.Numbers.{bits, unpacked}
use Rattle.asn_rules.specs.Components.{bit_of}

-- the bits of the next octet
pub next_octet_bits : (os : List ℕ) (i d : ℕ) (bs cs : List Bool) → i < length os → map bit_of bs ++ unpacked (drop i os) ≡ map bit_of cs ++ unpacked os → (es : List Bool) → map bit_of es ≡ map bit_of bs ++ bits 8 (get_or os i d)
    → map bit_of es ++ unpacked (drop (i + 1) os) ≡ map bit_of cs ++ unpacked os
next_octet_bits os i d bs cs h e es f =
    let after : i + 1 ≡ suc i = omega arith in
    let split : drop i os ≡ get_or os i d ∷ drop (i + 1) os = drop-cons os i d h ∙ ap (λ (k : ℕ). get_or os i d ∷ drop k os) (sym after) in
    ap (λ (l : List ℕ). l ++ unpacked (drop (i + 1) os)) f ∙ append_assoc (map bit_of bs) (bits 8 (get_or os i d)) (unpacked (drop (i + 1) os))
    ∙ ap (λ (l : List ℕ). map bit_of bs ++ unpacked l) (sym split) ∙ e

-- one more bit
pub next_bit : (count i number : ℕ) (b : Bool) (bs cs es : List Bool) → i < count → bit_of b ≡ number / 2 ^ (count - 1 - i) % 2 → map bit_of bs ++ bits (count - i) number ≡ map bit_of cs ++ bits count number → es ≡ bs ++ b ∷ []
    → map bit_of es ++ bits (count - (i + 1)) number ≡ map bit_of cs ++ bits count number
next_bit count i number b bs cs es h is e f =
    let k = count - 1 - i in
    let now : count - i ≡ suc k = omega (arith, h) in
    let left : count - (i + 1) ≡ k = omega (arith, h) in
    ap (λ (l : List Bool). map bit_of l ++ bits (count - (i + 1)) number) f ∙ ap (λ (l : List ℕ). l ++ bits (count - (i + 1)) number) (map-append bit_of bs (b ∷ []))
    ∙ append_assoc (map bit_of bs) (bit_of b ∷ []) (bits (count - (i + 1)) number)
    ∙ ap (λ (d : ℕ). map bit_of bs ++ d ∷ bits (count - (i + 1)) number) is ∙ ap (λ (j : ℕ). map bit_of bs ++ (number / 2 ^ k % 2) ∷ bits j number) left
    ∙ ap (λ (j : ℕ). map bit_of bs ++ bits j number) (sym now) ∙ e
