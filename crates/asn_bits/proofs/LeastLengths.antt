-- The fewest octets of a number, under their general length, are one number in bits.
use Rattle.std.proofs.Common.{◌≡◌, ◌<◌, ◌+◌, ◌*◌, ◌/◌, ◌%◌, ◌^◌, ℕ, ℤ, pos, negsuc, ◌≤ℤ◌, List, [], ◌∷◌, ◌++◌, length, map, take, inl, inr, refl, sym, ◌∙◌, ap, append_assoc, arith}
use Rattle.std.proofs.lemmas.List.{append-nil, length-map}
use Rattle.std.proofs.Math.Seq.{take-length}
use Rattle.asn_bits.specs.Numbers.{bits, octets, octet_count, least, unpacked, signed_octets, signed_octet_count, least_signed}
use Rattle.asn_bits.specs.Lengths.{last_length, lengths_within, lengths, joined, with_lengths, general_octets}
use Rattle.asn_bits.proofs.GeneralLengths.{last_cases, map_same}
use lib.IntN.{nat_abs}
use Rattle.std.proofs.lemmas.Int.{ints}
use Rattle.asn_limits.specs.Limits.{lowest_integer, highest_integer}
use Rattle.asn_bits.proofs.Octets.{length-digits, signed_count_below}
use Rattle.asn_bits.proofs.Splits.{unpacked-octets, digits-add, digits-mod, digits-join}

-- a length below 128 is the length in eight bits
short_length : (n : ℕ) → n < 128 → (last_length n).bits ≡ bits 8 n
short_length n h =
    elim (last_cases n) [
      | inl a ↦ (let z : 0 ≡ n / 2 ^ 7 % 2 = omega arith in a.1 ∙ ap (λ t. t ∷ bits 7 n) z)
      | inr a ↦ absurd (omega arith)
    ]

-- octets one after the other
pub joined_octets : (os : List ℕ) → joined (map (λ o. map (λ u. u) (bits 8 o)) os) ≡ unpacked os
joined_octets [] = refl
joined_octets (o ∷ os) = let rest = joined_octets os in ap (λ t. t ++ joined (map (λ o. map (λ u. u) (bits 8 o)) os)) (map_same (bits 8 o)) ∙ ap (λ t. bits 8 o ++ t) rest

-- fewer than 128 octets stand under a length of eight bits
pub general_short : (os : List ℕ) → length os < 128 → general_octets (λ u. u) os ≡ bits 8 (length os) ++ unpacked os
general_short os h =
    let items = map (λ o. map (λ u. u) (bits 8 o)) os in
    let n : length items ≡ length os = length-map os _ in
    let none : length items / 16384 ≡ 0 = omega arith in
    let one : lengths (length items) ≡ last_length (length items) ∷ [] = ap (λ f. lengths_within f (length items)) none in
    let front : map (λ u. u) (last_length (length items)).bits ≡ bits 8 (length os) =
    map_same (last_length (length items)).bits ∙ short_length (length items) (omega arith) ∙ ap (bits 8) n in
    let all : joined (take (length items) items) ++ [] ≡ unpacked os =
    append-nil (joined (take (length items) items)) ∙ ap joined (take-length items) ∙ joined_octets os in
    ap (λ ls. with_lengths (λ u. u) ls items) one
    ∙ ap (λ t. t ++ (joined (take (length items) items) ++ [])) front ∙ ap (λ t. bits 8 (length os) ++ t) all

-- the count in eight bits, and a number in eight bits an octet
pub general_counted : (os : List ℕ) (n k : ℕ) → os ≡ octets k n → k < 128 → general_octets (λ u. u) os ≡ bits 8 k ++ bits (8 * k) n
general_counted os n k o few =
    let c : length os ≡ k = ap length o ∙ length-digits 256 k n in
    let front : bits 8 (length os) ≡ bits 8 k = ap (bits 8) c in
    let back : unpacked os ≡ bits (8 * k) n = ap unpacked o ∙ unpacked-octets k n in
    general_short os (omega arith) ∙ ap (λ t. t ++ unpacked os) front ∙ ap (λ t. bits 8 k ++ t) back

-- a number from 0 on
pub general_least : (n k : ℕ) → k < 128 → k ≡ octet_count n → general_octets (λ u. u) (least n) ≡ bits 8 k ++ bits (8 * k) n
general_least n k few e = general_counted (least n) n k (ap (λ t. octets t n) (sym e)) few

-- an integer in two's complement
pub general_signed : (z : ℤ) (n k : ℕ) → signed_octets k z ≡ octets k n → k < 128 → k ≡ signed_octet_count z → general_octets (λ u. u) (least_signed z) ≡ bits 8 k ++ bits (8 * k) n
general_signed z n k o few e = general_counted (least_signed z) n k (ap (λ t. signed_octets t z) (sym e) ∙ o) few

-- ---- nine octets

-- after their count they are a number in 16 bits and one in 64
pub nine_octets : (n : ℕ) → n < 2 ^ 72 → bits 8 9 ++ bits 72 n ≡ bits 16 (2304 + n / 2 ^ 64) ++ bits 64 (n % 2 ^ 64)
nine_octets n h =
    let high : n / 2 ^ 64 < 2 ^ 8 = omega (arith, h) in
    let split : bits 72 n ≡ bits 8 (n / 2 ^ 64) ++ bits 64 n = digits-add 2 8 64 n in
    let front : bits 8 9 ++ bits 8 (n / 2 ^ 64) ≡ bits 16 (2304 + n / 2 ^ 64) = digits-join 2 (omega arith) 8 8 9 (n / 2 ^ 64) high in
    let back : bits 64 (n % 2 ^ 64) ≡ bits 64 n = digits-mod 2 (omega arith) 64 n in
    ap (λ t. bits 8 9 ++ t) split ∙ sym (append_assoc (bits 8 9) (bits 8 (n / 2 ^ 64)) (bits 64 n))
    ∙ ap (λ t. t ++ bits 64 n) front ∙ ap (λ t. bits 16 (2304 + n / 2 ^ 64) ++ t) (sym back)

-- an integer that needs nine is not negative
pub nine_from : (z : ℤ) → 8 < signed_octet_count z → lowest_integer ≤ℤ z → pos 0 ≤ℤ z
nine_from (pos n) h p = omega (arith, ints)
nine_from (negsuc n) h p =
    let few : n < 2 ^ 63 = omega (arith, ints, p) in
    absurd (omega (arith, h, signed_count_below (negsuc n) 8 (omega arith) few))

-- and they are an octet of 0 and a number in 64 bits
pub nine_signed : (z : ℤ) → 9 ≡ signed_octet_count z → lowest_integer ≤ℤ z → z ≤ℤ highest_integer → general_octets (λ u. u) (least_signed z) ≡ bits 16 2304 ++ bits 64 (nat_abs z)
nine_signed (pos n) e p q =
    let few : n < 2 ^ 64 = omega (arith, ints, q) in
    let high : 2304 + n / 2 ^ 64 ≡ 2304 = omega (arith, few) in
    let low : n % 2 ^ 64 ≡ n = omega (arith, few) in
    general_signed (pos n) n 9 refl (omega arith) e ∙ nine_octets n (omega (arith, few))
    ∙ ap (λ t. bits 16 t ++ bits 64 (n % 2 ^ 64)) high ∙ ap (λ t. bits 16 2304 ++ bits 64 t) low
nine_signed (negsuc n) e p q = absurd (let l = nine_from (negsuc n) (omega (arith, e)) p in omega (arith, ints, l))
