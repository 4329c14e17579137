-- Bits that are filled up to octets are spelt as a number in as many octets as they fill.
use Rattle.std.proofs.Common.{◌≡◌, ◌+◌, ◌*◌, ◌/◌, ◌%◌, ◌^◌, ◌≤◌, ◌<◌, ℕ, suc, List, [], ◌∷◌, ◌++◌, length, refl, sym, ap, ◌∙◌, subst, arith, pow-add}
use Rattle.std.proofs.lemmas.Nat.{pow_pos}
use Rattle.std.proofs.Math.Nat.{mul-le-mul_right, mul-mod_left, mul-div_cancel, div-add-mod'}
use Rattle.asn_bits.specs.Numbers.{digits, bits, octets, octet_count, padding, packed, unpacked}
use Rattle.asn_bits.specs.Lengths.{octet_length}
use Rattle.asn_bits.proofs.Octets.{length-digits, all_octets, octet_power, octet_count_below}
use Rattle.asn_bits.proofs.Packing.{bits_zero}
use Rattle.asn_bits.proofs.Splits.{digits-join, unpacked-octets}
use Rattle.asn_bits.proofs.FilledBits.{length-padding}
use Rattle.asn_rules.specs.Chunks.{ones}
use Rattle.asn_rules.specs.Forks.{Same}
use Rattle.asn_rules.specs.Spellings.{SpelledBy}
use Rattle.asn_rules.proofs.Live.Chunks.{ones-append}
use Rattle.asn_bits.proofs.LengthsInOctets.{one_is}
use Rattle.asn_rules.proofs.Numbers.OctetLengths.{length_spelled}
use Rattle.asn_rules.proofs.Languages.Spellings.{same_after, same_then, same_map, digits_spelled, map_spelled, then_spelled}
use Rattle.asn_rules.specs.Filled.{filled_bits, filled_octets, unused_bits}
use Rattle.asn_rules.proofs.Octets.Octetwise.{packed_again}
use Rattle.asn_oer.specs.Oer.{variable_bits}
use Rattle.asn_oer.specs.Preambles.{BeforeZeros, without_zeros, FilledNumbers, SomeBits, bitmap_told, Bitmap}

-- the bits and the unused ones fill the octets
pub filled_count : (n : ℕ) → n + unused_bits n ≡ 8 * filled_octets n
filled_count n = omega arith

-- a number in n bits, filled up, is one in the octets that they fill
pub filled_is : (n m : ℕ) → filled_bits (bits n m) ≡ octets (filled_octets n) (m * 2 ^ unused_bits n)
filled_is n m =
    let u = unused_bits n in
    let k = filled_octets n in
    let x = m * 2 ^ u in
    let some : 0 < 2 ^ u = pow_pos u in
    let zeros : padding (length (bits n m)) ≡ bits u 0 = ap padding (length-digits 2 n m) ∙ sym (bits_zero u) in
    let joined : bits n m ++ bits u 0 ≡ bits (n + u) x = digits-join 2 (omega arith) n u m 0 some ∙ ap (bits (n + u)) (omega arith) in
    let whole : bits (n + u) x ≡ unpacked (octets k x) = ap (λ (i : ℕ). bits i x) (filled_count n) ∙ sym (unpacked-octets k x) in
    ap (λ (l : List ℕ). packed (bits n m ++ l)) zeros ∙ ap packed (joined ∙ whole) ∙ packed_again (octets k x) (all_octets k x)

-- it fits them
filled_room : (n x : ℕ) → x % 2 ^ unused_bits n ≡ 0 → x / 2 ^ unused_bits n < 2 ^ n → x < 256 ^ filled_octets n
filled_room n x z h =
    let u = unused_bits n in
    let p = 2 ^ u in
    let q = x / p in
    let again : q * p + x % p ≡ x = div-add-mod' x p in
    let room : (q + 1) * p ≤ 2 ^ n * p = mul-le-mul_right p (omega arith) in
    let power : 2 ^ n * p ≡ 256 ^ filled_octets n = sym (pow-add 2 n u) ∙ ap (λ (i : ℕ). 2 ^ i) (filled_count n) ∙ sym (octet_power (filled_octets n)) in
    let some : 0 < p = pow_pos u in
    omega arith

-- numbers in n bits, filled up
pub filled_language : (n : ℕ) (S : ℕ → Type 0) → ((m : ℕ) → S m → m < 2 ^ n) → Same (FilledNumbers n S) (SpelledBy S (λ m. ones (filled_bits (bits n m))))
filled_language n S fit = same_after (same_map (digits_spelled 256 (filled_octets n) (BeforeZeros (unused_bits n) S) (λ x s. filled_room n x s.zeros (fit (x / 2 ^ unused_bits n) s.member)))) (map_spelled there back)
  where
    there : (x : ℕ) → BeforeZeros (unused_bits n) S x → S (without_zeros n x) × (ones (digits 256 (filled_octets n) x) ≡ ones (filled_bits (bits n (without_zeros n x))))
    there x s =
        let p = 2 ^ unused_bits n in
        let again : x / p * p + x % p ≡ x = div-add-mod' x p in
        let zeros : x % p ≡ 0 = s.zeros in
        let same : x ≡ x / p * p = omega arith in
        (s.member, ap (λ (i : ℕ). ones (octets (filled_octets n) i)) same ∙ ap ones (sym (filled_is n (x / p))))

    back : (m : ℕ) → S m → (x : ℕ) × BeforeZeros (unused_bits n) S x × (m ≡ without_zeros n x)
    back m s =
        let p = 2 ^ unused_bits n in
        let again : m * p / p ≡ m = mul-div_cancel m (pow_pos (unused_bits n)) in
        (m * p, record { zeros = mul-mod_left m p; member = subst S (sym again) s }, sym again)

-- ---- bitmaps

-- how many octets there are
pub length-filled_bits : (n m : ℕ) → length (filled_bits (bits n m)) ≡ filled_octets n
length-filled_bits n m = ap length (filled_is n m) ∙ length-digits 256 (filled_octets n) (m * 2 ^ unused_bits n)

-- a bitmap of n bits, of few octets, is spelt as a BIT STRING
pub bitmap_language : (n : ℕ) → n ≤ 64 → Same (Bitmap n) (SpelledBy (SomeBits n) (λ m. ones (variable_bits (bits n m))))
bitmap_language n few =
    same_after
    (same_map (same_after (same_then (length_spelled (λ l. l ≡ suc (filled_octets n)) short) (λ _. same_after (same_then (digits_spelled 256 1 (λ u. u ≡ unused_bits n) (λ u e. omega arith)) (λ _. filled_language n (SomeBits n) (λ m s. s.1))) then_spelled)) then_spelled))
    (map_spelled there back)
  where
    short : (l : ℕ) → l ≡ suc (filled_octets n) → octet_count l < 128
    short l e = (let c : octet_count l ≤ 1 = octet_count_below l 1 (omega arith) (omega (arith, e, few)) in omega arith)

    there : (p : ℕ × (ℕ × ℕ)) → (p.0 ≡ suc (filled_octets n)) × ((p.1.0 ≡ unused_bits n) × SomeBits n p.1.1) → SomeBits n (bitmap_told p) × (ones (octet_length p.0) ++ (ones (digits 256 1 p.1.0) ++ ones (filled_bits (bits n p.1.1))) ≡ ones (variable_bits (bits n (bitmap_told p))))
    there p h =
        let m = p.1.1 in
        let l : length (bits n m) ≡ n = length-digits 2 n m in
        let unused : p.1.0 ≡ length (padding (length (bits n m))) = h.1.0 ∙ sym (length-padding n) ∙ ap (λ (i : ℕ). length (padding i)) (sym l) in
        let count : p.0 ≡ suc (length (filled_bits (bits n m))) = h.0 ∙ ap suc (sym (length-filled_bits n m)) in
        let first : digits 256 1 p.1.0 ≡ length (padding (length (bits n m))) ∷ [] = one_is p.1.0 (omega (arith, h.1.0)) ∙ ap (λ (i : ℕ). i ∷ []) unused in
        let content = length (padding (length (bits n m))) ∷ filled_bits (bits n m) in
        (h.1.1, ap (λ (i : ℕ). ones (octet_length i) ++ (ones (digits 256 1 p.1.0) ++ ones (filled_bits (bits n m)))) count ∙ ap (λ (f : List ℕ). ones (octet_length (length content)) ++ (ones f ++ ones (filled_bits (bits n m)))) first ∙ sym (ones-append (octet_length (length content)) content))

    back : (m : ℕ) → SomeBits n m → (p : ℕ × (ℕ × ℕ)) × ((p.0 ≡ suc (filled_octets n)) × ((p.1.0 ≡ unused_bits n) × SomeBits n p.1.1)) × (m ≡ bitmap_told p)
    back m s = ((suc (filled_octets n), (unused_bits n, m)), (refl, (refl, s)), refl)
