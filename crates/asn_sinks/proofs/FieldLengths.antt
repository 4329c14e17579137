-- How many bits octets have under their length determinants, and that a count of them which stops at its end is right.
use Rattle.std.proofs.Common.{◌≡◌, ◌<◌, ◌≤◌, ◌+◌, ◌-◌, ◌*◌, ◌/◌, ◌^◌, ◌++◌, ℕ, zero, suc, min, true, false, List, length, take, drop, refl, ap, ◌∙◌, ⊎_elim, length-append, length-drop, arith}
use Rattle.std.proofs.lemmas.Bool.{cases_lt, lt-ltb, le-ltb}
use Rattle.std.proofs.lemmas.List.{length-take-le}
use Rattle.asn_bits.specs.Lengths.{general_octets, octet_length, blocks}
use Rattle.asn_bits.specs.LengthBits.{first_length}
use Rattle.asn_bits.specs.Numbers.{unpacked, octet_count}
use Rattle.asn_bits.proofs.FirstLengths.{first_few, first_many, first_fragment}
use Rattle.asn_bits.proofs.FragmentedOctets.{octets_last, octets_fragment, fragment_items}
use Rattle.asn_bits.proofs.LengthsInOctets.{small_is, large_is}
use Rattle.asn_bits.proofs.Octets.{length-digits}
use Rattle.asn_bits.proofs.Splits.{length-unpacked}
use Rattle.asn_sinks.specs.LengthCounts.{general_count, single_count}

-- the length determinant before the last octets
last_count : (n : ℕ) → n < 16384 → length (first_length n).bits ≡ general_count n
last_count n h = ⊎_elim
    (λ (l : n < 128). ap (λ x. length x.bits) (first_few n l) ∙ few n l)
    (λ (l : 128 ≤ n). ap (λ x. length x.bits) (first_many n l h) ∙ many n l h)
    (cases_lt n 128)
  where
    few : (m : ℕ) → m < 128 → 8 ≡ general_count m
    few m l = omega arith

    many : (m : ℕ) → 128 ≤ m → m < 16384 → 16 ≡ general_count m
    many m l k = omega arith

-- one fragment fewer
next_count : (n k : ℕ) → 16384 ≤ n → k ≡ 16384 * blocks n → general_count n ≡ 8 + general_count (n - k)
next_count n k h e = omega arith

pub length_general : (fuel : ℕ) (os : List ℕ) → length os < fuel → length (general_octets (λ u. u) os) ≡ 8 * length os + general_count (length os)
length_general zero os h = absurd (omega arith)
length_general (suc fuel) os h = ⊎_elim
    (λ (l : length os < 16384).
    let e = ap length (octets_last os l) ∙ length-append (first_length (length os)).bits (unpacked os) in
    omega (arith, e, last_count (length os) l, length-unpacked os))
    (λ (l : 16384 ≤ length os).
    let k = (first_length (length os)).items in
    let size = fragment_items (length os) k l refl in
    let some : 1 ≤ k = omega (arith, size.0, size.1) in
    let inside : k ≤ length os = omega (arith, size.0, size.2) in
    let back = length-drop k os in
    let rest = length_general fuel (drop k os) (omega (arith, h, back, some, l)) in
    let front = (first_length (length os)).bits ++ unpacked (take k os) in
    let e = ap length (octets_fragment os k l refl) ∙ length-append front (general_octets (λ u. u) (drop k os)) in
    let f = length-append (first_length (length os)).bits (unpacked (take k os)) in
    let eight : length (first_length (length os)).bits ≡ 8 = ap (λ x. length x.bits) (first_fragment (length os) l) in
    let count = next_count (length os) k l size.0 in
    let again : general_count (length (drop k os)) ≡ general_count (length os - k) = ap general_count back in
    omega (arith, e, f, rest, eight, count, again, back, inside, length-unpacked (take k os), length-take-le k os inside))
    (cases_lt (length os) 16384)

pub length_single : (n : ℕ) → length (unpacked (octet_length n)) ≡ single_count n
length_single n = ⊎_elim
    (λ (h : n < 128). omega (arith, length-unpacked (octet_length n), ap length (small_is n h), ap {B = ℕ} (λ b. elim b [ true ↦ 8 | false ↦ 8 + 8 * octet_count n ]) (lt-ltb n 128 h)))
    (λ (h : 128 ≤ n). omega (
      arith,
      length-unpacked (octet_length n),
      ap length (large_is n (octet_count n) h refl),
      length-digits 256 (octet_count n) n,
      ap {B = ℕ} (λ b. elim b [ true ↦ 8 | false ↦ 8 + 8 * octet_count n ]) (le-ltb n 128 h),
    ))
    (cases_lt n 128)

-- a field is counted after what was counted before, where a count of its bits stops at its end
pub field_counted : (count : ℕ → ℕ) → ((m : ℕ) → 8 ≤ count m) → (before n bits outer added sum : ℕ) → bits ≡ min (8 * n) (2 ^ 64 - 1) → outer ≡ min before (2 ^ 64 - 1)
    → added ≡ min (count (bits / 8) + 8 * (bits / 8)) (2 ^ 64 - 1) → sum ≡ min (outer + added) (2 ^ 64 - 1)
    → sum ≡ min (before + (8 * n + count n)) (2 ^ 64 - 1)
field_counted count some before n bits outer added sum e o a s = ⊎_elim
    (λ (h : 8 * n < 2 ^ 64).
    let same : bits / 8 ≡ n = omega (arith, h, e) in
    let all : count (bits / 8) ≡ count n = ap count same in
    omega (arith, all, same, o, a, s))
    (λ (h : 2 ^ 64 ≤ 8 * n). omega (arith, h, e, o, a, s, some (bits / 8)))
    (cases_lt (8 * n) (2 ^ 64))

pub some_general : (n : ℕ) → 8 ≤ general_count n
some_general n = omega arith

pub some_single : (n : ℕ) → 8 ≤ single_count n
some_single n = ⊎_elim
    (λ (h : n < 128). omega (arith, ap {B = ℕ} (λ b. elim b [ true ↦ 8 | false ↦ 8 + 8 * octet_count n ]) (lt-ltb n 128 h)))
    (λ (h : 128 ≤ n). omega (arith, ap {B = ℕ} (λ b. elim b [ true ↦ 8 | false ↦ 8 + 8 * octet_count n ]) (le-ltb n 128 h)))
    (cases_lt n 128)
