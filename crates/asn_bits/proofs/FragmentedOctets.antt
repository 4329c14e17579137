-- Octets under their general length, one length after the other.
use Rattle.std.proofs.Common.{◌≡◌, ◌-◌, ◌*◌, ◌/◌, ◌<◌, ◌≤◌, ℕ, List, [], ◌∷◌, ◌++◌, length, map, take, drop, sym, ap, ◌∙◌, append_assoc, length-drop, arith}
use Rattle.std.proofs.lemmas.List.{append-nil, length-map, drop-map}
use Rattle.std.proofs.Math.Seq.{take-length}
use Rattle.asn_bits.specs.Numbers.{bits, unpacked}
use Rattle.asn_bits.specs.Lengths.{fragment, blocks, lengths, joined, with_lengths, general_octets}
use Rattle.asn_bits.specs.LengthBits.{first_length}
use Rattle.asn_bits.proofs.FirstLengths.{first_fragment, few_items}
use Rattle.asn_bits.proofs.GeneralLengths.{map_same, take-map}
use Rattle.asn_bits.proofs.LeastLengths.{joined_octets}
use Rattle.asn_bits.proofs.LengthBits.{lengths_first, lengths_fragment}

-- an octet as a list of its bits
abbrev item : ℕ → List ℕ
item o = map (λ u. u) (bits 8 o)

-- the last octets
pub octets_last : (os : List ℕ) → length os < 16384 → general_octets (λ u. u) os ≡ (first_length (length os)).bits ++ unpacked os
octets_last os h =
    let items = map item os in
    let n : length items ≡ length os = length-map os item in
    let f = lengths_first (length os) in
    let ls : lengths (length items) ≡ first_length (length os) ∷ [] = ap lengths n ∙ f.1 ∙ ap (λ r. first_length (length os) ∷ r) (f.2 h) in
    let count : (first_length (length os)).items ≡ length items = few_items (length os) h ∙ sym n in
    ap (λ l. with_lengths (λ u. u) l items) ls
    ∙ ap (λ b. b ++ (joined (take (first_length (length os)).items items) ++ [])) (map_same (first_length (length os)).bits)
    ∙ ap (λ t. (first_length (length os)).bits ++ t) (append-nil (joined (take (first_length (length os)).items items)) ∙ ap (λ k. joined (take k items)) count ∙ ap joined (take-length items) ∙ joined_octets os)

-- a fragment, and the octets after it
pub octets_fragment : (os : List ℕ) (k : ℕ) → 16384 ≤ length os → k ≡ (first_length (length os)).items
    → general_octets (λ u. u) os ≡ ((first_length (length os)).bits ++ unpacked (take k os)) ++ general_octets (λ u. u) (drop k os)
octets_fragment os k h e =
    let items = map item os in
    let m = blocks (length os) in
    let n : length items ≡ length os = length-map os item in
    let c : k ≡ 16384 * m = e ∙ ap (λ l. l.items) (first_fragment (length os) h) in
    let ls : lengths (length items) ≡ fragment m ∷ lengths (length os - 16384 * m) = ap lengths n ∙ lengths_fragment (length os) h in
    let rest : lengths (length os - 16384 * m) ≡ lengths (length (map item (drop (16384 * m) os))) = ap lengths (sym (length-map (drop (16384 * m) os) item ∙ length-drop (16384 * m) os)) in
    let front : (fragment m).bits ≡ (first_length (length os)).bits = sym (ap (λ l. l.bits) (first_fragment (length os) h)) in
    let bs = (first_length (length os)).bits in
    ap (λ l. with_lengths (λ u. u) l items) ls
    ∙ ap (λ b. b ++ (joined (take (16384 * m) items) ++ with_lengths (λ u. u) (lengths (length os - 16384 * m)) (drop (16384 * m) items))) (map_same (fragment m).bits ∙ front)
    ∙ ap (λ t. bs ++ (t ++ with_lengths (λ u. u) (lengths (length os - 16384 * m)) (drop (16384 * m) items))) (ap joined (take-map item (16384 * m) os) ∙ joined_octets (take (16384 * m) os))
    ∙ ap (λ l. bs ++ (unpacked (take (16384 * m) os) ++ with_lengths (λ u. u) l (drop (16384 * m) items))) rest
    ∙ ap (λ i. bs ++ (unpacked (take (16384 * m) os) ++ with_lengths (λ u. u) (lengths (length (map item (drop (16384 * m) os)))) i)) (drop-map item (16384 * m) os)
    ∙ sym (append_assoc bs (unpacked (take (16384 * m) os)) (general_octets (λ u. u) (drop (16384 * m) os)))
    ∙ ap (λ j. (bs ++ unpacked (take j os)) ++ general_octets (λ u. u) (drop j os)) (sym c)

-- where the loop over the fragments stands: with the octets left, the bits so far are those of the whole
pub record Pushed (old sink os rest : List ℕ) : Type 0 where
  pub whole : sink ++ general_octets (λ u. u) rest ≡ old ++ general_octets (λ u. u) os

-- a fragment more
pub pushed_more : {old sink mid next os rest : List ℕ} (k : ℕ) → Pushed old sink os rest → 16384 ≤ length rest → k ≡ (first_length (length rest)).items → mid ≡ sink ++ (first_length (length rest)).bits → next ≡ mid ++ unpacked (take k rest) → Pushed old next os (drop k rest)
pushed_more {old} {sink} {mid} {next} {os} {rest} k p h e f g =
    let bs = (first_length (length rest)).bits in
    let u = unpacked (take k rest) in
    let more : next ≡ sink ++ (bs ++ u) = g ∙ ap (λ s. s ++ u) f ∙ append_assoc sink bs u in
    record {
      whole = ap (λ s. s ++ general_octets (λ u. u) (drop k rest)) more ∙ append_assoc sink (bs ++ u) (general_octets (λ u. u) (drop k rest)) ∙ ap (λ t. sink ++ t) (sym (octets_fragment rest k h e)) ∙ p.whole;
    }

-- the last octets
pub pushed_last : {old sink mid next os rest : List ℕ} → Pushed old sink os rest → length rest < 16384 → mid ≡ sink ++ (first_length (length rest)).bits → next ≡ mid ++ unpacked rest → next ≡ old ++ general_octets (λ u. u) os
pushed_last {old} {sink} {mid} {next} {os} {rest} p h f g =
    g ∙ ap (λ s. s ++ unpacked rest) f ∙ append_assoc sink (first_length (length rest)).bits (unpacked rest) ∙ ap (λ t. sink ++ t) (sym (octets_last rest h)) ∙ p.whole

-- a fragment has one block at least, and no more than its list
pub fragment_items : (n k : ℕ) → 16384 ≤ n → k ≡ (first_length n).items → (k ≡ 16384 * blocks n) × (1 ≤ blocks n) × (blocks n ≤ n / 16384)
fragment_items n k h e = (e ∙ ap (λ l. l.items) (first_fragment n h), omega arith, omega arith)
