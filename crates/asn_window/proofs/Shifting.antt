-- Bits that wait, and those that come after them: which go out as whole octets, and which wait then.
use Rattle.std.proofs.Common.{◌≡◌, ◌<◌, ◌≤◌, ◌+◌, ◌*◌, ◌/◌, ◌%◌, ◌^◌, ◌-◌, ℕ, List, [], ◌++◌, take, sym, ap, ◌∙◌, append_assoc, arith}
use Rattle.std.proofs.lemmas.Nat.{div-mul-add, mod-mul-add, pow_pos}
use Rattle.std.proofs.Math.Seq.{take-append_seam}
use Rattle.asn_bits.specs.Numbers.{bits, octets, unpacked}
use Rattle.asn_bits.proofs.Octets.{length-digits}
use Rattle.asn_bits.proofs.Packing.{bits_low, waiting_view}
use Rattle.asn_bits.proofs.Splits.{digits-add, digits-join, digits-mod, two_pow_octets, unpacked-append, unpacked-octets}

-- of the c bits of p and the k bits of n after them, the first m are a word, and the last l are those of n
pub shifted_out : (c p k n m l w : ℕ) → n < 2 ^ k → m + l ≡ c + k → l ≤ k → m ≤ 64 → w ≡ (p * 2 ^ k + n) / 2 ^ l % 2 ^ 64
    → bits c p ++ bits k n ≡ bits m w ++ bits l n
shifted_out c p k n m l w h all less few e =
    let j = p * 2 ^ k + n in
    let together : bits c p ++ bits k n ≡ bits (m + l) j = digits-join 2 (omega arith) c k p n h ∙ ap (λ i. bits i j) (sym all) in
    let word : bits m w ≡ bits m (j / 2 ^ l) = ap (bits m) e ∙ bits_low m 64 (j / 2 ^ l) few in
    let low : bits l n ≡ bits l j = ap (bits l) (sym (mod-mul-add p (2 ^ k) n h)) ∙ bits_low l k j less in
    together ∙ digits-add 2 m l j ∙ ap (λ t. t ++ bits l j) (sym word) ∙ ap (λ t. bits m w ++ t) (sym low)

-- with others after them
pub shifted_on : (c p k n m l w : ℕ) (front coming : List ℕ) → n < 2 ^ k → m + l ≡ c + k → l ≤ k → m ≤ 64 → w ≡ (p * 2 ^ k + n) / 2 ^ l % 2 ^ 64
    → front ≡ bits k n → bits c p ++ (front ++ coming) ≡ bits m w ++ (bits l n ++ coming)
shifted_on c p k n m l w front coming h all less few e f =
    ap (λ t. bits c p ++ (t ++ coming)) f ∙ sym (append_assoc (bits c p) (bits k n) coming)
    ∙ ap (λ t. t ++ coming) (shifted_out c p k n m l w h all less few e) ∙ append_assoc (bits m w) (bits l n) coming

-- together they are fewer than a word has
pub waits : (c p k n j : ℕ) (coming : List ℕ) → n < 2 ^ k → c + k ≤ 64 → j ≡ p * 2 ^ k % 2 ^ 64 + n
    → bits c p ++ (bits k n ++ coming) ≡ bits (c + k) j ++ coming
waits c p k n j coming h few e =
    sym (append_assoc (bits c p) (bits k n) coming) ∙ ap (λ t. t ++ coming) (sym (waiting_view [] c p k n j h few e))

-- the whole octets of bits that wait, and the others
pub whole_out : (c p : ℕ) (coming : List ℕ) → bits c p ++ coming ≡ bits (8 * (c / 8)) (p / 2 ^ (c % 8)) ++ (bits (c % 8) p ++ coming)
whole_out c p coming =
    let all : c ≡ 8 * (c / 8) + c % 8 = omega arith in
    ap (λ t. t ++ coming) (ap (λ i. bits i p) all ∙ digits-add 2 (8 * (c / 8)) (c % 8) p)
    ∙ append_assoc (bits (8 * (c / 8)) (p / 2 ^ (c % 8))) (bits (c % 8) p) coming

-- the first octets of eight, where a number was shifted to their front
pub first_of_eight : (count n : ℕ) (bytes : List ℕ) → count ≤ 8 → bytes ≡ octets 8 (n * 2 ^ (64 - 8 * count) % 2 ^ 64)
    → unpacked (take count bytes) ≡ bits (8 * count) n
first_of_eight count n bytes few e =
    let rest = 8 - count in
    let word = n * 256 ^ rest + 0 in
    let same : 64 - 8 * count ≡ 8 * rest = omega (arith, few) in
    let shift : n * 2 ^ (64 - 8 * count) ≡ word = ap (λ i. n * 2 ^ i) same ∙ ap (λ b. n * b) (sym (two_pow_octets rest)) ∙ omega arith in
    let whole : bytes ≡ octets 8 word =
    e ∙ ap (λ w. octets 8 (w % 2 ^ 64)) shift ∙ ap (λ b. octets 8 (word % b)) (sym (two_pow_octets 8)) ∙ digits-mod 256 (omega arith) 8 word in
    let all : 8 ≡ count + rest = omega arith in
    let some : 0 < 256 ^ rest = omega (arith, two_pow_octets rest, pow_pos (8 * rest)) in
    let high : word / 256 ^ rest ≡ n = div-mul-add n (256 ^ rest) 0 some in
    let front = octets count (word / 256 ^ rest) in
    let cut : bytes ≡ front ++ octets rest word = whole ∙ ap (λ i. octets i word) all ∙ digits-add 256 count rest word in
    let first : take count bytes ≡ front =
    ap (take count) cut ∙ ap (λ i. take i (front ++ octets rest word)) (sym (length-digits 256 count (word / 256 ^ rest))) ∙ take-append_seam front (octets rest word) in
    ap unpacked (first ∙ ap (octets count) high) ∙ unpacked-octets count n

-- bits cut anywhere
pub bits-cut : (j k n : ℕ) → bits (j + k) n ≡ bits j (n / 2 ^ k) ++ bits k (n % 2 ^ k)
bits-cut j k n = digits-add 2 j k n ∙ ap (λ t. bits j (n / 2 ^ k) ++ t) (sym (digits-mod 2 (omega arith) k n))

-- octets come after those that wait
pub after_waiting : (buffer more front coming next : List ℕ) → next ≡ buffer ++ more → unpacked more ≡ front → unpacked buffer ++ (front ++ coming) ≡ unpacked next ++ coming
after_waiting buffer more front coming next e f =
    ap (λ t. unpacked buffer ++ (t ++ coming)) (sym f) ∙ sym (append_assoc (unpacked buffer) (unpacked more) coming)
    ∙ ap (λ t. t ++ coming) (sym (unpacked-append buffer more) ∙ ap unpacked (sym e))
