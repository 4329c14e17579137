-- Strings that are told by a number in their bits, put eight octets at a time.
use Rattle.std.proofs.Common.{◌≡◌, ◌≤◌, ◌<◌, ◌+◌, ◌-◌, ◌*◌, ◌/◌, ◌%◌, ◌^◌, ◌++◌, ◌∷◌, [], ◌==◌, ℕ, zero, suc, Bool, true, false, true≢false, if◌then◌else◌, List, length, map, take, bit_and, refl, sym, ap, subst, ◌∙◌, append_assoc, arith}
use Rattle.std.proofs.lemmas.List.{take-append-le}
use Rattle.std.proofs.lemmas.Nat.{div-mul-add, pow_pos, shr-shr}
use Rattle.std.proofs.lemmas.Bool.Decides.{nat_tests}
use Rattle.std.proofs.Math.Seq.{take-append_seam}
use Rattle.std.specs.Int.{bytes_low_first}
use Rattle.asn_bits.specs.Numbers.{bits, octets}
use Rattle.asn_bits.specs.Sink.{bit_of}
use Rattle.asn_bits.proofs.Octets.{length-digits}
use Rattle.asn_bits.proofs.Splits.{digits-add, digits-mod, two_pow_octets}

-- what is kept of a list after another
take_past : (old xs : List ℕ) (n : ℕ) → take (length old + n) (old ++ xs) ≡ old ++ take n xs
take_past [] xs n = ap (λ i. take i xs) (omega arith)
take_past (x ∷ old) xs n =
    let one_more : length (x ∷ old) + n ≡ suc (length old + n) = omega arith in
    ap (λ i. take i (x ∷ (old ++ xs))) one_more ∙ ap (λ l. x ∷ l) (take_past old xs n)

-- the first of eight octets, where a number was shifted to their front
first_octets : (count n : ℕ) (eight : List ℕ) → count ≤ 8 → eight ≡ octets 8 (n * 2 ^ (64 - 8 * count) % 2 ^ 64)
    → take count eight ≡ octets count n
first_octets count n eight few e =
    let rest = 8 - count in
    let word = n * 256 ^ rest + 0 in
    let same : 64 - 8 * count ≡ 8 * rest = omega (arith, few) in
    let shift : n * 2 ^ (64 - 8 * count) ≡ word = ap (λ i. n * 2 ^ i) same ∙ ap (λ b. n * b) (sym (two_pow_octets rest)) ∙ omega arith in
    let whole : eight ≡ octets 8 word =
    e ∙ ap (λ w. octets 8 (w % 2 ^ 64)) shift ∙ ap (λ b. octets 8 (word % b)) (sym (two_pow_octets 8)) ∙ digits-mod 256 (omega arith) 8 word in
    let all : 8 ≡ count + rest = omega arith in
    let some : 0 < 256 ^ rest = omega (arith, two_pow_octets rest, pow_pos (8 * rest)) in
    let high : word / 256 ^ rest ≡ n = div-mul-add n (256 ^ rest) 0 some in
    let front = octets count (word / 256 ^ rest) in
    let cut : eight ≡ front ++ octets rest word = whole ∙ ap (λ i. octets i word) all ∙ digits-add 256 count rest word in
    let first : take count eight ≡ front =
    ap (take count) cut ∙ ap (λ i. take i (front ++ octets rest word)) (sym (length-digits 256 count (word / 256 ^ rest))) ∙ take-append_seam front (octets rest word) in
    first ∙ ap (octets count) high

-- so these octets were added
pub octets_kept : (old all eight : List ℕ) (begin count n : ℕ) → begin ≡ length old → count ≤ 8 → all ≡ old ++ eight
    → eight ≡ octets 8 (n * 2 ^ (64 - 8 * count) % 2 ^ 64) → take (begin + count) all ≡ old ++ octets count n
octets_kept old all eight begin count n b few e is =
    ap (λ l. take (begin + count) l) e ∙ ap (λ i. take (i + count) (old ++ eight)) b ∙ take_past old eight count
    ∙ ap (λ l. old ++ l) (first_octets count n eight few is)

-- eight bits more of a number of 64 bits
pub eight_added : (old row : List ℕ) (i w o : ℕ) → i < 8 → row ≡ old ++ bits (8 * i) (w / 2 ^ (64 - 8 * i))
    → o ≡ w / 2 ^ (56 - 8 * i) % 256 → row ++ bits 8 o ≡ old ++ bits (8 * (i + 1)) (w / 2 ^ (64 - 8 * (i + 1)))
eight_added old row i w o less e is =
    let here = 56 - 8 * i in
    let m = w / 2 ^ here in
    let before : 64 - 8 * i ≡ here + 8 = omega (arith, less) in
    let next : 64 - 8 * (i + 1) ≡ here = omega (arith, less) in
    let count : 8 * (i + 1) ≡ 8 * i + 8 = omega arith in
    let last : bits 8 o ≡ bits 8 m = ap (λ t. bits 8 t) is ∙ digits-mod 2 (omega arith) 8 m in
    let sofar : row ≡ old ++ bits (8 * i) (w / 2 ^ (here + 8)) = e ∙ ap (λ t. old ++ bits (8 * i) (w / 2 ^ t)) before in
    let split : bits (8 * i + 8) m ≡ bits (8 * i) (w / 2 ^ (here + 8)) ++ bits 8 m = digits-add 2 (8 * i) 8 m ∙ ap (λ t. bits (8 * i) t ++ bits 8 m) (shr-shr w here 8) in
    ap (λ t. row ++ t) last ∙ ap (λ t. t ++ bits 8 m) sofar ∙ append_assoc old (bits (8 * i) (w / 2 ^ (here + 8))) (bits 8 m)
    ∙ ap (λ t. old ++ t) (sym split ∙ ap (λ t. bits t m) (sym count) ∙ ap (λ t. bits (8 * (i + 1)) (w / 2 ^ t)) (sym next))

-- the first of them, where a number was shifted to their front
first_bits : (count i n : ℕ) → count ≤ 8 * i → i ≤ 8
    → take count (bits (8 * i) (n * 2 ^ (64 - count) % 2 ^ 64 / 2 ^ (64 - 8 * i))) ≡ bits count n
first_bits count i n few most =
    let rest = 64 - count in
    let word = n * 2 ^ rest + 0 in
    let w = n * 2 ^ rest % 2 ^ 64 in
    let cut = 64 - 8 * i in
    let row = bits (8 * i) (w / 2 ^ cut) in
    let all : 64 ≡ 8 * i + cut = omega (arith, most) in
    let both : 64 ≡ count + rest = omega (arith, few, most) in
    let same : n * 2 ^ rest ≡ word = omega arith in
    let whole : bits 64 w ≡ bits 64 word = ap (λ t. bits 64 (t % 2 ^ 64)) same ∙ digits-mod 2 (omega arith) 64 word in
    let parted : bits 64 w ≡ row ++ bits cut w = ap (λ t. bits t w) all ∙ digits-add 2 (8 * i) cut w in
    let high : word / 2 ^ rest ≡ n = div-mul-add n (2 ^ rest) 0 (pow_pos rest) in
    let shifted : bits 64 word ≡ bits count n ++ bits rest word = ap (λ t. bits t word) both ∙ digits-add 2 count rest word ∙ ap (λ t. bits count t ++ bits rest word) high in
    let within : count ≤ length row = omega (arith, few, length-digits 2 (8 * i) (w / 2 ^ cut)) in
    sym (take-append-le count row (bits cut w) within) ∙ ap (λ l. take count l) (sym parted ∙ whole ∙ shifted)
    ∙ ap (λ t. take t (bits count n ++ bits rest word)) (sym (length-digits 2 count n)) ∙ take-append_seam (bits count n) (bits rest word)

-- so these bits were added
pub bits_kept : (old all : List ℕ) (begin count i n : ℕ) → begin ≡ length old → count ≤ 8 * i → i ≤ 8
    → all ≡ old ++ bits (8 * i) (n * 2 ^ (64 - count) % 2 ^ 64 / 2 ^ (64 - 8 * i)) → take (begin + count) all ≡ old ++ bits count n
bits_kept old all begin count i n b few most e =
    let row = bits (8 * i) (n * 2 ^ (64 - count) % 2 ^ 64 / 2 ^ (64 - 8 * i)) in
    ap (λ l. take (begin + count) l) e ∙ ap (λ t. take (t + count) (old ++ row)) b ∙ take_past old row count
    ∙ ap (λ l. old ++ l) (first_bits count i n few most)

-- a string of no bits
pub no_bits : (bs : List Bool) (count n : ℕ) → count ≡ 0 → map bit_of bs ≡ bits count n → [] ≡ bs
no_bits [] count n none e = refl
no_bits (b ∷ bs) count n none e =
    let longer : suc (length (map bit_of bs)) ≡ count = ap (λ l. length l) e ∙ length-digits 2 count n in
    absurd (omega (arith, longer, none))

-- ---- the bits of an octet, an octet for each

both_true : (b c : Bool) → (if b then c else false) ≡ true → (b ≡ true) × (c ≡ true)
both_true true c h = (refl, h)
both_true false c h = absurd (true≢false (sym h))

same_number : (x y : ℕ) → (x == y) ≡ true → x ≡ y
same_number x y h = grind (arith, nat_tests)

other_number : (x y : ℕ) → (x == y) ≡ false → x < suc y → x < y
other_number x y h less = grind (arith, nat_tests)

abbrev same : List ℕ → List ℕ → Bool
same [] [] = true
same [] (y ∷ ys) = false
same (x ∷ xs) [] = false
same (x ∷ xs) (y ∷ ys) = if x == y then same xs ys else false

same_is : (xs ys : List ℕ) → same xs ys ≡ true → xs ≡ ys
same_is [] [] h = refl
same_is [] (y ∷ ys) h = absurd (true≢false (sym h))
same_is (x ∷ xs) [] h = absurd (true≢false (sym h))
same_is (x ∷ xs) (y ∷ ys) h =
    let both = both_true (x == y) (same xs ys) h in
    ap (λ n. n ∷ xs) (same_number x y both.0) ∙ ap (λ l. y ∷ l) (same_is xs ys both.1)

abbrev spread : ℕ → List ℕ
spread x = bytes_low_first 0 8 (bit_and (x * 9241421688590303745 % 2 ^ 64 / 2 ^ 7) 72340172838076673)

abbrev all_below : ℕ → Bool
all_below zero = true
all_below (suc n) = if same (spread n) (bits 8 n) then all_below n else false

below_all : (n x : ℕ) → all_below n ≡ true → x < n → spread x ≡ bits 8 x
below_all zero x h less = absurd (omega (arith, less))
below_all (suc n) x h less = by_test (x == n) refl (λ under. below_all n x both.1 under)
  where
    both : (same (spread n) (bits 8 n) ≡ true) × (all_below n ≡ true)
    both = both_true (same (spread n) (bits 8 n)) (all_below n) h

    by_test : (b : Bool) → (x == n) ≡ b → (x < n → spread x ≡ bits 8 x) → spread x ≡ bits 8 x
    by_test true e before = subst (λ k. spread k ≡ bits 8 k) (sym (same_number x n e)) (same_is (spread n) (bits 8 n) both.0)
    by_test false e before = before (other_number x n e less)

every_octet : all_below 256 ≡ true
every_octet = refl

pub octet_spread : (x : ℕ) → x < 256
    → bytes_low_first 0 8 (bit_and (x * 9241421688590303745 % 2 ^ 64 / 2 ^ 7) 72340172838076673) ≡ bits 8 x
octet_spread x less = below_all 256 x every_octet less
