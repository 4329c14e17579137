-- The bits of octets, read from a bit within the first octet.
use Rattle.std.proofs.Common.{◌≡◌, ◌≤◌, ◌<◌, ◌+◌, ◌-◌, ◌*◌, ◌/◌, ◌%◌, ◌^◌, ℕ, zero, suc, List, [], ◌∷◌, ◌++◌, length, take, drop, get_or, sym, ◌∙◌, ap, subst, arith, append_assoc, length-drop}
use Rattle.std.proofs.lemmas.List.{take-append-drop, take_more, get_or-drop, length-take-le}
use Rattle.std.proofs.Math.Seq.{drop-nil, drop-append-add, drop-append_seam, take-length}
use Rattle.std.proofs.lemmas.Nat.{be_bytes_8, div-mul-add, pow-add}
use Rattle.std.proofs.Math.Nat.{add-mul, one-le-pow}
use Rattle.std.specs.Int.{w64, from_be_bytes}
use Rattle.asn_bits.specs.Numbers.{bits, octets, unpacked}
use Rattle.asn_bits.specs.Sets.{AreBits}
use Rattle.asn_bits.proofs.FilledBits.{bits_append}
use Rattle.asn_bits.proofs.Octets.{length-digits}
use Rattle.asn_bits.proofs.Splits.{digits-add, digits-join, digits-mod, unpacked-octets, unpacked-append, length-unpacked, bytes-octets}

-- digits are bits
digits_bits : (k n : ℕ) → AreBits (bits k n)
digits_bits zero n = tt
digits_bits (suc k) n = (omega arith, digits_bits k n)

-- the bits of octets are bits
unpacked_bits : (os : List ℕ) → AreBits (unpacked os)
unpacked_bits [] = tt
unpacked_bits (o ∷ os) = bits_append (bits 8 o) (unpacked os) (digits_bits 8 o) (unpacked_bits os)

-- and so are those after some
drop_bits : (n : ℕ) (us : List ℕ) → AreBits us → AreBits (drop n us)
drop_bits zero us h = h
drop_bits (suc n) [] h = tt
drop_bits (suc n) (u ∷ us) h = drop_bits n us h.1

-- what is left is bits
pub left_bits : (os : List ℕ) (f : ℕ) → AreBits (drop f (unpacked os))
left_bits os f = drop_bits f (unpacked os) (unpacked_bits os)

-- how many bits are left
pub length-left : (os : List ℕ) (f : ℕ) → length (drop f (unpacked os)) ≡ 8 * length os - f
length-left os f = length-drop f (unpacked os) ∙ ap (λ t. t - f) (length-unpacked os)

-- no bit is left where no octet is
pub left_none : (os : List ℕ) (f : ℕ) → length os ≡ 0 → drop f (unpacked os) ≡ []
left_none [] f e = drop-nil f
left_none (o ∷ os) f e = absurd (omega arith)

pub none_left : (os : List ℕ) (f : ℕ) → f < 8 → drop f (unpacked os) ≡ [] → length os ≡ 0
none_left os f h e = let l = ap length e in omega (arith, length-left os f)

-- whole octets are passed
pub drop-unpacked : (w l : ℕ) (os : List ℕ) → drop (8 * w + l) (unpacked os) ≡ drop l (unpacked (drop w os))
drop-unpacked zero l os = ap (λ i. drop i (unpacked os)) (omega arith)
drop-unpacked (suc w) l [] = drop-nil (8 * suc w + l) ∙ sym (drop-nil l)
drop-unpacked (suc w) l (o ∷ os) =
    let e : 8 * suc w + l ≡ 8 + (8 * w + l) = omega arith in
    ap (λ i. drop i (bits 8 o ++ unpacked os)) e ∙ drop-append-add (bits 8 o) (unpacked os) (8 * w + l) ∙ drop-unpacked w l os

-- the first m octets as one number
pub unpacked_front : (os : List ℕ) (m n : ℕ) → octets m n ≡ take m os → unpacked os ≡ bits (8 * m) n ++ unpacked (drop m os)
unpacked_front os m n e =
    ap unpacked (sym (take-append-drop m os)) ∙ unpacked-append (take m os) (drop m os)
    ∙ ap (λ t. t ++ unpacked (drop m os)) (ap unpacked (sym e) ∙ unpacked-octets m n)

drop_digits : (k n : ℕ) (r : List ℕ) → drop k (bits k n ++ r) ≡ r
drop_digits k n r = ap (λ i. drop i (bits k n ++ r)) (sym (length-digits 2 k n)) ∙ drop-append_seam (bits k n) r

-- k bits after the first f of a number of f + (k + r) bits
field_left : (f k r n : ℕ) (s : List ℕ) → drop f (bits (f + (k + r)) n ++ s) ≡ bits k (n / 2 ^ r) ++ (bits r n ++ s)
field_left f k r n s =
    let split : bits (f + (k + r)) n ≡ bits f (n / 2 ^ (k + r)) ++ (bits k (n / 2 ^ r) ++ bits r n) =
    digits-add 2 f (k + r) n ∙ ap (λ t. bits f (n / 2 ^ (k + r)) ++ t) (digits-add 2 k r n) in
    ap (λ t. drop f (t ++ s)) split
    ∙ ap (drop f) (append_assoc (bits f (n / 2 ^ (k + r))) (bits k (n / 2 ^ r) ++ bits r n) s)
    ∙ drop_digits f (n / 2 ^ (k + r)) ((bits k (n / 2 ^ r) ++ bits r n) ++ s)
    ∙ append_assoc (bits k (n / 2 ^ r)) (bits r n) s

pub field_passed : (f k r n : ℕ) (s : List ℕ) → drop (f + k) (bits (f + (k + r)) n ++ s) ≡ bits r n ++ s
field_passed f k r n s =
    let e : f + (k + r) ≡ (f + k) + (0 + r) = omega arith in
    ap (λ i. drop (f + k) (bits i n ++ s)) e ∙ field_left (f + k) 0 r n s

-- the k bits after the first f are those of a field of the first m octets' number
pub field_read : (os : List ℕ) (f k r m n v : ℕ) → octets m n ≡ take m os → f + (k + r) ≡ 8 * m → v ≡ n / 2 ^ r % 2 ^ k
    → drop f (unpacked os) ≡ bits k v ++ drop (f + k) (unpacked os)
field_read os f k r m n v e l i =
    let rest = unpacked (drop m os) in
    let all : unpacked os ≡ bits (f + (k + r)) n ++ rest = unpacked_front os m n e ∙ ap (λ t. bits t n ++ rest) (sym l) in
    let here : bits k (n / 2 ^ r) ≡ bits k v = sym (digits-mod 2 (omega arith) k (n / 2 ^ r)) ∙ ap (bits k) (sym i) in
    ap (drop f) all ∙ field_left f k r n rest ∙ ap (λ t. t ++ (bits r n ++ rest)) here
    ∙ ap (λ t. bits k v ++ t) (sym (field_passed f k r n rest) ∙ ap (drop (f + k)) (sym all))

-- one octet as a number
pub octets_one : (os : List ℕ) (o : ℕ) → o < 256 → 0 < length os → o ≡ get_or os 0 0 → octets 1 o ≡ take 1 os
octets_one [] o h l e = absurd (omega arith)
octets_one (p ∷ os) o h l e = ap (λ t. t ∷ []) (omega (arith, e))

-- one octet more
pub octets_next : (xs : List ℕ) (i n o : ℕ) → octets i n ≡ xs → o < 256 → octets (i + 1) (n * 256 + o) ≡ xs ++ o ∷ []
octets_next xs i n o e h =
    let one : octets 1 o ≡ o ∷ [] = ap (λ t. t ∷ []) (omega arith) in
    sym (digits-join 256 (omega arith) i 1 n o (omega arith)) ∙ cc (e, one)

-- the bit after the first f of an octet
pub bit_read : (o f : ℕ) (os : List ℕ) → f < 8 → drop f (unpacked (o ∷ os)) ≡ (o / 2 ^ (7 - f) % 2) ∷ drop (f + 1) (unpacked (o ∷ os))
bit_read o f os h =
    let r = 7 - f in
    let eight : 8 ≡ f + (1 + r) = omega arith in
    let all : bits 8 o ++ unpacked os ≡ bits (f + (1 + r)) o ++ unpacked os = ap (λ i. bits i o ++ unpacked os) eight in
    let one : bits 1 (o / 2 ^ r) ≡ o / 2 ^ r % 2 ∷ [] = ap (λ t. t ∷ []) (omega arith) in
    ap (drop f) all ∙ field_left f 1 r o (unpacked os) ∙ ap (λ t. t ++ (bits r o ++ unpacked os)) one
    ∙ ap (λ t. o / 2 ^ r % 2 ∷ t) (sym (field_passed f 1 r o (unpacked os)) ∙ ap (drop (f + 1)) (sym all))

-- the next bit, and what follows it
pub next_read : (os rest old : List ℕ) (o f b : ℕ) → os ≡ o ∷ rest → drop f (unpacked os) ≡ old → f < 8 → b ≡ o / 2 ^ (7 - f) % 2 → old ≡ b ∷ drop (f + 1) (unpacked os)
next_read os rest old o f b e v h i =
    sym v ∙ ap (λ t. drop f (unpacked t)) e ∙ bit_read o f rest h ∙ ap (λ t. t ∷ drop (f + 1) (unpacked (o ∷ rest))) (sym i)
    ∙ ap (λ t. b ∷ drop (f + 1) (unpacked t)) (sym e)

-- after the last bit of an octet stands the next octet
pub octet_passed : (os rest : List ℕ) (o f : ℕ) → os ≡ o ∷ rest → f ≡ 7 → drop (f + 1) (unpacked os) ≡ unpacked rest
octet_passed os rest o f e h = ap (λ t. drop (f + 1) (unpacked t)) e ∙ ap (λ i. drop (i + 1) (unpacked (o ∷ rest))) h

-- items of a front are items
pub take_below : (n : ℕ) (os : List ℕ) → ((i : ℕ) → get_or os i 0 < 256) → (i : ℕ) → get_or (take n os) i 0 < 256
take_below zero os h i = omega arith
take_below (suc n) [] h i = h i
take_below (suc n) (o ∷ os) h zero = h zero
take_below (suc n) (o ∷ os) h (suc i) = take_below n os (λ j. h (suc j)) i

-- eight octets as a number of 64 bits
pub octets_eight : (os eight : List ℕ) (a : ℕ) → eight ≡ take 8 os → 8 ≤ length os → ((i : ℕ) → get_or os i 0 < 256) → a ≡ from_be_bytes w64 eight → octets 8 a ≡ take 8 os
octets_eight os eight a e l h i =
    let fits : (j : ℕ) → get_or eight j 0 < 256 = subst (λ t. (j : ℕ) → get_or t j 0 < 256) (sym e) (take_below 8 os h) in
    let all : length eight ≡ 8 = ap length e ∙ length-take-le 8 os l in
    sym (bytes-octets 8 a) ∙ be_bytes_8 eight a all fits i ∙ e

-- nine octets as eight and one
pub octets_nine : (os rest : List ℕ) (a b : ℕ) → octets 8 a ≡ take 8 os → rest ≡ drop 8 os → b < 256 → 8 < length os → b ≡ get_or rest 0 0 → octets 9 (a * 256 + b) ≡ take 9 os
octets_nine os rest a b e r h l f =
    let last : b ≡ get_or os 8 0 = f ∙ ap (λ t. get_or t 0 0) r ∙ get_or-drop 8 os 0 0 in
    octets_next (take 8 os) 8 a b e h ∙ ap (λ t. take 8 os ++ t ∷ []) last ∙ sym (take_more os 8 0 l)

-- an octet past whole ones, within a slice
pub bits_passed : (os : List ℕ) (w l n : ℕ) → n ≡ 8 * w + l → drop n (unpacked os) ≡ drop l (unpacked (take (length os - w) (drop w os)))
bits_passed os w l n e =
    let all : length os - w ≡ length (drop w os) = sym (length-drop w os) in
    ap (λ i. drop i (unpacked os)) e ∙ drop-unpacked w l os
    ∙ ap (λ t. drop l (unpacked t)) (sym (ap (λ i. take i (drop w os)) all ∙ take-length (drop w os)))

-- bits that are left end where the octets below have not ended
pub bits_there : (os s : List ℕ) (f k : ℕ) → drop f (unpacked os) ≡ s → f ≤ 8 * length os → k ≤ length s → f + k ≤ 8 * length os
bits_there os s f k e h l = let m : length s ≡ 8 * length os - f = ap length (sym e) ∙ length-left os f in omega arith

-- the first k ones of a word of ones
pub word_mask : (k : ℕ) → k ≤ 64 → 18446744073709551615 / 2 ^ (64 - k) ≡ 2 ^ k - 1
word_mask k h =
    let p = 2 ^ (64 - k) in
    let t = 2 ^ k - 1 in
    let two : 0 < 2 = omega arith in
    let up : 0 < 2 ^ k = one-le-pow k 2 two in
    let some : 0 < p = one-le-pow (64 - k) 2 two in
    let whole : k + (64 - k) ≡ 64 = omega arith in
    let all : 2 ^ k * p ≡ 2 ^ 64 = sym (pow-add 2 k (64 - k)) ∙ ap (λ i. 2 ^ i) whole in
    let one : 2 ^ k ≡ t + 1 = omega arith in
    let parts : 2 ^ k * p ≡ t * p + 1 * p = ap (λ x. x * p) one ∙ add-mul t 1 p in
    let sum : 18446744073709551615 ≡ t * p + (p - 1) = omega (arith, all, parts) in
    ap (λ x. x / p) sum ∙ div-mul-add t p (p - 1) (omega arith)
