-- The first length of a list: which counts have one that begins with given bits.
use Rattle.std.proofs.Common.{◌≡◌, ◌↔◌, ◌+◌, ◌-◌, ◌*◌, ◌/◌, ◌%◌, ◌^◌, ◌<◌, ◌≤◌, ◌⊎◌, inl, inr, ⊎_elim, ℕ, Bool, true, false, nat_lt, max, List, [], ◌∷◌, ◌++◌, length, length-append, refl, sym, ap, ◌∙◌, subst, append_assoc, arith}
use Rattle.std.specs.Bool.{⊤}
use Rattle.std.proofs.lemmas.Bool.{lt-ltb, le-ltb, cases_lt}
use Rattle.std.proofs.lemmas.Nat.{pow-add, pow_pos}
use Rattle.std.proofs.Math.Nat.{div-lt_iff_lt-mul, le-div_iff_mul-le, mul-le-mul_right}
use Rattle.std.proofs.lemmas.List.{append-nil}
use Rattle.asn_bits.specs.Numbers.{bits}
use Rattle.asn_bits.specs.Lengths.{last_length, fragment, blocks}
use mir.Val.{bool_byte}
use Rattle.asn_bits.specs.Sink.{bit_of}
use Rattle.asn_bits.specs.LengthBits.{first_length, StartsLength, StartsSome, LengthAhead}
use Rattle.asn_bits.specs.LengthStates.{form_bits, form_width, form_items, state_bits, IsLengthState}
use Rattle.asn_bits.specs.declared.general_length.Form.{Form}
use Rattle.asn_bits.specs.declared.general_length.Form.TheVariants as form
use Rattle.asn_bits.specs.declared.general_length.LengthState.{LengthState}
use Rattle.asn_bits.specs.declared.general_length.LengthState.TheVariants as place
use Rattle.asn_bits.proofs.Digits.{digits_code}
use Rattle.asn_bits.proofs.Octets.{length-digits}
use Rattle.asn_bits.proofs.Prefixes.{bits_further}
use Rattle.asn_bits.proofs.Splits.{digits-add, digits-join, digits_above}

-- ---- numbers that begin with given bits

-- the numbers with a quotient by a power of two
pub quotient_range : (l p n : ℕ) → (n / 2 ^ l ≡ p) ↔ ((p * 2 ^ l ≤ n) × (n < (p + 1) * 2 ^ l))
quotient_range l p n =
    let above : (p ≤ n / 2 ^ l) ↔ (p * 2 ^ l ≤ n) = le-div_iff_mul-le (pow_pos l) in
    let below : (n / 2 ^ l < p + 1) ↔ (n < (p + 1) * 2 ^ l) = div-lt_iff_lt-mul (pow_pos l) in (
      λ e. (above.0 (omega (arith, e)), below.0 (omega (arith, e))),
      λ h. (let a = above.1 h.0 in let b = below.1 h.1 in omega (arith, a, b)),
    )

-- what this many bits hold, split anywhere
pub power_split : (k l : ℕ) → l ≤ k → 2 ^ k ≡ 2 ^ (k - l) * 2 ^ l
power_split k l h = (let e : k ≡ k - l + l = omega arith in ap (λ i. 2 ^ i) e ∙ pow-add 2 (k - l) l)

-- numbers that begin with a prefix that fits are below what all bits hold
pub prefix_room : (k l p : ℕ) → l ≤ k → p < 2 ^ (k - l) → (p + 1) * 2 ^ l ≤ 2 ^ k
prefix_room k l p h w = (let r : (p + 1) * 2 ^ l ≤ 2 ^ (k - l) * 2 ^ l = mul-le-mul_right (2 ^ l) (omega arith) in omega (arith, r, power_split k l h))

-- a number with that quotient begins with its bits
pub number_begins : (k l p n : ℕ) → l ≤ k → n / 2 ^ l ≡ p → bits k n ≡ bits (k - l) p ++ bits l n
number_begins k l p n h e =
    let w : k ≡ k - l + l = omega arith in
    ap (λ i. bits i n) w ∙ digits-add 2 (k - l) l n ∙ ap (λ q. bits (k - l) q ++ bits l n) e

-- and the other way round, whatever follows
pub number_front : (k l p n : ℕ) (u t : List ℕ) → l ≤ k → p < 2 ^ (k - l) → n < 2 ^ k → bits k n ++ u ≡ bits (k - l) p ++ t → n / 2 ^ l ≡ p
number_front k l p n u t h w m e =
    let two : 0 < 2 = omega arith in
    let few : (n / 2 ^ l < 2 ^ (k - l)) ↔ (n < 2 ^ (k - l) * 2 ^ l) = div-lt_iff_lt-mul (pow_pos l) in
    let small = few.1 (omega (arith, m, power_split k l h)) in
    let split : bits (k - l) (n / 2 ^ l) ++ (bits l n ++ u) ≡ bits (k - l) p ++ t = sym (append_assoc (bits (k - l) (n / 2 ^ l)) (bits l n) u) ∙ ap (λ b. b ++ u) (sym (number_begins k l (n / 2 ^ l) n h refl)) ∙ e in
    (digits_code 2 two (k - l) (n / 2 ^ l) p (bits l n ++ u) t small w split).0

-- ---- the three forms

-- 0 and 7 bits
pub first_few : (n : ℕ) → n < 128 → first_length n ≡ record { bits = 0 ∷ bits 7 n; items = n }
first_few n h = (let a : nat_lt n 16384 ≡ true = lt-ltb n 16384 (omega arith) in let b : nat_lt n 128 ≡ true = lt-ltb n 128 h in rw (first_length, a, last_length, b) refl)

-- 10 and 14 bits
pub first_many : (n : ℕ) → 128 ≤ n → n < 16384 → first_length n ≡ record { bits = 1 ∷ 0 ∷ bits 14 n; items = n }
first_many n l h = (let a : nat_lt n 16384 ≡ true = lt-ltb n 16384 h in let b : nat_lt n 128 ≡ false = le-ltb n 128 l in rw (first_length, a, last_length, b) refl)

-- 11 and 6 bits
pub first_fragment : (n : ℕ) → 16384 ≤ n → first_length n ≡ fragment (blocks n)
first_fragment n l = (let a : nat_lt n 16384 ≡ false = le-ltb n 16384 l in rw (first_length, a) refl)

-- ---- the states of a reader of lengths

-- the counts whose first length begins so
abbrev pub Stands : ℕ → LengthState → Type 0
Stands n place.Start = Unit {0}
Stands n place.FirstBitSet = 128 ≤ n
Stands n (place.Number form.Short p l) = (n < 128) × (n / 2 ^ l ≡ p)
Stands n (place.Number form.Long p l) = (128 ≤ n) × (n < 16384) × (n / 2 ^ l ≡ p)
Stands n (place.Number form.Fragment p l) = (16384 ≤ n) × (blocks n / 2 ^ l ≡ p)

zero_one : ◌≡◌ {A = ℕ} 0 1 → ⊥
zero_one h = omega arith

-- the counts of each form
form_cases : (n : ℕ) → (n < 128) ⊎ (((128 ≤ n) × (n < 16384)) ⊎ (16384 ≤ n))
form_cases n = ⊎_elim inl (λ a. ⊎_elim (λ b. inr (inl (a, b))) (λ b. inr (inr b)) (cases_lt n 16384)) (cases_lt n 128)

-- a length that agrees with the bits given, as far as both go, is one of those counts
pub stands_of : (n : ℕ) (p : LengthState) (u t : List ℕ) → IsLengthState p → (first_length n).bits ++ u ≡ state_bits p ++ t → Stands n p
stands_of n place.Start u t h e = tt
stands_of n place.FirstBitSet u t h e =
    elim (form_cases n) [
      | inl a ↦ let f : 0 ∷ (bits 7 n ++ u) ≡ 1 ∷ t = rw (first_few n a) at e in absurd (zero_one (cc))
      | inr b ↦ elim b [ inl c ↦ c.0 | inr c ↦ omega arith ]
    ]
stands_of n (place.Number form.Short p l) u t h e =
    elim (form_cases n) [
      | inl a ↦ let f : 0 ∷ (bits 7 n ++ u) ≡ 0 ∷ (bits (7 - l) p ++ t) = rw (first_few n a) at e in (a, number_front 7 l p n u t h.0 h.1 a (cc))
      | inr b ↦ elim b [
        | inl c ↦ let f : 1 ∷ 0 ∷ (bits 14 n ++ u) ≡ 0 ∷ (bits (7 - l) p ++ t) = rw (first_many n c.0 c.1) at e in absurd (zero_one (cc))
        | inr c ↦ let f : 1 ∷ 1 ∷ (bits 6 (blocks n) ++ u) ≡ 0 ∷ (bits (7 - l) p ++ t) = rw (first_fragment n c) at e in absurd (zero_one (cc))
      ]
    ]
stands_of n (place.Number form.Long p l) u t h e =
    elim (form_cases n) [
      | inl a ↦ let f : 0 ∷ (bits 7 n ++ u) ≡ 1 ∷ 0 ∷ (bits (14 - l) p ++ t) = rw (first_few n a) at e in absurd (zero_one (cc))
      | inr b ↦ elim b [
        | inl c ↦ let f : 1 ∷ 0 ∷ (bits 14 n ++ u) ≡ 1 ∷ 0 ∷ (bits (14 - l) p ++ t) = rw (first_many n c.0 c.1) at e in (c.0, c.1, number_front 14 l p n u t h.0 h.1 c.1 (cc))
        | inr c ↦ let f : 1 ∷ 1 ∷ (bits 6 (blocks n) ++ u) ≡ 1 ∷ 0 ∷ (bits (14 - l) p ++ t) = rw (first_fragment n c) at e in absurd (zero_one (cc))
      ]
    ]
stands_of n (place.Number form.Fragment p l) u t h e =
    elim (form_cases n) [
      | inl a ↦ let f : 0 ∷ (bits 7 n ++ u) ≡ 1 ∷ 1 ∷ (bits (6 - l) p ++ t) = rw (first_few n a) at e in absurd (zero_one (cc))
      | inr b ↦ elim b [
        | inl c ↦ let f : 1 ∷ 0 ∷ (bits 14 n ++ u) ≡ 1 ∷ 1 ∷ (bits (6 - l) p ++ t) = rw (first_many n c.0 c.1) at e in absurd (zero_one (cc))
        | inr c ↦ let f : 1 ∷ 1 ∷ (bits 6 (blocks n) ++ u) ≡ 1 ∷ 1 ∷ (bits (6 - l) p ++ t) = rw (first_fragment n c) at e in (c, number_front 6 l p (blocks n) u t h.0 h.1 (omega arith) (cc))
      ]
    ]

-- and the other way round
pub starts_of : (n : ℕ) (p : LengthState) → IsLengthState p → Stands n p → StartsLength n (state_bits p)
starts_of n place.Start h s = record { more = (first_length n).bits; split = refl }
starts_of n place.FirstBitSet h s =
    elim (cases_lt n 16384) [
      | inl a ↦ record { more = 0 ∷ bits 14 n; split = ap (λ l. l.bits) (first_many n s a) }
      | inr b ↦ record { more = 1 ∷ bits 6 (blocks n); split = ap (λ l. l.bits) (first_fragment n b) }
    ]
starts_of n (place.Number form.Short p l) h s = record { more = bits l n; split = ap (λ l. l.bits) (first_few n s.0) ∙ ap (λ b. 0 ∷ b) (number_begins 7 l p n h.0 s.1) }
starts_of n (place.Number form.Long p l) h s = record { more = bits l n; split = ap (λ l. l.bits) (first_many n s.0 s.1) ∙ ap (λ b. 1 ∷ 0 ∷ b) (number_begins 14 l p n h.0 s.2) }
starts_of n (place.Number form.Fragment p l) h s = record { more = bits l (blocks n); split = ap (λ l. l.bits) (first_fragment n s.0) ∙ ap (λ b. 1 ∷ 1 ∷ b) (number_begins 6 l p (blocks n) h.0 s.1) }

-- what a reader tests of a state decides which counts have a first length that begins so
pub starts_where : (p : LengthState) (P : ℕ → Type 0) → IsLengthState p → ((n : ℕ) → P n ↔ Stands n p) → (n : ℕ) → P n ↔ StartsLength n (state_bits p)
starts_where p P h f n = (
  λ x. starts_of n p h ((f n).0 x),
  λ s. (f n).1 (stands_of n p [] s.more h (append-nil (first_length n).bits ∙ s.split)),
)

-- ---- what a reader tests of each state

-- a state that is known
at_place : {P : ℕ → Type 0} (x y : LengthState) → x ≡ y → IsLengthState x → ((n : ℕ) → P n ↔ Stands n y) → (n : ℕ) → P n ↔ StartsLength n (state_bits x)
at_place {P} x y e h f = subst (λ (z : LengthState). (n : ℕ) → P n ↔ StartsLength n (state_bits z)) (sym e) (starts_where y P (subst (λ (z : LengthState). IsLengthState z) e h) f)

-- no bit is given
pub exact_start : (x : LengthState) → x ≡ place.Start → IsLengthState x → (n : ℕ) → ((0 ≤ n) × ⊤) ↔ StartsLength n (state_bits x)
exact_start x e h = at_place x place.Start e h (λ n. (λ a. tt, λ a. (omega arith, tt)))

-- a 1 is given
pub exact_one : (x : LengthState) → x ≡ place.FirstBitSet → IsLengthState x → (n : ℕ) → ((128 ≤ n) × ⊤) ↔ StartsLength n (state_bits x)
exact_one x e h = at_place x place.FirstBitSet e h (λ n. (λ a. a.0, λ a. (a, tt)))

-- 0 and a front of 7 bits
pub exact_few : (x : LengthState) (p l low high : ℕ) → x ≡ place.Number form.Short p l → IsLengthState x → low ≡ p * 2 ^ l → high ≡ (p + 1) * 2 ^ l → (n : ℕ) → ((low ≤ n) × (n ≤ high - 1)) ↔ StartsLength n (state_bits x)
exact_few x p l low high e h d f = at_place x (place.Number form.Short p l) e h (λ n.
    let q = quotient_range l p n in
    let i : IsLengthState (place.Number form.Short p l) = subst (λ (z : LengthState). IsLengthState z) e h in
    let r = prefix_room 7 l p i.0 i.1 in
    let s : 0 < 2 ^ l = pow_pos l in (
      λ a. (omega (arith, a.1, f, r), q.1 (omega (arith, a.0, d), omega (arith, a.1, f, s))),
      λ a. (let b = q.0 a.1 in (omega (arith, b.0, d), omega (arith, b.1, f))),
    ))

-- 10 and a front of 14 bits
pub exact_many : (x : LengthState) (p l low high : ℕ) → x ≡ place.Number form.Long p l → IsLengthState x → low ≡ max (p * 2 ^ l) 128 → high ≡ (p + 1) * 2 ^ l → (n : ℕ) → ((low ≤ n) × (n ≤ high - 1)) ↔ StartsLength n (state_bits x)
exact_many x p l low high e h d f = at_place x (place.Number form.Long p l) e h (λ n.
    let q = quotient_range l p n in
    let i : IsLengthState (place.Number form.Long p l) = subst (λ (z : LengthState). IsLengthState z) e h in
    let r = prefix_room 14 l p i.0 i.1 in
    let s : 0 < 2 ^ l = pow_pos l in (
      λ a. (omega (arith, a.0, d), omega (arith, a.1, f, r, s), q.1 (omega (arith, a.0, d), omega (arith, a.1, f, s))),
      λ a. (let b = q.0 a.2 in (omega (arith, b.0, d, a.0), omega (arith, b.1, f))),
    ))

-- 11 and a front of 6 bits
pub exact_fragment : {P : ℕ → Type 0} (x : LengthState) (p l low high : ℕ) → x ≡ place.Number form.Fragment p l → IsLengthState x → low ≡ p * 2 ^ l → high ≡ (p + 1) * 2 ^ l → ((n : ℕ) → P n ↔ ((16384 ≤ n) × (low ≤ blocks n) × (blocks n ≤ high - 1))) → (n : ℕ) → P n ↔ StartsLength n (state_bits x)
exact_fragment x p l low high e h d f g = at_place x (place.Number form.Fragment p l) e h (λ n.
    let q = quotient_range l p (blocks n) in
    let s : 0 < 2 ^ l = pow_pos l in (
      λ a. (let b = (g n).0 a in (b.0, q.1 (omega (arith, b.1, d), omega (arith, b.2, f, s)))),
      λ a. (let b = q.0 a.1 in (g n).1 (a.0, omega (arith, b.0, d), omega (arith, b.1, f))),
    ))

-- ---- the counts left

-- after a fragment of fewer than 4 blocks, fewer than a block: the range is cut
pub exact_left : {P : ℕ → Type 0} (Q C S : ℕ → Type 0) → ((n : ℕ) → P n ↔ S n) → ((n : ℕ) → Q n ↔ (P n × C n)) → (n : ℕ) → Q n ↔ (S n × C n)
exact_left Q C S f g n = (
  λ a. (let b = (g n).0 a in ((f n).0 b.0, b.1)),
  λ a. (g n).1 ((f n).1 a.0, a.1),
)

-- ---- the next bits

-- a state with a number, and one bit more
pub place_more : (x : LengthState) (f : Form) (p l b : ℕ) → x ≡ place.Number f p l → IsLengthState x → 0 < l → b < 2 → IsLengthState (place.Number f (2 * p + b) (l - 1)) × (state_bits (place.Number f (2 * p + b) (l - 1)) ≡ state_bits x ++ b ∷ [])
place_more x f p l b e h s t =
    let i : IsLengthState (place.Number f p l) = subst (λ (z : LengthState). IsLengthState z) e h in
    let k = form_width f - l in
    let w : form_width f - (l - 1) ≡ k + 1 = omega (arith, i.0) in
    let v : 2 ^ (k + 1) ≡ 2 ^ k * 2 = pow-add 2 k 1 in (
      (omega (arith, i.0), subst (λ (j : ℕ). 2 * p + b < 2 ^ j) (sym w) (omega (arith, v, i.1))),
      ap (λ j. form_bits f ++ bits j (2 * p + b)) w ∙ ap (λ bs. form_bits f ++ bs) (bits_further k p b i.1 t)
          ∙ sym (append_assoc (form_bits f) (bits k p) (b ∷ [])) ∙ ap (λ z. state_bits z ++ b ∷ []) (sym e),
    )

-- 10 and 14 bits, as a number
pub many_bits : (n : ℕ) → n < 16384 → bits 16 (2 * 2 ^ 14 + n) ≡ 1 ∷ 0 ∷ bits 14 n
many_bits n w =
    let two : 0 < 2 = omega arith in
    let m = 2 * 2 ^ 14 + n in
    let one : m / 2 ^ 15 % 2 ≡ 1 = omega arith in
    let zero : m / 2 ^ 14 % 2 ≡ 0 = omega arith in
    ap (λ x. x ∷ bits 15 m) one ∙ ap (λ x. 1 ∷ x ∷ bits 14 m) zero ∙ ap (λ x. 1 ∷ 0 ∷ x) (digits_above 2 two 14 2 n)

-- as two octets
pub many_octets : (a b : ℕ) {us mid rest : List ℕ} → 128 ≤ a → a < 192 → b < 256 → us ≡ bits 8 a ++ mid → mid ≡ bits 8 b ++ rest → us ≡ 1 ∷ 0 ∷ (bits 14 ((a - 128) * 256 + b) ++ rest)
many_octets a b {us} {mid} {rest} l h w e f =
    let n = (a - 128) * 256 + b in
    let two : 0 < 2 = omega arith in
    let whole : a * 2 ^ 8 + b ≡ 2 * 2 ^ 14 + n = omega arith in
    let both : bits 8 a ++ bits 8 b ≡ bits 16 (2 * 2 ^ 14 + n) = digits-join 2 two 8 8 a b w ∙ ap (bits 16) whole in
    e ∙ ap (λ m. bits 8 a ++ m) f ∙ sym (append_assoc (bits 8 a) (bits 8 b) rest) ∙ ap (λ x. x ++ rest) (both ∙ many_bits n (omega arith))

-- a truth value as a bit
pub bit_byte : (b : Bool) {n : ℕ} → n ≡ bool_byte b → (n < 2) × (n ≡ bit_of b)
bit_byte true e = (omega arith, e)
bit_byte false e = (omega arith, e)

-- ---- how many bits there are

-- no length has fewer than 8 bits
pub first_some : (n : ℕ) → 8 ≤ length (first_length n).bits
first_some n =
    elim (form_cases n) [
      | inl a ↦ rw (first_few n a) (omega (arith, length-digits 2 7 n))
      | inr b ↦ elim b [ inl c ↦ rw (first_many n c.0 c.1) (omega (arith, length-digits 2 14 n)) | inr c ↦ rw (first_fragment n c) (omega (arith, length-digits 2 6 (blocks n))) ]
    ]

-- what is left of a length that began so
pub number_left : (n : ℕ) (f : Form) (p l : ℕ) → IsLengthState (place.Number f p l) → Stands n (place.Number f p l) → length (first_length n).bits ≡ length (state_bits (place.Number f p l)) + l
number_left n form.Short p l h s = rw (first_few n s.0) (omega (arith, h.0, length-digits 2 7 n, length-digits 2 (7 - l) p))
number_left n form.Long p l h s = rw (first_many n s.0 s.1) (omega (arith, h.0, length-digits 2 14 n, length-digits 2 (14 - l) p))
number_left n form.Fragment p l h s = rw (first_fragment n s.0) (omega (arith, h.0, length-digits 2 6 (blocks n), length-digits 2 (6 - l) p))

-- ---- a whole length in front of other bits

-- it has 8 bits
pub ahead_some : {S : ℕ → Type 0} {us : List ℕ} → LengthAhead S us → 8 ≤ length us
ahead_some {S} {us} w = omega (arith, first_some w.count, ap length w.split, length-append (first_length w.count).bits w.rest)

-- it agrees with the bits given, as far as both go
ahead_stands : {S : ℕ → Type 0} {us : List ℕ} (mid : List ℕ) (p : LengthState) (w : LengthAhead S us) → IsLengthState p → us ≡ state_bits p ++ mid → Stands w.count p
ahead_stands mid p w h e = stands_of w.count p w.rest mid h (sym w.split ∙ e)

-- so that a length of the set begins with them
pub ahead_starts : (S : ℕ → Type 0) (us mid : List ℕ) (p : LengthState) → LengthAhead S us → IsLengthState p → us ≡ state_bits p ++ mid → StartsSome S (state_bits p)
ahead_starts S us mid p w h e = record { count = w.count; member = w.member; starts = starts_of w.count p h (ahead_stands mid p w h e) }

-- 10 and 6 bits, as an octet
many_octet : (a : ℕ) → 128 ≤ a → a < 192 → bits 8 a ≡ 1 ∷ 0 ∷ bits 6 a
many_octet a l h =
    let one : a / 2 ^ 7 % 2 ≡ 1 = omega arith in
    let zero : a / 2 ^ 6 % 2 ≡ 0 = omega arith in
    ap (λ x. x ∷ bits 7 a) one ∙ ap (λ x. 1 ∷ x ∷ bits 6 a) zero

-- after an octet that begins with 10 it has 8 bits more
pub ahead_many : {S : ℕ → Type 0} (us mid : List ℕ) (a : ℕ) → LengthAhead S us → 128 ≤ a → a < 192 → us ≡ bits 8 a ++ mid → 8 ≤ length mid
ahead_many us mid a w l h e =
    let p = place.Number form.Long 0 14 in
    let i : IsLengthState p = (omega arith, omega arith) in
    let s = ahead_stands (bits 6 a ++ mid) p w i (e ∙ ap (λ bs. bs ++ mid) (many_octet a l h)) in
    let n : length (first_length w.count).bits ≡ 16 = number_left w.count form.Long 0 14 i s in
    omega (arith, n, ap length w.split, length-append (first_length w.count).bits w.rest, ap length e, length-append (bits 8 a) mid, length-digits 2 8 a)

-- fewer than a block follow at once
pub few_items : (n : ℕ) → n < 16384 → (first_length n).items ≡ n
few_items n h = ⊎_elim (λ a. ap (λ l. l.items) (first_few n a)) (λ a. ap (λ l. l.items) (first_many n a h)) (cases_lt n 128)

-- the items of a whole length
pub whole_items : (n : ℕ) (f : Form) (p : ℕ) → Stands n (place.Number f p 0) → (first_length n).items ≡ form_items f p
whole_items n form.Short p s = rw (first_few n s.0) (omega (arith, s.1))
whole_items n form.Long p s = rw (first_many n s.0 s.1) (omega (arith, s.2))
whole_items n form.Fragment p s = rw (first_fragment n s.0) (omega (arith, s.1))
