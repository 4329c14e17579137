-- Lengths of OER octet by octet: which counts have a length that begins with given octets.
use Rattle.std.proofs.Common.{◌≡◌, ◌↔◌, ◌+◌, ◌-◌, ◌*◌, ◌/◌, ◌^◌, ◌<◌, ◌≤◌, ◌⊎◌, inl, inr, ℕ, Bool, true, false, nat_lt, max, Option, Some, List, [], ◌∷◌, ◌++◌, length, length-append, refl, sym, ap, ◌∙◌, subst, arith}
use Rattle.std.proofs.lemmas.Bool.{ltb-true, ltb-false, cases_lt}
use Rattle.std.proofs.lemmas.List.{append-nil}
use Rattle.std.proofs.lemmas.Nat.{pow-add, pow_pos}
use Rattle.std.proofs.Math.Nat.{div-lt_iff_lt-mul, pow-le-pow_right}
use Rattle.asn_bits.specs.Numbers.{octets, octet_count, digits}
use Rattle.asn_bits.specs.Lengths.{octet_length}
use Rattle.asn_bits.specs.Ranges.{Spanned, Reaches}
use Rattle.asn_bits.specs.OctetLengths.{StartsOctets, BeginsLength, GoesOn, state_octets, IsOctetState, IsWholeLength, least_long}
use Rattle.asn_bits.specs.declared.octet_lengths.OctetState.{OctetState}
use Rattle.asn_bits.specs.declared.octet_lengths.OctetState.TheVariants as place
use Rattle.asn_bits.proofs.Digits.{digits_code}
use Rattle.asn_bits.proofs.FirstLengths.{quotient_range, prefix_room}
use Rattle.asn_bits.proofs.Octets.{length-digits, octet_count_fits, octet_count_some, octet_count_below}
use Rattle.asn_bits.proofs.Ranges.{reaches_some, some_reaches}
use Rattle.asn_bits.proofs.Splits.{digits-add, digits-join, two_pow_octets}
use Rattle.asn_bits.proofs.Weights.{digits_only}

-- ---- lengths

-- one octet in one digit
pub one_is : (o : ℕ) → o < 256 → digits 256 1 o ≡ o ∷ []
one_is o h = sym (digits_only 256 1 o (o ∷ []) (record { digits = (h, tt); count = refl; sum = omega arith })).1

-- a length has one octet, or one above 127 and its number
pub length_cases : (n : ℕ) → ((n < 128) × (octet_length n ≡ n ∷ [])) ⊎ ((128 ≤ n) × (octet_length n ≡ (128 + octet_count n) ∷ octets (octet_count n) n))
length_cases n = go (nat_lt n 128) refl
  where
    go : (b : Bool) → nat_lt n 128 ≡ b → ((n < 128) × (octet_length n ≡ n ∷ [])) ⊎ ((128 ≤ n) × (octet_length n ≡ (128 + octet_count n) ∷ octets (octet_count n) n))
    go true e = inl (ltb-true n 128 e, rw (e, octet_length) refl)
    go false e = inr (ltb-false n 128 e, rw (e, octet_length) refl)

-- lengths are a code
pub length_code : (m n : ℕ) (r s : List ℕ) → octet_length m ++ r ≡ octet_length n ++ s → (m ≡ n) × (r ≡ s)
length_code m n r s e =
    elim (length_cases m) [
      | inl a ↦ elim (length_cases n) [
        | inl b ↦ let f : m ∷ r ≡ n ∷ s = ap (λ t. t ++ r) (sym a.1) ∙ e ∙ ap (λ t. t ++ s) b.1 in (cc, cc)
        | inr b ↦
            let f : m ∷ r ≡ (128 + octet_count n) ∷ (octets (octet_count n) n ++ s) = ap (λ t. t ++ r) (sym a.1) ∙ e ∙ ap (λ t. t ++ s) b.1 in
            let g : m ≡ 128 + octet_count n = cc in
            absurd (omega arith)
      ]
      | inr a ↦ elim (length_cases n) [
        | inl b ↦
            let f : (128 + octet_count m) ∷ (octets (octet_count m) m ++ r) ≡ n ∷ s = ap (λ t. t ++ r) (sym a.1) ∙ e ∙ ap (λ t. t ++ s) b.1 in
            let g : 128 + octet_count m ≡ n = cc in
            absurd (omega arith)
        | inr b ↦
            let f : (128 + octet_count m) ∷ (octets (octet_count m) m ++ r) ≡ (128 + octet_count n) ∷ (octets (octet_count n) n ++ s) = ap (λ t. t ++ r) (sym a.1) ∙ e ∙ ap (λ t. t ++ s) b.1 in
            let g : 128 + octet_count m ≡ 128 + octet_count n = cc in
            let k : octet_count m ≡ octet_count n = omega arith in
            let t : octets (octet_count m) m ++ r ≡ octets (octet_count n) n ++ s = cc in
            digits_code 256 (omega arith) (octet_count m) m n r s (octet_count_fits m) (subst (λ i. n < 256 ^ i) (sym k) (octet_count_fits n))
            (subst (λ i. octets (octet_count m) m ++ r ≡ octets i n ++ s) (sym k) t)
      ]
    ]

-- two lengths are of one count where they are one
pub length_once : (m n : ℕ) → octet_length m ≡ octet_length n → m ≡ n
length_once m n e = (length_code m n [] [] (ap (λ (l : List ℕ). l ++ []) e)).0

-- ---- which counts have this many octets after the first one

least_is : (k : ℕ) → ((k < 2) × (least_long k ≡ 128)) ⊎ ((2 ≤ k) × (least_long k ≡ 256 ^ (k - 1)))
least_is k = go (nat_lt k 2) refl
  where
    go : (b : Bool) → nat_lt k 2 ≡ b → ((k < 2) × (least_long k ≡ 128)) ⊎ ((2 ≤ k) × (least_long k ≡ 256 ^ (k - 1)))
    go true e = inl (ltb-true k 2 e, rw (e, least_long) refl)
    go false e = inr (ltb-false k 2 e, rw (e, least_long) refl)

long_there : (k n : ℕ) → 1 ≤ k → least_long k ≤ n → n < 256 ^ k → (128 ≤ n) × (octet_count n ≡ k)
long_there k n some low high = go (least_is k)
  where
    most : octet_count n ≤ k
    most = octet_count_below n k some high

    go : ((k < 2) × (least_long k ≡ 128)) ⊎ ((2 ≤ k) × (least_long k ≡ 256 ^ (k - 1))) → (128 ≤ n) × (octet_count n ≡ k)
    go (inl e) = (omega (arith, e.1, low), omega (arith, e.0, most, some, octet_count_some n))
    go (inr e) = (omega (arith, e.1, low, power), exact (cases_lt (octet_count n) k))
      where
        power : 256 ≤ 256 ^ (k - 1)
        power = let up : 256 ^ 1 ≤ 256 ^ (k - 1) = pow-le-pow_right {n = 256} (omega arith) {i = 1} {j = k - 1} (omega (arith, e.0)) in omega (arith, up)

        exact : (octet_count n < k) ⊎ (k ≤ octet_count n) → octet_count n ≡ k
        exact (inr l) = omega (arith, l, most)
        exact (inl l) =
            let up : 256 ^ octet_count n ≤ 256 ^ (k - 1) = pow-le-pow_right {n = 256} (omega arith) {i = octet_count n} {j = k - 1} (omega (arith, l)) in
            absurd (omega (arith, octet_count_fits n, up, low, e.1))

long_back : (k n : ℕ) → 128 ≤ n → octet_count n ≡ k → (least_long k ≤ n) × (n < 256 ^ k)
long_back k n large count = (go (least_is k), subst (λ (i : ℕ). n < 256 ^ i) count (octet_count_fits n))
  where
    go : ((k < 2) × (least_long k ≡ 128)) ⊎ ((2 ≤ k) × (least_long k ≡ 256 ^ (k - 1))) → least_long k ≤ n
    go (inl e) = omega (arith, e.1, large)
    go (inr e) = above (cases_lt n (256 ^ (k - 1)))
      where
        above : (n < 256 ^ (k - 1)) ⊎ (256 ^ (k - 1) ≤ n) → least_long k ≤ n
        above (inl l) = absurd (omega (arith, octet_count_below n (k - 1) (omega (arith, e.0)) l, count, e.0))
        above (inr l) = omega (arith, e.1, l)

-- ---- what begins a length

-- its first octet tells the form
long_split : (n k : ℕ) (t : List ℕ) → octet_length n ≡ (128 + k) ∷ t → (128 ≤ n) × (octet_count n ≡ k) × (octets k n ≡ t)
long_split n k t e = go (length_cases n)
  where
    go : ((n < 128) × (octet_length n ≡ n ∷ [])) ⊎ ((128 ≤ n) × (octet_length n ≡ (128 + octet_count n) ∷ octets (octet_count n) n)) → (128 ≤ n) × (octet_count n ≡ k) × (octets k n ≡ t)
    go (inl a) =
        let f : n ∷ [] ≡ (128 + k) ∷ t = sym a.1 ∙ e in
        let g : n ≡ 128 + k = cc in
        absurd (omega (arith, a.0, g))
    go (inr a) =
        let f : (128 + octet_count n) ∷ octets (octet_count n) n ≡ (128 + k) ∷ t = sym a.1 ∙ e in
        let g : 128 + octet_count n ≡ 128 + k = cc in
        let c : octet_count n ≡ k = omega (arith, g) in
        let r : octets (octet_count n) n ≡ t = cc in
        (a.0, c, subst (λ (i : ℕ). octets i n ≡ t) c r)

short_split : (n m : ℕ) (t : List ℕ) → m < 128 → octet_length n ≡ m ∷ t → (n ≡ m) × (t ≡ [])
short_split n m t l e = go (length_cases n)
  where
    go : ((n < 128) × (octet_length n ≡ n ∷ [])) ⊎ ((128 ≤ n) × (octet_length n ≡ (128 + octet_count n) ∷ octets (octet_count n) n)) → (n ≡ m) × (t ≡ [])
    go (inl a) = let f : n ∷ [] ≡ m ∷ t = sym a.1 ∙ e in (cc, cc)
    go (inr a) =
        let f : (128 + octet_count n) ∷ octets (octet_count n) n ≡ m ∷ t = sym a.1 ∙ e in
        let g : 128 + octet_count n ≡ m = cc in
        absurd (omega (arith, l, g))

-- a small one is itself, a large one follows its count
pub small_is : (n : ℕ) → n < 128 → octet_length n ≡ n ∷ []
small_is n l = elim (length_cases n) [ inl a ↦ a.1 | inr a ↦ absurd (let g = a.0 in omega arith) ]

pub large_is : (n k : ℕ) → 128 ≤ n → octet_count n ≡ k → octet_length n ≡ (128 + k) ∷ octets k n
large_is n k l c = elim (length_cases n) [
  | inl a ↦ absurd (let g = a.0 in omega arith)
  | inr a ↦ a.1 ∙ ap (λ (i : ℕ). (128 + i) ∷ octets i n) c
]

-- ---- what a reader tests of each state

octet_room : (k l p : ℕ) → l ≤ k → p < 256 ^ (k - l) → (p + 1) * 2 ^ (8 * l) ≤ 256 ^ k
octet_room k l p h w =
    let e : 8 * k - 8 * l ≡ 8 * (k - l) = omega (arith, h) in
    let f : p < 2 ^ (8 * k - 8 * l) = subst (λ (i : ℕ). p < 2 ^ i) (sym e) (omega (arith, w, two_pow_octets (k - l))) in
    omega (arith, prefix_room (8 * k) (8 * l) p (omega (arith, h)) f, two_pow_octets k)

octet_quotient : (l p n : ℕ) → (n / 256 ^ l ≡ p) ↔ ((p * 2 ^ (8 * l) ≤ n) × (n < (p + 1) * 2 ^ (8 * l)))
octet_quotient l p n =
    let q = quotient_range (8 * l) p n in
    let e : n / 2 ^ (8 * l) ≡ n / 256 ^ l = ap (λ (i : ℕ). n / i) (sym (two_pow_octets l)) in
    (λ h. q.0 (e ∙ h), λ h. sym e ∙ q.1 h)

octets_begin : (k l p n : ℕ) → l ≤ k → n / 256 ^ l ≡ p → octets k n ≡ octets (k - l) p ++ octets l n
octets_begin k l p n h e =
    let w : k ≡ k - l + l = omega (arith, h) in
    ap (λ (i : ℕ). octets i n) w ∙ digits-add 256 (k - l) l n ∙ ap (λ (q : ℕ). octets (k - l) q ++ octets l n) e

octets_front : (k l p n : ℕ) (t : List ℕ) → l ≤ k → p < 256 ^ (k - l) → n < 256 ^ k → octets k n ≡ octets (k - l) p ++ t → n / 256 ^ l ≡ p
octets_front k l p n t h w m e =
    let all : 256 ^ k ≡ 256 ^ (k - l) * 256 ^ l = (let c : k ≡ k - l + l = omega (arith, h) in ap (λ (i : ℕ). 256 ^ i) c ∙ pow-add 256 (k - l) l) in
    let some : 0 < 256 ^ l = omega (arith, two_pow_octets l, pow_pos (8 * l)) in
    let few : n / 256 ^ l < 256 ^ (k - l) = (div-lt_iff_lt-mul some).1 (omega (arith, m, all)) in
    (digits_code 256 (omega arith) (k - l) (n / 256 ^ l) p (octets l n) t few w (sym (octets_begin k l (n / 256 ^ l) n h refl) ∙ e)).0

pub long_exact : (k p l low high : ℕ) → IsOctetState (place.Long k p l) → low ≡ max (p * 2 ^ (8 * l)) (least_long k) → high + 1 ≡ (p + 1) * 2 ^ (8 * l) → (n : ℕ) → ((low ≤ n) × (n ≤ high)) ↔ StartsOctets n (state_octets (place.Long k p l))
long_exact k p l low high is d f n = (there, back)
  where
    there : (low ≤ n) × (n ≤ high) → StartsOctets n (state_octets (place.Long k p l))
    there h =
        let q = (octet_quotient l p n).1 (omega (arith, h.0, d), omega (arith, h.1, f)) in
        let w = long_there k n is.0 (omega (arith, h.0, d)) (omega (arith, h.1, f, octet_room k l p is.2 is.3)) in
        record { more = octets l n; split = large_is n k w.0 w.1 ∙ ap (λ (t : List ℕ). (128 + k) ∷ t) (octets_begin k l p n is.2 q) }

    back : StartsOctets n (state_octets (place.Long k p l)) → (low ≤ n) × (n ≤ high)
    back s =
        let w = long_split n k (octets (k - l) p ++ s.more) s.split in
        let b = long_back k n w.0 w.1 in
        let q = (octet_quotient l p n).0 (octets_front k l p n s.more is.2 is.3 b.1 w.2) in
        (omega (arith, d, q.0, b.0), omega (arith, f, q.1))

pub short_exact : (m : ℕ) → m < 128 → (n : ℕ) → ((m ≤ n) × (n ≤ m)) ↔ StartsOctets n (m ∷ [])
short_exact m l n = (
  λ h. (let e : n ≡ m = omega (arith, h.0, h.1) in record { more = []; split = ap octet_length e ∙ small_is m l }),
  λ s. (let w = short_split n m s.more l s.split in (omega (arith, w.0), omega (arith, w.0))),
)

-- ---- one octet more

pub one_more : (t begun o : ℕ) → o < 256 → octets t begun ++ o ∷ [] ≡ octets (t + 1) (256 * begun + o)
one_more t begun o h =
    ap (λ (l : List ℕ). octets t begun ++ l) (sym (one_is o h)) ∙ digits-join 256 (omega arith) t 1 begun o (omega (arith, h)) ∙ ap (λ (i : ℕ). octets (t + 1) i) (omega arith)

pub below_power : (t b o : ℕ) → b < 256 ^ t → o < 256 → 256 * b + o < 256 ^ (t + 1)
below_power t b o h l = omega (arith, h, l, pow-add 256 t 1)

-- the state after an octet of the length
pub long_next : (k p l o : ℕ) → IsOctetState (place.Long k p l) → 0 < l → o < 256 → IsOctetState (place.Long k (256 * p + o) (l - 1)) × (state_octets (place.Long k (256 * p + o) (l - 1)) ≡ state_octets (place.Long k p l) ++ o ∷ [])
long_next k p l o is some h =
    let e : k - l + 1 ≡ k - (l - 1) = omega (arith, is.2, some) in (
      (is.0, is.1, omega (arith, is.2), subst (λ (i : ℕ). 256 * p + o < 256 ^ i) e (below_power (k - l) p o is.3 h)),
      ap (λ (t : List ℕ). (128 + k) ∷ t) (ap (λ (i : ℕ). octets i (256 * p + o)) (sym e) ∙ sym (one_more (k - l) p o h)),
    )

-- where the state is known
pub long_next_at : (x : OctetState) (k p l o r : ℕ) → x ≡ place.Long k p l → IsOctetState x → 0 < l → r ≡ o → o < 256 → IsOctetState (place.Long k (256 * p + r) (l - 1)) × (state_octets (place.Long k (256 * p + r) (l - 1)) ≡ state_octets x ++ o ∷ [])
long_next_at x k p l o r e is some same h =
    let w = long_next k p l o (subst IsOctetState e is) some h in
    subst (λ (i : ℕ). IsOctetState (place.Long k (256 * p + i) (l - 1)) × (state_octets (place.Long k (256 * p + i) (l - 1)) ≡ state_octets x ++ o ∷ [])) (sym same)
    (w.0, w.1 ∙ ap (λ (y : OctetState). state_octets y ++ o ∷ []) (sym e))

-- the octets so far are a small number where some are left
pub long_small : (x : OctetState) (k p l : ℕ) → x ≡ place.Long k p l → IsOctetState x → 0 < l → p < 16777216
long_small x k p l e is some =
    let w : IsOctetState (place.Long k p l) = subst IsOctetState e is in
    let up : 256 ^ (k - l) ≤ 256 ^ 3 = pow-le-pow_right {n = 256} (omega arith) {i = k - l} {j = 3} (omega (arith, w.1, some)) in
    omega (arith, up, w.3)

-- the numbers that begin so have 32 bits
pub long_room : (x : OctetState) (k p l : ℕ) → x ≡ place.Long k p l → IsOctetState x → (p + 1) * 2 ^ (8 * l) ≤ 2 ^ 32
long_room x k p l e is =
    let w : IsOctetState (place.Long k p l) = subst IsOctetState e is in
    let up : 256 ^ k ≤ 256 ^ 4 = pow-le-pow_right {n = 256} (omega arith) {i = k} {j = 4} w.1 in
    omega (arith, up, octet_room k l p w.2 w.3)

-- the first of them is one
pub long_lower : (x : OctetState) (k p l : ℕ) → x ≡ place.Long k p l → IsOctetState x → (p * 2 ^ (8 * l) < (p + 1) * 2 ^ (8 * l)) × ((p + 1) * 2 ^ (8 * l) ≤ 2 ^ 32)
long_lower x k p l e is = (omega (arith, pow_pos (8 * l)), long_room x k p l e is)

pub long_prefix : (x : OctetState) (k p l : ℕ) → x ≡ place.Long k p l → IsOctetState x → p < 2 ^ 32
long_prefix x k p l e is =
    let up : p + 1 ≤ (p + 1) * 2 ^ (8 * l) = le-mul-pos (pow_pos (8 * l)) in
    omega (arith, up, long_room x k p l e is)
  where
    le-mul-pos : {a b : ℕ} → 0 < b → a ≤ a * b
    le-mul-pos {a} {b} h = grind arith

pub long_exact_at : (x : OctetState) (k p l low high : ℕ) → x ≡ place.Long k p l → IsOctetState x → low ≡ max (p * 2 ^ (8 * l)) (least_long k) → high + 1 ≡ (p + 1) * 2 ^ (8 * l) → (n : ℕ) → ((low ≤ n) × (n ≤ high)) ↔ StartsOctets n (state_octets x)
long_exact_at x k p l low high e is d f n =
    subst (λ (y : OctetState). ((low ≤ n) × (n ≤ high)) ↔ StartsOctets n (state_octets y)) (sym e) (long_exact k p l low high (subst IsOctetState e is) d f n)

pub short_exact_at : (x : OctetState) (m : ℕ) → x ≡ place.Short m → IsOctetState x → (n : ℕ) → ((m ≤ n) × (n ≤ m)) ↔ StartsOctets n (state_octets x)
short_exact_at x m e is n = subst (λ (y : OctetState). ((m ≤ n) × (n ≤ m)) ↔ StartsOctets n (state_octets y)) (sym e) (short_exact m (subst IsOctetState e is) n)

-- the least length with some octets
pub least_more : (k : ℕ) → 2 ≤ k → 1 * 2 ^ (8 * (k - 1)) ≡ least_long k
least_more k h = elim (least_is k) [ inl e ↦ absurd (let l = e.0 in omega arith) | inr e ↦ omega (arith, two_pow_octets (k - 1), e.1) ]

pub least_room : (k : ℕ) → 2 ≤ k → k ≤ 4 → 1 * 2 ^ (8 * (k - 1)) ≤ 2 ^ 24
least_room k h f =
    let up : 256 ^ (k - 1) ≤ 256 ^ 3 = pow-le-pow_right {n = 256} (omega arith) {i = k - 1} {j = 3} (omega (arith, f)) in
    omega (arith, up, two_pow_octets (k - 1))

-- no length has such a first octet
pub no_first : (b n : ℕ) → 128 ≤ b → (b ≡ 128) ⊎ (132 < b) → n < 2 ^ 32 → StartsOctets n (b ∷ []) → ⊥
no_first b n l c few s =
    let e : b ≡ 128 + (b - 128) = omega (arith, l) in
    let w = long_split n (b - 128) s.more (s.split ∙ ap (λ (i : ℕ). i ∷ s.more) e) in
    let most : octet_count n ≤ 4 = octet_count_below n 4 (omega arith) (omega (arith, few)) in
    elim c [
      | inl x ↦ absurd (omega (arith, x, w.1, octet_count_some n))
      | inr x ↦ absurd (omega (arith, x, w.1, most))
    ]

-- nothing goes on after a whole length
pub after_short : (m o n : ℕ) → m < 128 → StartsOctets n ((m ∷ []) ++ o ∷ []) → ⊥
after_short m o n l s = (let w = short_split n m (o ∷ s.more) l s.split in absurd (omega (arith, ap length w.1)))

pub after_long : (k p o n : ℕ) → StartsOctets n (((128 + k) ∷ octets (k - 0) p) ++ o ∷ []) → ⊥
after_long k p o n s =
    let w = long_split n k ((octets (k - 0) p ++ o ∷ []) ++ s.more) s.split in
    omega (arith, ap length w.2, length-digits 256 k n, length-digits 256 (k - 0) p, length-append (octets (k - 0) p ++ o ∷ []) s.more, length-append (octets (k - 0) p) (o ∷ []))

pub after_short_at : (x : OctetState) (m o n : ℕ) → x ≡ place.Short m → IsOctetState x → StartsOctets n (state_octets x ++ o ∷ []) → ⊥
after_short_at x m o n e is s = after_short m o n (subst IsOctetState e is) (subst (λ (y : OctetState). StartsOctets n (state_octets y ++ o ∷ [])) e s)

pub after_long_at : (x : OctetState) (k p l o n : ℕ) → x ≡ place.Long k p l → l ≡ 0 → StartsOctets n (state_octets x ++ o ∷ []) → ⊥
after_long_at x k p l o n e z s = after_long k p o n (subst (λ (y : OctetState). StartsOctets n (state_octets y ++ o ∷ [])) (e ∙ ap (λ (i : ℕ). place.Long k p i) z) s)

-- ---- what is told of a state

-- a whole length is that of its count
pub whole_is : (x : OctetState) → IsOctetState x → IsWholeLength x → (n : ℕ) → StartsOctets n (state_octets x) → octet_length n ≡ state_octets x
whole_is place.Start is w n s = absurd w
whole_is (place.Short m) is w n s = s.split ∙ ap (λ (t : List ℕ). m ∷ t) (short_split n m s.more is s.split).1
whole_is (place.Long k p l) is w n s = s.split ∙ ap (λ (t : List ℕ). ((128 + k) ∷ octets (k - l) p) ++ t) (none s.more refl) ∙ append-nil ((128 + k) ∷ octets (k - l) p)
  where
    none : (t : List ℕ) → s.more ≡ t → s.more ≡ []
    none [] e = e
    none (u ∷ t) e =
        let v = long_split n k (octets (k - l) p ++ s.more) s.split in
        absurd (omega (arith, w, ap length v.2, ap length e, length-digits 256 k n, length-digits 256 (k - l) p, length-append (octets (k - l) p) s.more))

-- another one goes on
pub goes_on : (x : OctetState) → (x ≡ place.Start → ⊥) → IsOctetState x → (IsWholeLength x → ⊥) → (n : ℕ) → StartsOctets n (state_octets x) → (next : ℕ) × (more : List ℕ) × (octet_length n ≡ state_octets x ++ next ∷ more)
goes_on place.Start start is w n s = absurd (start refl)
goes_on (place.Short m) start is w n s = absurd (w tt)
goes_on (place.Long k p l) start is w n s = some s.more refl
  where
    some : (t : List ℕ) → s.more ≡ t → (next : ℕ) × (more : List ℕ) × (octet_length n ≡ ((128 + k) ∷ octets (k - l) p) ++ next ∷ more)
    some (u ∷ t) e = (u, t, s.split ∙ ap (λ (r : List ℕ). ((128 + k) ∷ octets (k - l) p) ++ r) e)
    some [] e =
        let v = long_split n k (octets (k - l) p ++ s.more) s.split in
        absurd (w (omega (arith, is.2, ap length v.2, ap length e, length-digits 256 k n, length-digits 256 (k - l) p, length-append (octets (k - l) p) s.more)))

-- where the test finds a count
module _ (is : List (ℕ × Option ℕ)) (x : OctetState) (os : List ℕ) (low high : ℕ) (same : state_octets x ≡ os) (exact : (n : ℕ) → ((low ≤ n) × (n ≤ high)) ↔ StartsOctets n (state_octets x)) where
  pub tells_dead : (Reaches is low (Some high) → ⊥) → BeginsLength (Spanned is) os → ⊥
  tells_dead dead b =
      let w = (exact b.count).1 (subst (λ (l : List ℕ). StartsOctets b.count l) (sym same) b.starts) in
      dead (some_reaches is low (Some high) (record { number = b.count; member = b.member; least = w.0; most = w.1 }))

  pub tells_number : IsOctetState x → IsWholeLength x → Reaches is low (Some high) → Spanned is high × (octet_length high ≡ os)
  tells_number ok whole r =
      let s = reaches_some is low (Some high) r in
      let here = whole_is x ok whole s.number ((exact s.number).0 (s.least, s.most)) in
      let top = whole_is x ok whole high ((exact high).0 (omega (arith, s.least, s.most), omega arith)) in
      let e = length_once s.number high (here ∙ sym top) in
      (subst (λ (n : ℕ). Spanned is n) e s.member, top ∙ same)

  pub tells_alive : (x ≡ place.Start → ⊥) → IsOctetState x → (IsWholeLength x → ⊥) → Reaches is low (Some high) → GoesOn (Spanned is) os × ((n : ℕ) → Spanned is n → octet_length n ≡ os → ⊥)
  tells_alive start ok part r =
      let s = reaches_some is low (Some high) r in
      let g = goes_on x start ok part s.number ((exact s.number).0 (s.least, s.most)) in (
        record { count = s.number; member = s.member; next = g.0; more = g.1; split = g.2 ∙ ap (λ (l : List ℕ). l ++ g.0 ∷ g.1) same },
        λ n m e. never n (e ∙ sym same),
      )
    where
      never : (n : ℕ) → octet_length n ≡ state_octets x → ⊥
      never n e =
          let g = goes_on x start ok part n (record { more = []; split = e ∙ sym (append-nil (state_octets x)) }) in
          omega (arith, ap length (sym e ∙ g.2), length-append (state_octets x) (g.0 ∷ g.1))
