-- The octets of tags in OER: which they are, and that they are a code.
use Rattle.std.proofs.Common.{◌≡◌, ◌≢◌, ◌≤◌, ◌<◌, ◌+◌, ◌-◌, ◌*◌, ◌/◌, ◌%◌, ◌⊎◌, inl, inr, ⊎_elim, ◌==◌, ne_eqb, ℕ, zero, suc, Bool, true, false, List, [], ◌∷◌, ◌++◌, length, refl, sym, ◌∙◌, ap, subst, arith, nat_lt, append-nil}
use Rattle.std.proofs.lemmas.Bool.{cases_eq, ltb-true, ltb-false, lt-ltb, le-ltb}
use Rattle.asn_bits.specs.Numbers.{base_128, base_128_before}
use Rattle.asn_rules.specs.Chunks.{ones}
use Rattle.asn_rules.specs.Laws.{AreOctets}
use Rattle.asn_rules.specs.Parted.{Parted}
use Rattle.asn_oer.specs.Oer.{tag}

-- ---- base 128

-- nothing is left
none_before : (turns n : ℕ) (last : List ℕ) → n ≡ 0 → base_128_before turns n last ≡ last
none_before zero n last e = refl
none_before (suc turns) n last e = subst (λ (m : ℕ). base_128_before (suc turns) m last ≡ last) (sym e) refl

-- an octet more
one_before : (turns n : ℕ) (last : List ℕ) → 0 < n → base_128_before (suc turns) n last ≡ base_128_before turns (n / 128) ((128 + n % 128) ∷ last)
one_before turns n last h = let e : (n == 0) ≡ false = ne_eqb n 0 (λ z. omega (arith, h, z)) in rw (e, base_128_before) refl

-- up to 127 it is an octet
pub base_is : (t : ℕ) → t < 128 → base_128 t ≡ t ∷ []
base_is t h =
    let none : t / 128 ≡ 0 = omega (arith, h) in
    let all : t % 128 ≡ t = omega (arith, h) in
    none_before t (t / 128) (t % 128 ∷ []) none ∙ ap (λ (i : ℕ). i ∷ []) all

-- up to 16383 it is two
pub base_in_two : (t : ℕ) → 128 ≤ t → t < 16384 → base_128 t ≡ (128 + t / 128) ∷ (t % 128) ∷ []
base_in_two zero l h = absurd (omega arith)
base_in_two (suc k) l h =
    let t = suc k in
    let some : 0 < t / 128 = omega (arith, l) in
    let none : t / 128 / 128 ≡ 0 = omega (arith, h) in
    let all : t / 128 % 128 ≡ t / 128 = omega (arith, h) in
    one_before k (t / 128) (t % 128 ∷ []) some ∙ none_before k (t / 128 / 128) ((128 + t / 128 % 128) ∷ t % 128 ∷ []) none
    ∙ ap (λ (i : ℕ). (128 + i) ∷ t % 128 ∷ []) all

-- ---- tags

-- up to 62 one octet
pub tag_is : (t : ℕ) → t < 63 → tag t ≡ (128 + t) ∷ []
tag_is t h = let e : nat_lt t 63 ≡ true = lt-ltb t 63 h in rw (e, tag) refl

-- from 63 on 191 in front
pub long_tag_is : (t : ℕ) → 63 ≤ t → tag t ≡ 191 ∷ base_128 t
long_tag_is t h = let e : nat_lt t 63 ≡ false = le-ltb t 63 h in rw (e, tag) refl

-- the three forms
pub tag_cases : (t : ℕ) → t < 16384 → ((t < 63) × (tag t ≡ (128 + t) ∷ [])) ⊎ (((63 ≤ t) × (t < 128) × (tag t ≡ 191 ∷ t ∷ [])) ⊎ ((128 ≤ t) × (tag t ≡ 191 ∷ (128 + t / 128) ∷ (t % 128) ∷ [])))
tag_cases t h = go (nat_lt t 63) (nat_lt t 128) refl refl
  where
    go : (a b : Bool) → nat_lt t 63 ≡ a → nat_lt t 128 ≡ b → ((t < 63) × (tag t ≡ (128 + t) ∷ [])) ⊎ (((63 ≤ t) × (t < 128) × (tag t ≡ 191 ∷ t ∷ [])) ⊎ ((128 ≤ t) × (tag t ≡ 191 ∷ (128 + t / 128) ∷ (t % 128) ∷ [])))
    go true b e f = (let l = ltb-true t 63 e in inl (l, tag_is t l))
    go false true e f =
        let l = ltb-false t 63 e in
        let m = ltb-true t 128 f in
        inr (inl (l, m, long_tag_is t l ∙ ap (λ (os : List ℕ). 191 ∷ os) (base_is t m)))
    go false false e f =
        let m = ltb-false t 128 f in
        inr (inr (m, long_tag_is t (omega (arith, m)) ∙ ap (λ (os : List ℕ). 191 ∷ os) (base_in_two t m h)))

-- at most three octets
pub few_tag_octets : (t : ℕ) → t < 16384 → length (tag t) ≤ 3
few_tag_octets t h = go (tag_cases t h)
  where
    go : ((t < 63) × (tag t ≡ (128 + t) ∷ [])) ⊎ (((63 ≤ t) × (t < 128) × (tag t ≡ 191 ∷ t ∷ [])) ⊎ ((128 ≤ t) × (tag t ≡ 191 ∷ (128 + t / 128) ∷ (t % 128) ∷ []))) → length (tag t) ≤ 3
    go (inl a) = omega (arith, ap length a.1)
    go (inr (inl b)) = omega (arith, ap length b.2)
    go (inr (inr c)) = omega (arith, ap length c.1)

-- each is one
pub tag_octets : (t : ℕ) → t < 16384 → AreOctets (tag t)
tag_octets t h = go (tag_cases t h)
  where
    go : ((t < 63) × (tag t ≡ (128 + t) ∷ [])) ⊎ (((63 ≤ t) × (t < 128) × (tag t ≡ 191 ∷ t ∷ [])) ⊎ ((128 ≤ t) × (tag t ≡ 191 ∷ (128 + t / 128) ∷ (t % 128) ∷ []))) → AreOctets (tag t)
    go (inl a) = subst AreOctets (sym a.1) (omega (arith, a.0), tt)
    go (inr (inl b)) = subst AreOctets (sym b.2) (omega arith, (omega (arith, b.1), tt))
    go (inr (inr c)) = subst AreOctets (sym c.1) (omega arith, (omega (arith, h), (omega arith, tt)))

-- ---- tags are a code: they are read back

-- the last octet of base 128, after this quotient
abbrev read_last : ℕ → List ℕ → ℕ × List ℕ
read_last q [] = (0, [])
read_last q (c ∷ r) = (128 * q + c, r)

abbrev read_base : List ℕ → ℕ × List ℕ
read_base [] = (0, [])
read_base (b ∷ r) = elim (nat_lt b 128) [ true ↦ (b, r) | false ↦ read_last (b - 128) r ]

abbrev read_tag : List ℕ → ℕ × List ℕ
read_tag [] = (0, [])
read_tag (a ∷ r) = elim (nat_lt a 191) [ true ↦ (a - 128, r) | false ↦ read_base r ]

read_again : (t : ℕ) (r : List ℕ) → t < 16384 → read_tag (tag t ++ r) ≡ (t, r)
read_again t r h = go (tag_cases t h)
  where
    go : ((t < 63) × (tag t ≡ (128 + t) ∷ [])) ⊎ (((63 ≤ t) × (t < 128) × (tag t ≡ 191 ∷ t ∷ [])) ⊎ ((128 ≤ t) × (tag t ≡ 191 ∷ (128 + t / 128) ∷ (t % 128) ∷ []))) → read_tag (tag t ++ r) ≡ (t, r)
    go (inl a) =
        let e : nat_lt (128 + t) 191 ≡ true = lt-ltb (128 + t) 191 (omega (arith, a.0)) in
        let again : 128 + t - 128 ≡ t = omega arith in
        let read : read_tag ((128 + t) ∷ r) ≡ (128 + t - 128, r) = rw (e, read_tag) refl in
        ap (λ (os : List ℕ). read_tag (os ++ r)) a.1 ∙ read ∙ ap (λ (i : ℕ). (i, r)) again
    go (inr (inl b)) =
        let e : nat_lt t 128 ≡ true = lt-ltb t 128 b.1 in
        let read : read_base (t ∷ r) ≡ (t, r) = rw (e, read_base) refl in
        ap (λ (os : List ℕ). read_tag (os ++ r)) b.2 ∙ read
    go (inr (inr c)) =
        let q = t / 128 in
        let e : nat_lt (128 + q) 128 ≡ false = le-ltb (128 + q) 128 (omega arith) in
        let again : 128 * (128 + q - 128) + t % 128 ≡ t = omega arith in
        let read : read_base ((128 + q) ∷ (t % 128) ∷ r) ≡ (128 * (128 + q - 128) + t % 128, r) = rw (e, read_base) refl in
        ap (λ (os : List ℕ). read_tag (os ++ r)) c.1 ∙ read ∙ ap (λ (i : ℕ). (i, r)) again

pub tag_code : (t u : ℕ) (r s : List ℕ) → t < 16384 → u < 16384 → tag t ++ r ≡ tag u ++ s → (t ≡ u) × (r ≡ s)
tag_code t u r s p q e =
    let same : (t, r) ≡ (u, s) = sym (read_again t r p) ∙ ap read_tag e ∙ read_again u s q in
    (ap (λ (z : ℕ × List ℕ). z.0) same, ap (λ (z : ℕ × List ℕ). z.1) same)

-- lists of which none begins the other part
parts : (us vs : List ℕ) → ((r s : List ℕ) → us ++ r ≡ vs ++ s → ⊥) → Parted (ones us) (ones vs)
parts [] vs h = absurd (h vs [] (sym (append-nil vs)))
parts (u ∷ us) [] h = absurd (h [] (u ∷ us) (append-nil (u ∷ us)))
parts (u ∷ us) (v ∷ vs) h = ⊎_elim (λ e. inr (e, parts us vs (λ r s f. h r s (let a : u ≡ v = e in let b : us ++ r ≡ vs ++ s = f in cc)))) (λ n. inl n) (cases_eq u v)

-- two tags part
pub tags_part : (t u : ℕ) → t < 16384 → u < 16384 → t ≢ u → Parted (ones (tag t)) (ones (tag u))
tags_part t u p q n = parts (tag t) (tag u) (λ r s e. n (tag_code t u r s p q e).0)
