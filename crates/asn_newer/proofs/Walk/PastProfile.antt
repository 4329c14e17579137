-- Counts and indexes past the profile, as their readers find them.
use Rattle.std.proofs.Common.{◌≡◌, ◌≢◌, ◌<◌, ◌≤◌, ◌+◌, ◌-◌, ◌*◌, ◌%◌, ◌^◌, inl, inr, ℕ, zero, suc, Bool, true, false, IsTrue, not, nat_eq, nat_le, nat_lt, List, [], ◌∷◌, ◌++◌, length, length-append, refl, sym, ap, subst, ◌∙◌, arith}
use Rattle.std.proofs.lemmas.Bool.{true≢false, leb-true, le-leb, ltb-true, eqb-true, eqb-false}
use Rattle.asn_bits.specs.Numbers.{bits, packed}
use Rattle.asn_bits.proofs.Digits.{digits_code}
use Rattle.asn_bits.proofs.Octets.{length-digits}
use Rattle.asn_values.specs.Profile.{most_alternatives}
use Rattle.asn_newer.specs.Rules.{IsCountPast, IsShortPast, IsLongPast, IsSmallPast, IsIndexPast, IsLengthPast, IsTagPast}
use Rattle.asn_newer.proofs.Walk.OerItems.{octet_taken}

-- told exactly where it is so
abbrev pub Decides : Bool → Type 0 → Type 0
Decides b P = (IsTrue b → P) × (P → IsTrue b)

-- it is not so
never : {P : Type 0} → (P → ⊥) → Decides false P
never n = ((λ t. absurd (true≢false (sym t))), (λ p. absurd (n p)))

heads : {u v : ℕ} {us vs : List ℕ} → u ∷ us ≡ v ∷ vs → u ≡ v
heads h = cc

tails : {u v : ℕ} {us vs : List ℕ} → u ∷ us ≡ v ∷ vs → us ≡ vs
tails h = cc

-- ---- PER

pub count_told : (us vs : List ℕ) (n : ℕ) → us ≡ bits 1 n ++ vs → n < 2 ^ 1 → Decides (nat_eq n 1) (IsCountPast us)
count_told us vs zero e f = never (λ h. absurd (omega (arith, heads (sym e ∙ h.split))))
count_told us vs (suc zero) e f = ((λ t. record { rest = vs; split = e }), (λ h. refl))
count_told us vs (suc (suc n)) e f = absurd (omega (arith, f))

pub no_count : (us : List ℕ) → length us < 1 → Decides false (IsCountPast us)
no_count us e = never (λ h. absurd (omega (arith, e, ap length h.split)))

-- a normally small number past the profile, by its first bit
module _ (most : ℕ) (us vs : List ℕ) where
  -- none is left
  pub no_form : us ≡ [] → Decides false (IsSmallPast most us)
  no_form e = never (λ h. elim h [
    | inl s ↦ (let f = sym e ∙ s.split in cc)
    | inr l ↦ elim l [
      | inl a ↦ (let f = sym e ∙ a.split in cc)
      | inr n ↦ (let f = sym e ∙ n.split in cc)
    ]
  ])

  module _ (bit : ℕ) (e : us ≡ bit ∷ vs) where
    module _ (zero_bit : bit ≡ 0) where
      -- 0: the number stands in the next six bits
      of_short : IsSmallPast most us → IsShortPast most us
      of_short (inl s) = s
      of_short (inr (inl a)) = absurd (omega (arith, zero_bit, heads (sym e ∙ a.split)))
      of_short (inr (inr n)) = absurd (omega (arith, zero_bit, heads (sym e ∙ n.split)))

      pub no_short : length vs < 6 → Decides false (IsSmallPast most us)
      no_short few = never (λ h. (let s = of_short h in omega (arith, few, ap length (tails (sym e ∙ s.split)) ∙ length-append (bits 6 s.number) s.rest, length-digits 2 6 s.number)))

      pub short_told : (n : ℕ) (ws : List ℕ) → vs ≡ bits 6 n ++ ws → n < 2 ^ 6 → Decides (nat_le most n) (IsSmallPast most us)
      short_told n ws f fits = (
        (λ t. inl (record { number = n; rest = ws; fits = omega (arith, fits); past = leb-true most n t; split = e ∙ ap (λ (b : ℕ). b ∷ vs) zero_bit ∙ ap (λ (l : List ℕ). 0 ∷ l) f })),
        (λ h. (let s = of_short h in
            let d = digits_code 2 (omega arith) 6 n s.number ws s.rest fits (omega (arith, s.fits)) (sym f ∙ tails (sym e ∙ s.split)) in
            le-leb most n (omega (arith, d.0, s.past)))),
      )

    module _ (one : bit ≡ 1) where
      -- 1: it may be that each such number is past
      pub each_long : most ≤ 64 → Decides true (IsSmallPast most us)
      each_long few = ((λ t. inr (inl (record { rest = vs; past = few; split = e ∙ ap (λ (b : ℕ). b ∷ vs) one }))), (λ h. refl))

      module _ (many : 64 < most) where
        -- else its length and its first octet tell it
        of_long : IsSmallPast most us → IsLongPast most us
        of_long (inl s) = absurd (omega (arith, one, heads (sym e ∙ s.split)))
        of_long (inr (inl a)) = absurd (omega (arith, many, a.past))
        of_long (inr (inr n)) = n

        pub no_long : length vs < 16 → Decides false (IsSmallPast most us)
        no_long few = never (λ h. (let s = of_long h in omega (arith, few, ap length (tails (sym e ∙ s.split)) ∙ length-append (bits 16 s.number) s.rest, length-digits 2 16 s.number)))

        pub long_told : (n : ℕ) (ws : List ℕ) → vs ≡ bits 16 n ++ ws → n < 2 ^ 16 → Decides (nat_le (256 + most) n) (IsSmallPast most us)
        long_told n ws f fits = (
          (λ t. inr (inr (record { number = n; rest = ws; fits = fits; some = many; past = leb-true (256 + most) n t; split = e ∙ ap (λ (b : ℕ). b ∷ vs) one ∙ ap (λ (l : List ℕ). 1 ∷ l) f }))),
          (λ h. (let s = of_long h in
              let d = digits_code 2 (omega arith) 16 n s.number ws s.rest fits s.fits (sym f ∙ tails (sym e ∙ s.split)) in
              le-leb (256 + most) n (omega (arith, d.0, s.past)))),
        )

-- an alternative past the profile
module _ (root : ℕ) (us : List ℕ) where
  pub no_bit : us ≡ [] → Decides false (IsIndexPast root us)
  no_bit e = never (λ h. (let f = sym e ∙ h.split in cc))

  module _ (vs : List ℕ) (bit : ℕ) (e : us ≡ bit ∷ vs) where
    pub of_root : bit ≡ 0 → Decides false (IsIndexPast root us)
    of_root z = never (λ h. absurd (omega (arith, z, heads (sym e ∙ h.split))))

    pub of_additions : bit ≡ 1 → (b : Bool) → Decides b (IsSmallPast (most_alternatives - root) vs) → Decides b (IsIndexPast root us)
    of_additions one b d = (
      (λ t. record { index = vs; past = d.0 t; split = e ∙ ap (λ (k : ℕ). k ∷ vs) one }),
      (λ h. d.1 (subst (λ (l : List ℕ). IsSmallPast (most_alternatives - root) l) (sym (tails (sym e ∙ h.split))) h.past)),
    )

-- ---- OER

-- no octet is left
none_packed : (us : List ℕ) → length us % 8 ≡ 0 → length us < 8 → packed us ≡ []
none_packed [] h e = refl
none_packed (u ∷ us) h e = absurd (omega (arith, h, e))

-- whole octets follow an octet
octets_on : (n : ℕ) (us vs : List ℕ) → us ≡ bits 8 n ++ vs → length us % 8 ≡ 0 → length vs % 8 ≡ 0
octets_on n us vs e at = omega (arith, at, ap length e ∙ length-append (bits 8 n) vs, length-digits 2 8 n)

module _ (us vs : List ℕ) (n : ℕ) (e : us ≡ bits 8 n ++ vs) (f : n < 2 ^ 8) where
  pub length_told : 9 < n → Decides (not (nat_eq n 128)) (IsLengthPast (packed us))
  length_told o = go (nat_eq n 128) refl
    where
      go : (b : Bool) → nat_eq n 128 ≡ b → Decides (not b) (IsLengthPast (packed us))
      go true d = never (λ h. h.definite (sym (heads (sym (octet_taken n us vs f e) ∙ h.split)) ∙ eqb-true n 128 d))
      go false d = ((λ t. record { length = n; rest = packed vs; past = o; definite = eqb-false n 128 d; split = octet_taken n us vs f e }), (λ h. refl))

  pub length_within : n ≤ 9 → Decides (nat_lt 9 n) (IsLengthPast (packed us))
  length_within o = (
    (λ t. absurd (omega (arith, o, ltb-true 9 n t))),
    (λ h. absurd (omega (arith, o, h.past, heads (sym (octet_taken n us vs f e) ∙ h.split)))),
  )

  -- the first octet of a tag
  pub tag_short : (root : ℕ) → n ≢ 191 → Decides false (IsTagPast root (packed us))
  tag_short root other = never (λ h. elim h [
    | inl s ↦ other (heads (sym (octet_taken n us vs f e) ∙ s.split))
    | inr l ↦ other (heads (sym (octet_taken n us vs f e) ∙ l.split))
  ])

  module _ (is : n ≡ 191) (root : ℕ) where
    after : packed us ≡ 191 ∷ packed vs
    after = octet_taken n us vs f e ∙ ap (λ (k : ℕ). k ∷ packed vs) is

    -- nothing follows it
    pub no_tag_octet : length us % 8 ≡ 0 → length vs < 8 → Decides false (IsTagPast root (packed us))
    no_tag_octet at few = never (λ h. elim h [
      | inl s ↦ (let g = sym none ∙ tails (sym after ∙ s.split) in cc)
      | inr l ↦ (let g = sym none ∙ tails (sym after ∙ l.split) in cc)
    ])
      where
        none : packed vs ≡ []
        none = none_packed vs (octets_on n us vs e at) few

    module _ (first : ℕ) (ws : List ℕ) (g : vs ≡ bits 8 first ++ ws) (fits : first < 2 ^ 8) where
      two : packed us ≡ 191 ∷ first ∷ packed ws
      two = after ∙ ap (λ (l : List ℕ). 191 ∷ l) (octet_taken first vs ws fits g)

      pub tag_octet : first < 128 → Decides (nat_le most_alternatives first) (IsTagPast root (packed us))
      tag_octet low = (
        (λ t. inl (record { tag = first; rest = packed ws; fits = low; past = leb-true most_alternatives first t; split = two })),
        (λ h. elim h [
          | inl s ↦ le-leb most_alternatives first (omega (arith, s.past, heads (tails (sym two ∙ s.split))))
          | inr l ↦ absurd (omega (arith, low, l.goes_on, heads (tails (sym two ∙ l.split))))
        ]),
      )

      -- the digit 0 in front
      pub tag_zero : first ≡ 128 → Decides false (IsTagPast root (packed us))
      tag_zero z = never (λ h. elim h [
        | inl s ↦ absurd (omega (arith, z, s.fits, heads (tails (sym two ∙ s.split))))
        | inr l ↦ absurd (omega (arith, z, l.goes_on, heads (tails (sym two ∙ l.split))))
      ])

      module _ (goes_on : 128 < first) where
        pub no_second : length us % 8 ≡ 0 → length ws < 8 → Decides false (IsTagPast root (packed us))
        no_second at few = never (λ h. elim h [
          | inl s ↦ absurd (omega (arith, goes_on, s.fits, heads (tails (sym two ∙ s.split))))
          | inr l ↦ (let k = sym none ∙ tails (tails (sym two ∙ l.split)) in cc)
        ])
          where
            none : packed ws ≡ []
            none = none_packed ws (octets_on first vs ws g (octets_on n us vs e at)) few

        pub tag_octets : (second : ℕ) (xs : List ℕ) → ws ≡ bits 8 second ++ xs → second < 2 ^ 8 → Decides (nat_le most_alternatives (128 * (first - 128) + second)) (IsTagPast root (packed us))
        tag_octets second xs k small = (
          (λ t. inr (record { first = first; second = second; rest = packed xs; goes_on = goes_on; past = leb-true most_alternatives (128 * (first - 128) + second) t; split = three })),
          (λ h. elim h [
            | inl s ↦ absurd (omega (arith, goes_on, s.fits, heads (tails (sym two ∙ s.split))))
            | inr l ↦ le-leb most_alternatives (128 * (first - 128) + second) (omega (arith, l.past, heads (tails (sym three ∙ l.split)), heads (tails (tails (sym three ∙ l.split)))))
          ]),
        )
          where
            three : packed us ≡ 191 ∷ first ∷ second ∷ packed xs
            three = two ∙ ap (λ (l : List ℕ). 191 ∷ first ∷ l) (octet_taken second ws xs small k)

pub no_length : (us : List ℕ) → length us % 8 ≡ 0 → length us < 8 → Decides false (IsLengthPast (packed us))
no_length us a e = never (λ h. (let f = sym (none_packed us a e) ∙ h.split in cc))

pub no_tag : (root : ℕ) (us : List ℕ) → length us % 8 ≡ 0 → length us < 8 → Decides false (IsTagPast root (packed us))
no_tag root us a e = never (λ h. elim h [
  | inl s ↦ (let f = sym (none_packed us a e) ∙ s.split in cc)
  | inr l ↦ (let f = sym (none_packed us a e) ∙ l.split in cc)
])
