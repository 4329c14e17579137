-- Lengths in octets (X.696, "length determinant") and octets after them: laws, how they are spelt, and what
-- readers of the parts say of the whole.
use Rattle.std.proofs.Common.{◌≡◌, ℕ, ◌+◌, ◌-◌, ◌^◌, ◌<◌, ◌≤◌, ◌⊎◌, inl, inr, Bool, true, false, nat_lt, List, [], ◌∷◌, ◌++◌, map, length, refl, sym, ap, ◌∙◌, subst, arith}
use Rattle.std.proofs.lemmas.Bool.{ltb-true, ltb-false, cases_lt}
use Rattle.std.specs.List.{AllByRecursion}
use Rattle.asn_bits.specs.Numbers.{digits, octet_count, octets}
use Rattle.asn_bits.specs.Lengths.{joined, octet_length}
use Rattle.asn_bits.proofs.LengthsInOctets.{one_is, small_is, large_is}
use Rattle.asn_bits.proofs.Octets.{octet_count_fits}
use Rattle.asn_rules.specs.Chunks.{Chunk, one, ones}
use Rattle.asn_rules.specs.Languages.{Lawful, Inhabited, Then, Nothing, Row, Plain}
use Rattle.asn_bits.specs.Sets.{InDigits}
use Rattle.asn_rules.specs.Forks.{Same}
use Rattle.asn_rules.specs.Spellings.{SpelledBy}
use Rattle.asn_rules.specs.Fields.{OneOctet, LongLength, FirstOctet, AfterFirst, length_told, OctetLength, OctetsAfterLength}
use Rattle.asn_rules.proofs.Live.Chunks.{ones-append}
use Rattle.asn_rules.proofs.Languages.Then.{Follows, then_lawful}
use Rattle.asn_rules.proofs.Languages.Parts.{nothing_lawful, plain_inhabited}
use Rattle.asn_rules.proofs.Languages.Forks.{map_lawful_on}
use Rattle.asn_bits.proofs.Unions.{set_spelt}
use Rattle.asn_rules.proofs.Numbers.Sets.{set_lawful}
use Rattle.asn_rules.proofs.Languages.Rows.{row_inhabited}
use Rattle.asn_rules.proofs.Languages.Spellings.{same_after, same_then, same_map, same_row, same_spelled, digits_spelled, nothing_spelled, then_spelled, map_spelled, row_spelled}

-- ---- octets

-- an octet is spelt by itself
pub octet_itself : Same OneOctet (SpelledBy (λ o. o < 256) (λ o. one o ∷ []))
octet_itself = same_after (digits_spelled 256 1 (λ o. o < 256) (λ o h. omega (arith, h))) (same_spelled (λ o h. h) (λ o h. h) (λ o h. ap ones (one_is o h)))

-- octets are one or part
pub one_octet_lawful : Lawful OneOctet
one_octet_lawful = set_lawful 256 1 (λ o. o < 256)

-- there is an octet
pub one_octet_inhabited : Inhabited OneOctet
one_octet_inhabited = plain_inhabited 0 (digits 256 1 0) (set_spelt 256 1 0 (omega arith) (omega arith))

-- octets one after the other
pub joined_octets : (c : List ℕ) → joined (map (λ o. one o ∷ []) c) ≡ ones c
joined_octets [] = refl
joined_octets (o ∷ c) = ap (λ (l : List Chunk). one o ∷ l) (joined_octets c)

-- n octets in a row are spelt by themselves
pub octets_itself : (n : ℕ) → Same (Row OneOctet n) (SpelledBy (λ c. (length c ≡ n) × AllByRecursion (λ o. o < 256) c) ones)
octets_itself n = same_after (same_row octet_itself n) (same_after (row_spelled n) (same_spelled (λ c h. h) (λ c h. h) (λ c h. joined_octets c)))

-- ---- lengths

-- what follows the first octet, as it is spelt
abbrev AfterFits : (ℕ → Type 0) → ℕ → ℕ → Type 0
AfterFits S b n = ((b < 128) × (n ≡ b)) ⊎ ((128 ≤ b) × LongLength S (b - 128) n)

-- its units
abbrev after_code : ℕ → ℕ → List Chunk
after_code b n = elim (nat_lt b 128) [ true ↦ [] | false ↦ ones (digits 256 (b - 128) n) ]

-- a length fits the count of its octets
long_fits : {S : ℕ → Type 0} (k n : ℕ) → LongLength S k n → n < 256 ^ k
long_fits k n l = subst (λ (i : ℕ). n < 256 ^ i) l.count (octet_count_fits n)

after_spelled : (S : ℕ → Type 0) (b : ℕ) → Same (AfterFirst S b) (SpelledBy (AfterFits S b) (after_code b))
after_spelled S b = go (nat_lt b 128) refl
  where
    go : (t : Bool) → nat_lt b 128 ≡ t → Same {V = ℕ} (elim t [ true ↦ Nothing b | false ↦ Plain (InDigits 256 (b - 128) (LongLength S (b - 128))) ]) (SpelledBy (AfterFits S b) (λ n. elim t [ true ↦ [] | false ↦ ones (digits 256 (b - 128) n) ]))
    go true e =
        let small : b < 128 = ltb-true b 128 e in
        same_after (nothing_spelled b) (same_spelled (λ n h. inl (small, h)) (λ n h. elim h [ inl a ↦ a.1 | inr c ↦ absurd (let l = c.0 in omega arith) ]) (λ n h. refl))
    go false e =
        let large : 128 ≤ b = ltb-false b 128 e in
        same_after (digits_spelled 256 (b - 128) (LongLength S (b - 128)) (λ n l. long_fits (b - 128) n l)) (same_spelled (λ n h. inr (large, h)) (λ n h. elim h [ inl a ↦ absurd (let l = a.0 in omega arith) | inr c ↦ c.1 ]) (λ n h. refl))

-- the first octet is one
first_fits : (S : ℕ → Type 0) (b : ℕ) → FirstOctet S b → b < 256 ^ 1
first_fits S b (inl h) = (let l = h.0 in omega arith)
first_fits S b (inr h) = (let f = h.1.few in omega arith)

-- after a small first octet nothing stands
small_after : (b n : ℕ) → b < 128 → after_code b n ≡ []
small_after b n h = go (nat_lt b 128) refl
  where
    go : (t : Bool) → nat_lt b 128 ≡ t → after_code b n ≡ []
    go true e = rw (e, after_code) refl
    go false e = absurd (let l = ltb-false b 128 e in omega arith)

-- after a large one the octets of the length
large_after : (b n : ℕ) → 128 ≤ b → after_code b n ≡ ones (octets (b - 128) n)
large_after b n h = go (nat_lt b 128) refl
  where
    go : (t : Bool) → nat_lt b 128 ≡ t → after_code b n ≡ ones (octets (b - 128) n)
    go true e = absurd (let l = ltb-true b 128 e in omega arith)
    go false e = rw (e, after_code) refl

-- lengths of the set, as the definition has them
pub length_spelled : (S : ℕ → Type 0) → ((n : ℕ) → S n → octet_count n < 128) → Same (OctetLength S) (SpelledBy S (λ n. ones (octet_length n)))
length_spelled S few = same_after (same_map (same_after (same_then (digits_spelled 256 1 (FirstOctet S) (first_fits S)) (after_spelled S)) then_spelled)) (map_spelled there back)
  where
    code : ℕ → ℕ → List Chunk
    code b n = ones (digits 256 1 b) ++ after_code b n

    small : (b n : ℕ) → b < 128 → n ≡ b → code b n ≡ ones (octet_length n)
    small b n l e =
        let first : ones (digits 256 1 b) ≡ one b ∷ [] = ap ones (one_is b (omega arith)) in
        ap (λ (t : List Chunk). t ++ after_code b n) first ∙ ap (λ (t : List Chunk). one b ∷ t) (small_after b n l) ∙ ap (λ (i : ℕ). one i ∷ []) (sym e) ∙ ap ones (sym (small_is n (omega (arith, e))))

    large : (b n : ℕ) → 128 ≤ b → b < 256 → LongLength S (b - 128) n → code b n ≡ ones (octet_length n)
    large b n l w h =
        let first : ones (digits 256 1 b) ≡ one b ∷ [] = ap ones (one_is b w) in
        let again : b ≡ 128 + octet_count n = omega (arith, h.count) in
        ap (λ (t : List Chunk). t ++ after_code b n) first ∙ ap (λ (t : List Chunk). one b ∷ t) (large_after b n l ∙ ap (λ (i : ℕ). ones (octets i n)) (sym h.count)) ∙ ap (λ (i : ℕ). one i ∷ ones (octets (octet_count n) n)) again ∙ ap ones (sym (large_is n (octet_count n) h.large refl))

    there : (p : ℕ × ℕ) → FirstOctet S p.0 × AfterFits S p.0 p.1 → S p.1 × (code p.0 p.1 ≡ ones (octet_length p.1))
    there p h = elim h.1 [
      | inl a ↦ (elim h.0 [ inl f ↦ subst S (sym a.1) f.1 | inr f ↦ absurd (let l = a.0 in let m = f.0 in omega arith) ], small p.0 p.1 a.0 a.1)
      | inr c ↦ (c.1.member, large p.0 p.1 c.0 (let w = first_fits S p.0 h.0 in omega arith) c.1)
    ]

    back : (n : ℕ) → S n → (p : ℕ × ℕ) × (FirstOctet S p.0 × AfterFits S p.0 p.1) × (n ≡ p.1)
    back n s = elim (cases_lt n 128) [
      | inl l ↦ ((n, n), (inl (l, s), inl (l, refl)), refl)
      | inr l ↦
          let k = octet_count n in
          let e : k ≡ 128 + k - 128 = omega arith in
          let h : LongLength S (128 + k - 128) n = record { member = s; large = l; count = e } in
          ((128 + k, n), (inr (omega arith, record { few = subst (λ (i : ℕ). i < 128) e (few n s); number = n; length = h }), inr (omega arith, h)), refl)
    ]

-- after each first octet something stands
pub length_follows : (S : ℕ → Type 0) → Follows (Plain (InDigits 256 1 (FirstOctet S))) (AfterFirst S)
length_follows S = record { follow = λ b cs h. some b h.spelt.member }
  where
    of : (b n : ℕ) → AfterFits S b n → Inhabited (AfterFirst S b)
    of b n h = record { value = n; chunks = after_code b n; spelt = (after_spelled S b).from n (after_code b n) (record { fits = h; same = refl }) }

    some : (b : ℕ) → FirstOctet S b → Inhabited (AfterFirst S b)
    some b (inl h) = of b b (inl (h.0, refl))
    some b (inr h) = of b h.1.number (inr (h.0, h.1.length))

-- a length has one first octet
one_first : (S : ℕ → Type 0) (a b n : ℕ) → AfterFits S a n → AfterFits S b n → a ≡ b
one_first S a b n (inl p) (inl q) = sym p.1 ∙ q.1
one_first S a b n (inl p) (inr q) = absurd (let l = q.1.large in let w = p.0 in let e = p.1 in omega arith)
one_first S a b n (inr p) (inl q) = absurd (let l = p.1.large in let w = q.0 in let e = q.1 in omega arith)
one_first S a b n (inr p) (inr q) = (let c = p.1.count in let d = q.1.count in let l = p.0 in let m = q.0 in omega arith)

-- what follows the first octet is one or parts
after_lawful : (S : ℕ → Type 0) (b : ℕ) → Lawful (AfterFirst S b)
after_lawful S b = go (nat_lt b 128)
  where
    go : (t : Bool) → Lawful {V = ℕ} (elim t [ true ↦ Nothing b | false ↦ Plain (InDigits 256 (b - 128) (LongLength S (b - 128))) ])
    go true = nothing_lawful b
    go false = set_lawful 256 (b - 128) (LongLength S (b - 128))

-- two lengths are one or part
pub length_lawful : (S : ℕ → Type 0) → Lawful (OctetLength S)
length_lawful S = map_lawful_on once (then_lawful (set_lawful 256 1 (FirstOctet S)) (after_lawful S))
  where
    once : (a b : ℕ × ℕ) (x y : List Chunk) → Then (Plain (InDigits 256 1 (FirstOctet S))) (AfterFirst S) a x → Then (Plain (InDigits 256 1 (FirstOctet S))) (AfterFirst S) b y → length_told a ≡ length_told b → a ≡ b
    once a b x y p q e =
        let f : AfterFits S a.0 a.1 = ((after_spelled S a.0).to a.1 p.second p.follows).fits in
        let g : AfterFits S b.0 b.1 = ((after_spelled S b.0).to b.1 q.second q.follows).fits in
        let h : a.0 ≡ b.0 = one_first S a.0 b.0 b.1 (subst (λ (n : ℕ). AfterFits S a.0 n) e f) g in
        λ i. (h i, e i)

-- ---- octets after their length

-- after a length there are this many octets
pub octets_follow : (S : ℕ → Type 0) → Follows (OctetLength S) (λ n. Row OneOctet n)
octets_follow S = record { follow = λ n cs h. row_inhabited one_octet_inhabited n }

-- octets of a count of the set, as the definition has them
pub octets_after_length : (S : ℕ → Type 0) → ((n : ℕ) → S n → octet_count n < 128) → Same (OctetsAfterLength S) (SpelledBy (λ c. S (length c) × AllByRecursion (λ o. o < 256) c) (λ c. ones (octet_length (length c) ++ c)))
octets_after_length S few = same_after (same_map (same_after (same_then (length_spelled S few) octets_itself) then_spelled)) (map_spelled there back)
  where
    there : (p : ℕ × List ℕ) → S p.0 × ((length p.1 ≡ p.0) × AllByRecursion (λ o. o < 256) p.1) → (S (length p.1) × AllByRecursion (λ o. o < 256) p.1) × (ones (octet_length p.0) ++ ones p.1 ≡ ones (octet_length (length p.1) ++ p.1))
    there p h = (
      (subst S (sym h.1.0) h.0, h.1.1),
      ap (λ (n : ℕ). ones (octet_length n) ++ ones p.1) (sym h.1.0) ∙ sym (ones-append (octet_length (length p.1)) p.1),
    )

    back : (c : List ℕ) → S (length c) × AllByRecursion (λ o. o < 256) c → (p : ℕ × List ℕ) × (S p.0 × ((length p.1 ≡ p.0) × AllByRecursion (λ o. o < 256) p.1)) × (c ≡ p.1)
    back c h = ((length c, c), (h.0, (refl, h.1)), refl)
