-- Tags of CHOICE in OER: which octets those of n alternatives have, and what goes on after each octet.
use Rattle.std.proofs.Common.{◌≡◌, ◌≤◌, ◌<◌, ◌-◌, ◌+◌, ◌*◌, ◌/◌, ◌%◌, ◌^◌, ◌⊎◌, ℕ, Bool, true, false, List, [], ◌∷◌, ◌++◌, inl, inr, refl, sym, ap, ◌∙◌, nat_lt, arith}
use Rattle.std.proofs.lemmas.Bool.{ltb-true, ltb-false, lt-ltb, le-ltb}
use Rattle.asn_bits.specs.Numbers.{digits, base_128}
use Rattle.asn_bits.specs.Sets.{InDigits}
use Rattle.asn_bits.proofs.LengthsInOctets.{one_is}
use Rattle.asn_rules.specs.Chunks.{Chunk, one, ones}
use Rattle.asn_rules.specs.Forks.{Same}
use Rattle.asn_rules.specs.Languages.{Inhabited, Map, Nothing, Plain}
use Rattle.asn_rules.specs.Spellings.{SpelledBy}
use Rattle.asn_rules.proofs.Languages.Forks.{same_flip, same_inhabited}
use Rattle.asn_rules.proofs.Languages.Spellings.{same_after, same_then, same_map, same_spelled, digits_spelled, map_spelled, nothing_spelled, spelled_inhabited, then_spelled}
use Rattle.asn_rules.proofs.Languages.Then.{Follows}
use Rattle.asn_oer.specs.Constructed.{TagOctet, LongTagOctet, tag_ended, LastTagOctet, AfterLongTagOctet, LongTags, AfterTagOctet, Tags}
use Rattle.asn_oer.specs.Oer.{tag}
use Rattle.asn_oer.proofs.Law.TagForms.{base_is, base_in_two, tag_is, long_tag_is}

module _ (n : ℕ) (few : n ≤ 16384) where
  -- ---- base 128

  -- a tag with this octet in front
  abbrev pub EndsAfter : ℕ → ℕ → Type 0
  EndsAfter b t = (128 * (b - 128) ≤ t) × (t < 128 * (b - 128) + 128) × (t < n)

  last_spelled : (b : ℕ) → Same (Map (tag_ended b) (Plain (InDigits 256 1 (LastTagOctet n b)))) (SpelledBy (EndsAfter b) (λ t. ones (digits 256 1 (t - 128 * (b - 128)))))
  last_spelled b = same_after (same_map (digits_spelled 256 1 (LastTagOctet n b) (λ c h. omega (arith, h.0)))) (map_spelled there back)
    where
      there : (c : ℕ) → LastTagOctet n b c → EndsAfter b (tag_ended b c) × (ones (digits 256 1 c) ≡ ones (digits 256 1 (tag_ended b c - 128 * (b - 128))))
      there c h =
          let same : c ≡ 128 * (b - 128) + c - 128 * (b - 128) = omega arith in
          ((omega arith, omega (arith, h.0), h.1), ap (λ (i : ℕ). ones (digits 256 1 i)) same)

      back : (t : ℕ) → EndsAfter b t → (c : ℕ) × LastTagOctet n b c × (t ≡ tag_ended b c)
      back t h = (t - 128 * (b - 128), (omega (arith, h.0, h.1), omega (arith, h.0, h.2)), omega (arith, h.0))

  -- what stands after the first octet of base 128, as it is spelt
  abbrev pub AfterLong : ℕ → ℕ → Type 0
  AfterLong b t = ((b < 128) × (t ≡ b)) ⊎ ((128 ≤ b) × EndsAfter b t)

  abbrev after_long_code : ℕ → ℕ → List Chunk
  after_long_code b t = elim (nat_lt b 128) [ true ↦ [] | false ↦ ones (digits 256 1 (t - 128 * (b - 128))) ]

  after_long_spelled : (b : ℕ) → Same (AfterLongTagOctet n b) (SpelledBy (AfterLong b) (after_long_code b))
  after_long_spelled b = go (nat_lt b 128) refl
    where
      go : (t : Bool) → nat_lt b 128 ≡ t
          → Same {V = ℕ} (elim t [ true ↦ Nothing b | false ↦ Map (tag_ended b) (Plain (InDigits 256 1 (LastTagOctet n b))) ]) (SpelledBy (AfterLong b) (λ i. elim t [ true ↦ [] | false ↦ ones (digits 256 1 (i - 128 * (b - 128))) ]))
      go true e =
          let small : b < 128 = ltb-true b 128 e in
          same_after (nothing_spelled b) (same_spelled (λ i h. inl (small, h)) (λ i h. elim h [ inl a ↦ a.1 | inr c ↦ absurd (let l = c.0 in omega arith) ]) (λ i h. refl))
      go false e =
          let large : 128 ≤ b = ltb-false b 128 e in
          same_after (last_spelled b) (same_spelled (λ i h. inr (large, h)) (λ i h. elim h [ inl a ↦ absurd (let l = a.0 in omega arith) | inr c ↦ c.1 ]) (λ i h. refl))

  -- the first octet of base 128 is one
  long_fits : (b : ℕ) → LongTagOctet n b → b < 256 ^ 1
  long_fits b (inl h) = omega (arith, h.1)
  long_fits b (inr (inl h)) = omega (arith, few, h.1)
  long_fits b (inr (inr h)) = absurd h

  -- after each some tag goes on
  pub long_follows : Follows (Plain (InDigits 256 1 (LongTagOctet n))) (AfterLongTagOctet n)
  long_follows = record { follow = λ b cs s. some b s.spelt.member }
    where
      some : (b : ℕ) → LongTagOctet n b → Inhabited (AfterLongTagOctet n b)
      some b (inl h) = same_inhabited (same_flip (after_long_spelled b)) (spelled_inhabited b (inl (omega (arith, h.1), refl)))
      some b (inr (inl h)) = same_inhabited (same_flip (after_long_spelled b)) (spelled_inhabited (128 * (b - 128)) (inr (omega (arith, h.0), (omega arith, omega arith, omega (arith, h.0, h.1)))))
      some b (inr (inr h)) = absurd h

  -- the tags from 63 on
  abbrev pub IsLong : ℕ → Type 0
  IsLong t = (63 ≤ t) × (t < n)

  long_tags_spelled : Same (LongTags n) (SpelledBy IsLong (λ t. ones (base_128 t)))
  long_tags_spelled = same_after (same_map (same_after (same_then (digits_spelled 256 1 (LongTagOctet n) long_fits) after_long_spelled) then_spelled)) (map_spelled there back)
    where
      first : (b : ℕ) → b < 256 → ones (digits 256 1 b) ≡ one b ∷ []
      first b h = ap ones (one_is b h)

      small : (b t : ℕ) → b < 128 → t ≡ b → ones (digits 256 1 b) ++ after_long_code b t ≡ ones (base_128 t)
      small b t l e =
          let none : after_long_code b t ≡ [] = (let f : nat_lt b 128 ≡ true = lt-ltb b 128 l in rw (f, after_long_code) refl) in
          ap (λ (cs : List Chunk). cs ++ after_long_code b t) (first b (omega (arith, l))) ∙ ap (λ (cs : List Chunk). one b ∷ cs) none
          ∙ ap ones (sym (base_is b l)) ∙ ap (λ (i : ℕ). ones (base_128 i)) (sym e)

      large : (b t : ℕ) → 128 ≤ b → b < 256 → EndsAfter b t → 128 ≤ t → ones (digits 256 1 b) ++ after_long_code b t ≡ ones (base_128 t)
      large b t l w h m =
          let last : after_long_code b t ≡ ones (digits 256 1 (t - 128 * (b - 128))) = (let f : nat_lt b 128 ≡ false = le-ltb b 128 l in rw (f, after_long_code) refl) in
          let quotient : b ≡ 128 + t / 128 = omega (arith, l, h.0, h.1) in
          let rest : t - 128 * (b - 128) ≡ t % 128 = omega (arith, l, h.0, h.1) in
          let octet : digits 256 1 (t - 128 * (b - 128)) ≡ (t % 128) ∷ [] = ap (λ (i : ℕ). digits 256 1 i) rest ∙ one_is (t % 128) (omega arith) in
          ap (λ (cs : List Chunk). cs ++ after_long_code b t) (first b w) ∙ ap (λ (cs : List Chunk). one b ∷ cs) (last ∙ ap ones octet)
          ∙ ap (λ (i : ℕ). one i ∷ one (t % 128) ∷ []) quotient ∙ ap ones (sym (base_in_two t m (omega (arith, h.2, few))))

      there : (p : ℕ × ℕ) → LongTagOctet n p.0 × AfterLong p.0 p.1 → IsLong p.1 × (ones (digits 256 1 p.0) ++ after_long_code p.0 p.1 ≡ ones (base_128 p.1))
      there p (inl a, inl c) = ((omega (arith, a.0, c.1), omega (arith, a.0, a.1, c.1)), small p.0 p.1 c.0 c.1)
      there p (inl a, inr c) = absurd (omega (arith, a.1, c.0))
      there p (inr (inl a), inl c) = absurd (omega (arith, a.0, c.0))
      there p (inr (inl a), inr c) = ((omega (arith, a.0, c.1.0), c.1.2), large p.0 p.1 c.0 (omega (arith, a.1, few)) c.1 (omega (arith, a.0, c.1.0)))
      there p (inr (inr a), c) = absurd a

      back : (t : ℕ) → IsLong t → (p : ℕ × ℕ) × (LongTagOctet n p.0 × AfterLong p.0 p.1) × (t ≡ p.1)
      back t h = go (nat_lt t 128) refl
        where
          go : (a : Bool) → nat_lt t 128 ≡ a → (p : ℕ × ℕ) × (LongTagOctet n p.0 × AfterLong p.0 p.1) × (t ≡ p.1)
          go true e = (let l = ltb-true t 128 e in ((t, t), (inl (h.0, omega (arith, h.1, l)), inl (l, refl)), refl))
          go false e =
              let l = ltb-false t 128 e in
              ((128 + t / 128, t), (inr (inl (omega (arith, l), omega (arith, h.1))), inr (omega arith, (omega arith, omega arith, h.1))), refl)

  -- ---- tags

  -- what stands after the first octet, as it is spelt
  abbrev pub After : ℕ → ℕ → Type 0
  After b t = ((b < 191) × (t ≡ b - 128)) ⊎ ((191 ≤ b) × IsLong t)

  abbrev after_code : ℕ → ℕ → List Chunk
  after_code b t = elim (nat_lt b 191) [ true ↦ [] | false ↦ ones (base_128 t) ]

  after_spelled : (b : ℕ) → Same (AfterTagOctet n b) (SpelledBy (After b) (after_code b))
  after_spelled b = go (nat_lt b 191) refl
    where
      go : (t : Bool) → nat_lt b 191 ≡ t → Same {V = ℕ} (elim t [ true ↦ Nothing (b - 128) | false ↦ LongTags n ]) (SpelledBy (After b) (λ i. elim t [ true ↦ [] | false ↦ ones (base_128 i) ]))
      go true e =
          let small : b < 191 = ltb-true b 191 e in
          same_after (nothing_spelled (b - 128)) (same_spelled (λ i h. inl (small, h)) (λ i h. elim h [ inl a ↦ a.1 | inr c ↦ absurd (let l = c.0 in omega arith) ]) (λ i h. refl))
      go false e =
          let large : 191 ≤ b = ltb-false b 191 e in
          same_after long_tags_spelled (same_spelled (λ i h. inr (large, h)) (λ i h. elim h [ inl a ↦ absurd (let l = a.0 in omega arith) | inr c ↦ c.1 ]) (λ i h. refl))

  first_fits : (b : ℕ) → TagOctet n b → b < 256 ^ 1
  first_fits b h = omega (arith, h.1)

  -- after each first octet some tag goes on
  pub tag_follows : Follows (Plain (InDigits 256 1 (TagOctet n))) (AfterTagOctet n)
  tag_follows = record { follow = λ b cs s. some b s.spelt.member (nat_lt b 191) refl }
    where
      some : (b : ℕ) → TagOctet n b → (t : Bool) → nat_lt b 191 ≡ t → Inhabited (AfterTagOctet n b)
      some b h true e = same_inhabited (same_flip (after_spelled b)) (spelled_inhabited (b - 128) (inl (ltb-true b 191 e, refl)))
      some b h false e = (let l = ltb-false b 191 e in same_inhabited (same_flip (after_spelled b)) (spelled_inhabited 63 (inr (l, (omega arith, omega (arith, l, h.1))))))

  -- those below n
  pub tags_spelled : Same (Tags n) (SpelledBy (λ t. t < n) (λ t. ones (tag t)))
  tags_spelled = same_after (same_map (same_after (same_then (digits_spelled 256 1 (TagOctet n) first_fits) after_spelled) then_spelled)) (map_spelled there back)
    where
      first : (b : ℕ) → b < 256 → ones (digits 256 1 b) ≡ one b ∷ []
      first b h = ap ones (one_is b h)

      small : (b t : ℕ) → 128 ≤ b → b < 191 → t ≡ b - 128 → ones (digits 256 1 b) ++ after_code b t ≡ ones (tag t)
      small b t g l e =
          let none : after_code b t ≡ [] = (let f : nat_lt b 191 ≡ true = lt-ltb b 191 l in rw (f, after_code) refl) in
          let again : b ≡ 128 + t = omega (arith, g, e) in
          ap (λ (cs : List Chunk). cs ++ after_code b t) (first b (omega (arith, l))) ∙ ap (λ (cs : List Chunk). one b ∷ cs) none
          ∙ ap (λ (i : ℕ). one i ∷ []) again ∙ ap ones (sym (tag_is t (omega (arith, g, l, e))))

      large : (b t : ℕ) → b ≡ 191 → 63 ≤ t → ones (digits 256 1 b) ++ after_code b t ≡ ones (tag t)
      large b t e h =
          let all : after_code b t ≡ ones (base_128 t) = (let f : nat_lt b 191 ≡ false = le-ltb b 191 (omega (arith, e)) in rw (f, after_code) refl) in
          ap (λ (cs : List Chunk). cs ++ after_code b t) (first b (omega (arith, e))) ∙ ap (λ (cs : List Chunk). one b ∷ cs) all
          ∙ ap (λ (i : ℕ). one i ∷ ones (base_128 t)) e ∙ ap ones (sym (long_tag_is t h))

      there : (p : ℕ × ℕ) → TagOctet n p.0 × After p.0 p.1 → (p.1 < n) × (ones (digits 256 1 p.0) ++ after_code p.0 p.1 ≡ ones (tag p.1))
      there p (a, inl c) = (omega (arith, a.0, a.1, c.1), small p.0 p.1 a.0 c.0 c.1)
      there p (a, inr c) = (c.1.1, large p.0 p.1 (omega (arith, a.1, c.0)) c.1.0)

      back : (t : ℕ) → t < n → (p : ℕ × ℕ) × (TagOctet n p.0 × After p.0 p.1) × (t ≡ p.1)
      back t h = go (nat_lt t 63) refl
        where
          go : (a : Bool) → nat_lt t 63 ≡ a → (p : ℕ × ℕ) × (TagOctet n p.0 × After p.0 p.1) × (t ≡ p.1)
          go true e =
              let l = ltb-true t 63 e in
              let again : t ≡ 128 + t - 128 = omega arith in
              ((128 + t, t), ((omega arith, omega (arith, h, l)), inl (omega (arith, l), again)), refl)
          go false e = (let l = ltb-false t 63 e in ((191, t), ((omega arith, omega (arith, h, l)), inr (omega arith, (l, h))), refl))
