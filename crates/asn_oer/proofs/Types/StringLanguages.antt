-- Octets and characters in OER: which octets strings of a size have.
use Rattle.std.proofs.Common.{◌≡◌, ◌<◌, ◌||◌, ◌&&◌, ◌==◌, not, ℕ, Bool, true, false, List, [], ◌∷◌, ◌++◌, length, Option, Some, None, refl, sym, ap, ◌∙◌, subst, arith, IsTrue, nat_le, nat_lt}
use Rattle.std.proofs.lemmas.Bool.{true≢false, ltb-false, le-leb, eqb-true, or_parts}
use Rattle.std.specs.List.{AllByRecursion}
use Rattle.asn_values.specs.Datum.{Datum, octet_list, characters, unicode}
use Rattle.asn_values.specs.Shape.{SizeRange, Alphabet, octet_string, restricted, utf8_string}
use Rattle.asn_values.specs.Fits.{Fits, FitsLength, is_of_kind, not_above}
use Rattle.asn_values.specs.Profile.{InProfile, SizeTooLarge, is_fixed_size, large_size}
use Rattle.asn_bits.specs.Numbers.{octet_count}
use Rattle.asn_bits.specs.Lengths.{octet_length}
use Rattle.asn_bits.proofs.Octets.{octet_count_below}
use Rattle.asn_rules.specs.Chunks.{Chunk, one, ones, sealed, utf8_field}
use Rattle.asn_rules.specs.Languages.{Row}
use Rattle.asn_rules.specs.Forks.{Same}
use Rattle.asn_rules.specs.Spellings.{SpelledBy}
use Rattle.asn_rules.proofs.Live.Chunks.{ones-append}
use Rattle.asn_rules.proofs.Numbers.OctetLengths.{octet_itself, length_spelled}
use Rattle.asn_rules.proofs.Languages.Spellings.{same_after, same_then, same_map, same_spelled, map_spelled, then_spelled, sealed_spelled}
use Rattle.asn_rules.specs.Fields.{spelled}
use Rattle.asn_rules.proofs.Octets.Characters.{items_themselves, character_itself}
use Rattle.asn_oer.specs.Oer.{sized_octets, oer}
use Rattle.asn_oer.specs.Strings.{ItemsAfterLength, Sized, OctetStrings, CharacterStrings, IsUnicodeOf, Utf8Strings}
use Rattle.asn_oer.proofs.Law.Strings.{one_length}

-- ---- sizes

-- no bound of a size of the profile is above the limit, so the one length of a fixed size is such
pub fixed_fits : (z : SizeRange) → large_size (Some z) ≡ false → is_fixed_size z ≡ true → FitsLength z z.low
fixed_fits z good h = (omega (arith, ltb-false 268435455 z.low (or_parts (nat_lt 268435455 z.low) _ good).0), go z.extensible z.high h)
  where
    fixed : ℕ → Option ℕ → Bool
    fixed low None = false
    fixed low (Some high) = low == high

    go : (m : Bool) (high : Option ℕ) → (not m && fixed z.low high) ≡ true → IsTrue (m || (nat_le z.low z.low && not_above high z.low))
    go true high h = refl
    go false None h = absurd (true≢false (sym h))
    go false (Some high) h =
        let a : nat_le z.low z.low ≡ true = le-leb z.low z.low (omega arith) in
        let b : nat_le z.low high ≡ true = le-leb z.low high (omega (arith, eqb-true z.low high h)) in
        rw (a, b) refl

-- a length of the profile has few octets
pub length_few : (z : SizeRange) (n : ℕ) → FitsLength z n → octet_count n < 128
length_few z n h = (let l = octet_count_below n 4 (omega arith) (omega (arith, h.0)) in omega arith)

-- ---- octets and characters

module _ {L : ℕ → List Chunk → Type 0} {P : ℕ → Type 0} (items : Same L (SpelledBy P (λ o. one o ∷ []))) where
  -- items after their count
  pub items_after_length : (S : ℕ → Type 0) → ((n : ℕ) → S n → octet_count n < 128) → Same (ItemsAfterLength S L) (SpelledBy (λ c. S (length c) × AllByRecursion P c) (λ c. ones (spelled c)))
  items_after_length S few = same_after (same_map (same_after (same_then (length_spelled S few) (items_themselves items)) then_spelled)) (map_spelled there back)
    where
      there : (p : ℕ × List ℕ) → S p.0 × ((length p.1 ≡ p.0) × AllByRecursion P p.1) → (S (length p.1) × AllByRecursion P p.1) × (ones (octet_length p.0) ++ ones p.1 ≡ ones (spelled p.1))
      there p h = (
        (subst S (sym h.1.0) h.0, h.1.1),
        ap (λ (n : ℕ). ones (octet_length n) ++ ones p.1) (sym h.1.0) ∙ sym (ones-append (octet_length (length p.1)) p.1),
      )

      back : (c : List ℕ) → S (length c) × AllByRecursion P c → (p : ℕ × List ℕ) × (S p.0 × ((length p.1 ≡ p.0) × AllByRecursion P p.1)) × (c ≡ p.1)
      back c h = ((length c, c), (h.0, (refl, h.1)), refl)

  -- items of a size
  pub sized_language : (z : SizeRange) → large_size (Some z) ≡ false → Same (Sized z L) (SpelledBy (λ c. FitsLength z (length c) × AllByRecursion P c) (λ c. ones (sized_octets z c)))
  sized_language z good = go (is_fixed_size z) refl
    where
      go : (t : Bool) → is_fixed_size z ≡ t → Same (elim t [ true ↦ Row L z.low | false ↦ ItemsAfterLength (FitsLength z) L ]) (SpelledBy (λ c. FitsLength z (length c) × AllByRecursion P c) (λ c. ones (elim t [ true ↦ c | false ↦ spelled c ])))
      go true e =
          same_after (items_themselves items z.low)
          (same_spelled (λ c h. (subst (FitsLength z) (sym h.0) (fixed_fits z good e), h.1)) (λ c h. (one_length z (length c) e h.0, h.1)) (λ c h. refl))
      go false e = items_after_length (FitsLength z) (length_few z)

-- OCTET STRING
pub octet_string_language : (z : SizeRange) → InProfile (octet_string z) → Same (OctetStrings z) (SpelledBy (Fits (octet_string z)) (oer (octet_string z)))
octet_string_language z good = same_after (same_map (sized_language octet_itself z (good SizeTooLarge))) (map_spelled (λ c h. (h, refl)) back)
  where
    back : (v : Datum) → Fits (octet_string z) v → (c : List ℕ) × (FitsLength z (length c) × AllByRecursion (λ o. o < 256) c) × (v ≡ octet_list c)
    back (octet_list c) f = (c, f, refl)
    back _ f = absurd f

-- IA5String, NumericString and VisibleString
pub restricted_language : (k : Alphabet) (z : SizeRange) → InProfile (restricted k z) → Same (CharacterStrings k z) (SpelledBy (Fits (restricted k z)) (oer (restricted k z)))
restricted_language k z good = same_after (same_map (sized_language (character_itself k) z (good SizeTooLarge))) (map_spelled (λ c h. (h, refl)) back)
  where
    back : (v : Datum) → Fits (restricted k z) v → (c : List ℕ) × (FitsLength z (length c) × AllByRecursion (λ c. IsTrue (is_of_kind k c)) c) × (v ≡ characters c)
    back (characters c) f = (c, f, refl)
    back _ f = absurd f

-- UTF8String
pub utf8_language : Same Utf8Strings (SpelledBy (Fits utf8_string) (oer utf8_string))
utf8_language = same_after (sealed_spelled utf8_field {content = octets_of} there back) (same_spelled (λ v h. h) (λ v h. h) code)
  where
    octets_of : Datum → List ℕ
    octets_of (unicode os) = os
    octets_of _ = []

    there : (v : Datum) (c : List ℕ) → IsUnicodeOf v c → Fits utf8_string v × (c ≡ octets_of v)
    there v c h = subst (λ (w : Datum). Fits utf8_string w × (c ≡ octets_of w)) (sym h.seen) ((h.few, h.utf8), refl)

    back : (v : Datum) → Fits utf8_string v → IsUnicodeOf v (octets_of v)
    back (unicode os) f = record { seen = refl; few = f.0; utf8 = f.1 }
    back _ f = absurd f

    code : (v : Datum) → Fits utf8_string v → sealed utf8_field (octets_of v) ∷ [] ≡ oer utf8_string v
    code (unicode os) f = refl
    code _ f = absurd f
