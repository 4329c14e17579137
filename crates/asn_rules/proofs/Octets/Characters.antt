-- Characters in a row, an octet each: where octets that were taken are characters of the kind, where they are too few,
-- and the first that is none.
use Rattle.std.proofs.Common.{◌≡◌, ◌<◌, ◌≤◌, ◌+◌, ◌-◌, ℕ, suc, true, false, List, [], ◌∷◌, ◌++◌, length, length-append, take, drop, replicate, get_or, refl, sym, ap, ◌∙◌, subst, arith, append_assoc, IsTrue, ◌||◌, ◌&&◌, ◌==◌, Bool, nat_le}
use Rattle.std.proofs.lemmas.Bool.{true≢false, eqb-true, ltb-true, leb-true, and_parts}
use Rattle.std.proofs.lemmas.List.{length-replicate, length-take-le, take-append-drop, take_all, drop_more}
use Rattle.std.specs.List.{AllByRecursion}
use Rattle.asn_values.specs.Fits.{is_of_kind}
use Rattle.asn_values.specs.Shape.{Alphabet, ia5, numeric, visible}
use Rattle.asn_bits.specs.Sets.{InDigits}
use Rattle.asn_bits.proofs.Weights.{digits_only, digits-first}
use Rattle.asn_rules.specs.Chunks.{Chunk, ones, flat, one}
use Rattle.asn_rules.specs.Fields.{OneOctet, octet_fields}
use Rattle.asn_rules.specs.Forks.{Same}
use Rattle.asn_rules.specs.Languages.{Spells, Short, Refused, Lawful, Inhabited, Row}
use Rattle.asn_rules.specs.Spellings.{SpelledBy}
use Rattle.asn_rules.specs.Stops.{Stops}
use Rattle.asn_rules.specs.declared.stop.Stop.{Stop}
use Rattle.asn_rules.specs.declared.stop.Stop.TheVariants as stop
use Rattle.asn_rules.proofs.Live.Flat.{flat-ones}
use Rattle.asn_bits.proofs.LengthsInOctets.{one_is}
use Rattle.asn_rules.proofs.Numbers.OctetLengths.{octets_itself, joined_octets}
use Rattle.asn_rules.proofs.Numbers.OctetRows.{octets_front}
use Rattle.asn_rules.proofs.Languages.Parts.{plain_short, plain_refused}
use Rattle.asn_rules.proofs.Languages.Rows.{row_lawful, row_refused, row_refused_first}
use Rattle.asn_rules.proofs.Numbers.Sets.{set_code, set_lawful}
use Rattle.asn_rules.proofs.Law.SomeValue.{character_fits, all_same}
use Rattle.asn_rules.proofs.Languages.Spellings.{same_after, units_front, units_short, same_row, same_spelled, digits_spelled, row_spelled}
use Rattle.asn_rules.proofs.Octets.OctetFields.{octet_fields_part}
use Rattle.asn_rules.specs.Laws.{AreOctets}
use Rattle.asn_rules.specs.OctetStrings.{Character, IsValidCount}

-- ---- which octets

-- items that are octets, in a row, are spelt by themselves
pub items_themselves : {L : ℕ → List Chunk → Type 0} {P : ℕ → Type 0} → Same L (SpelledBy P (λ o. one o ∷ [])) → (n : ℕ) → Same (Row L n) (SpelledBy (λ c. (length c ≡ n) × AllByRecursion P c) ones)
items_themselves items n = same_after (same_row items n) (same_after (row_spelled n) (same_spelled (λ c h. h) (λ c h. h) (λ c h. joined_octets c)))

-- a character of each alphabet is an octet
character_octet : (k : Alphabet) (c : ℕ) → IsTrue (is_of_kind k c) → c < 256
character_octet ia5 c h = omega (arith, ltb-true c 128 h)
character_octet visible c h = omega (arith, leb-true c 126 (and_parts (nat_le 32 c) (nat_le c 126) h).1)
character_octet numeric c h = go (c == 32) refl h
  where
    go : (b : Bool) → (c == 32) ≡ b → (b || (nat_le 48 c && nat_le c 57)) ≡ true → c < 256
    go true e h = omega (arith, eqb-true c 32 e)
    go false e h = omega (arith, leb-true c 57 (and_parts (nat_le 48 c) (nat_le c 57) h).1)

-- characters are octets
pub characters_octets : (k : Alphabet) (cs : List ℕ) → AllByRecursion (λ c. IsTrue (is_of_kind k c)) cs → AreOctets cs
characters_octets k [] h = tt
characters_octets k (c ∷ cs) h = (character_octet k c h.0, characters_octets k cs h.1)

-- a character is spelt by itself
pub character_itself : (k : Alphabet) → Same (Character k) (SpelledBy (λ c. IsTrue (is_of_kind k c)) (λ c. one c ∷ []))
character_itself k = same_after (digits_spelled 256 1 (λ c. IsTrue (is_of_kind k c)) (λ c h. omega (arith, below c h))) (same_spelled (λ c h. h) (λ c h. h) (λ c h. ap ones (one_is c (below c h))))
  where
    below : (c : ℕ) → IsTrue (is_of_kind k c) → c < 256
    below c h = (characters_octets k (c ∷ []) (h, tt)).0

-- octets of which each is a character of the kind
abbrev pub AreCharacters : Alphabet → List ℕ → Type 0
AreCharacters k os = AllByRecursion (λ c. IsTrue (is_of_kind k c)) os

-- ---- octets in a row

-- they stand in front
pub row_front : (n : ℕ) (os us r : List ℕ) → Spells octet_fields (Row OneOctet n) os us r → (us ≡ os ++ r) × (length os ≡ n)
row_front n os us r h =
    let s = (octets_itself n).to os h.chunks h.spelt in
    (h.split ∙ ap (λ (c : List Chunk). flat octet_fields.spelled c ++ r) s.same ∙ ap (λ (l : List ℕ). l ++ r) (flat-ones octet_fields.spelled os), s.fits.0)

-- as many as there are are read, but for a want of memory
pub memory_alone : {A : Type 0} (L : A → List Chunk → Type 0) (m : ℕ) (us : List ℕ) (why : Stop) → AllByRecursion (λ o. o < 256) us → m ≤ length us → Stops octet_fields (Row OneOctet m) us why → Stops octet_fields L us why
memory_alone L m us why p l h = go why h
  where
    front : Spells octet_fields (Row OneOctet m) (take m us) us (drop m us)
    front =
        let e = take-append-drop m us in
        subst (λ (t : List ℕ). Spells octet_fields (Row OneOctet m) (take m us) t (drop m us)) e (octets_front octet_fields m (take m us) (drop m us) (length-take-le m us l) (digits-first 256 (take m us) (drop m us) (subst (AllByRecursion (λ o. o < 256)) (sym e) p)))

    go : (why : Stop) → Stops octet_fields (Row OneOctet m) us why → Stops octet_fields L us why
    go (stop.Refused left w) h = absurd (h.told.none (take m us) (drop m us) front)
    go stop.Short h = absurd (h.told.none (take m us) (drop m us) front)
    go stop.Memory h = record { told = tt }

-- ---- characters in a row

characters_spelled : (k : Alphabet) (n : ℕ) → Same (Row (Character k) n) (SpelledBy (λ c. (length c ≡ n) × AreCharacters k c) (λ c. ones c))
characters_spelled k n = items_themselves (character_itself k) n

character_lawful : (k : Alphabet) → Lawful (Character k)
character_lawful k = set_lawful 256 1 (λ c. IsTrue (is_of_kind k c))

space : (k : Alphabet) → InDigits 256 1 (λ c. IsTrue (is_of_kind k c)) 32 (32 ∷ [])
space k = record { digits = record { digits = (omega arith, tt); count = refl; sum = refl }; member = character_fits k }

pub character_inhabited : (k : Alphabet) → Inhabited (Character k)
character_inhabited k = record { value = 32; chunks = ones (32 ∷ []); spelt = record { units = 32 ∷ []; spelt = space k; same = refl } }

module _ (k : Alphabet) (n : ℕ) where
  -- each octet is a character
  pub text_spells : (os us r : List ℕ) → us ≡ os ++ r → length os ≡ n → AreCharacters k os → Spells octet_fields (Row (Character k) n) os us r
  text_spells os us r e l h = subst (λ (t : List ℕ). Spells octet_fields (Row (Character k) n) os t r) (sym e) (units_front (λ c. c) octet_fields (characters_spelled k n) os (l, h) r)

  -- each is one, and there are too few
  pub text_short : (os us : List ℕ) → us ≡ os → length os < n → AreCharacters k os → Short octet_fields (Row (Character k) n) us
  text_short os us e l h =
      let m = n - length os - 1 in
      let count : length (os ++ 32 ∷ replicate m 32) ≡ n = length-append os (32 ∷ replicate m 32) ∙ ap (λ (i : ℕ). length os + suc i) (length-replicate {A = ℕ} m 32) ∙ omega arith in
      let all : AreCharacters k (os ++ 32 ∷ replicate m 32) = joined os (32 ∷ replicate m 32) h (character_fits k, all_same (λ c. IsTrue (is_of_kind k c)) 32 m (character_fits k)) in
      units_short (λ c. c) octet_fields_part (row_lawful (character_lawful k) n) (characters_spelled k n) (os ++ 32 ∷ replicate m 32) (count, all) us 32 (replicate m 32) (ap (λ (t : List ℕ). t ++ 32 ∷ replicate m 32) e)
    where
      joined : (a b : List ℕ) → AreCharacters k a → AreCharacters k b → AreCharacters k (a ++ b)
      joined [] b p q = q
      joined (c ∷ a) b p q = (p.0, joined a b p.1 q)

  -- one is none
  pub text_refused : (before after : List ℕ) (u : ℕ) (us r : List ℕ) → us ≡ (before ++ u ∷ after) ++ r → length before < n → AreCharacters k before → is_of_kind k u ≡ false
      → Refused octet_fields (Row (Character k) n) us (length after + length r)
  text_refused before after u us r e l h bad =
      let here : Refused octet_fields (Character k) (u ∷ after ++ r) (length (after ++ r)) = plain_refused octet_fields_part [] u (after ++ r) (plain_short octet_fields_part (set_code 256 1 (λ c. IsTrue (is_of_kind k c))) 32 [] 32 [] (space k)) never in
      let m = n - length before - 1 in
      let row = row_refused_first (character_inhabited k) m here in
      let front = units_front (λ c. c) octet_fields (characters_spelled k (length before)) before (refl, h) (u ∷ after ++ r) in
      let all = row_refused (Character k) octet_fields_part (character_lawful k) (length before) (suc m) n (omega (arith, l)) front row in
      subst (λ (i : ℕ). Refused octet_fields (Row (Character k) n) us i) (length-append after r) (subst (λ (t : List ℕ). Refused octet_fields (Row (Character k) n) t (length (after ++ r))) (sym (e ∙ append_assoc before (u ∷ after) r)) all)
    where
      never : (c : ℕ) (t : List ℕ) → InDigits 256 1 (λ c. IsTrue (is_of_kind k c)) c ([] ++ u ∷ t) → ⊥
      never c t d =
          let w = digits_only 256 1 c (u ∷ t) d.digits in
          let same : u ∷ t ≡ c ∷ [] = w.1 ∙ one_is c w.0 in
          let here : u ≡ c = cc in
          let good : is_of_kind k c ≡ true = d.member in
          true≢false (sym good ∙ ap (λ (i : ℕ). is_of_kind k i) (sym here) ∙ bad)

-- ---- the octets in front that are characters

-- all octets
pub all_valid : (k : Alphabet) (os : List ℕ) (n : ℕ) → IsValidCount k os n → length os ≤ n → AreCharacters k os
all_valid k os n v l = subst (AreCharacters k) (take_all n os l) v.valid

-- not all
pub some_other : (k : Alphabet) (os : List ℕ) (n : ℕ) → IsValidCount k os n → n < length os → (before : List ℕ) × (u : ℕ) × (after : List ℕ) × (os ≡ before ++ u ∷ after) × (length before ≡ n) × AreCharacters k before × (is_of_kind k u ≡ false)
some_other k os n v l =
    (take n os, get_or os n 0, drop (n + 1) os, sym (take-append-drop n os) ∙ ap (λ (t : List ℕ). take n os ++ t) (drop_more os n 0 l), length-take-le n os v.within, v.valid, v.other l)
