-- BIT STRING, OCTET STRING, the restricted character strings and UTF8String in PER are put together from their items.
use Rattle.std.proofs.Common.{◌≡◌, ◌≤◌, ◌<◌, ◌+◌, ◌-◌, ◌==◌, ℕ, zero, suc, Bool, true, false, ◌&&◌, ◌||◌, List, [], ◌∷◌, length, IsTrue, IsUtf8, nat_le, refl, sym, ap, arith}
use Rattle.std.proofs.lemmas.Bool.{and_parts, ltb-true, leb-true, lt-ltb, le-leb, eqb-true}
use Rattle.std.specs.List.{AllByRecursion}
use Rattle.asn_values.specs.Datum.{Datum, bit_list, octet_list, characters, unicode}
use Rattle.asn_values.specs.Shape.{SizeRange, Alphabet, ia5, numeric, visible, bit_string, octet_string, restricted, utf8_string}
use Rattle.asn_values.specs.Fits.{Fits, max_len, is_of_kind}
use Rattle.asn_values.specs.Profile.{InProfile, EmptyRange, SizeTooLarge}
use Rattle.asn_bits.specs.Numbers.{bits}
use Rattle.asn_rules.specs.Chunks.{utf8_field, one, ones}
use Rattle.asn_rules.specs.Components.{bit_of}
use Rattle.asn_rules.specs.Languages.{Lawful}
use Rattle.asn_rules.specs.Forks.{Same}
use Rattle.asn_rules.specs.Spellings.{SpelledBy}
use Rattle.asn_rules.proofs.Sealed.Fields.{octet_lawful, octet_spelled}
use Rattle.asn_rules.proofs.Languages.Forks.{map_lawful_on, same_lawful}
use Rattle.asn_rules.proofs.Numbers.Sets.{set_lawful}
use Rattle.asn_rules.proofs.Languages.Spellings.{same_after, same_map, same_spelled, set_spelled, map_spelled, sealed_spelled}
use Rattle.asn_per.specs.Per.{character_bits}
use Rattle.asn_per.specs.Kinds.{Values, truth_of, Bit, BitStrings, OctetStrings, numeric_at, Character, Texts, Utf8Strings}
use Rattle.asn_per.proofs.Types.BooleanAndNull.{bit_spelled}
use Rattle.asn_per.proofs.Types.SizedLists.{FitSize, same_sized, sized_spelled}

-- ---- BIT STRING

-- the bits of two truth values are one or part
pub bit_lawful : Lawful Bit
bit_lawful = map_lawful_on (λ a b x y p q e. once a b p.spelt.member q.spelt.member e) (set_lawful 2 1 (λ n. n < 2))
  where
    once : (a b : ℕ) → a < 2 → b < 2 → truth_of a ≡ truth_of b → a ≡ b
    once zero zero p q e = refl
    once (suc a) (suc b) p q e = omega arith
    once zero (suc b) p q e = absurd (cc)
    once (suc a) zero p q e = absurd (cc)

-- bits under a size
pub bit_strings_compose : (s : SizeRange) → InProfile (bit_string s) → Same (BitStrings s) (Values (bit_string s))
bit_strings_compose s good =
    same_after (same_map (same_after (same_sized bit_spelled s) (sized_spelled (λ b. Unit {0}) (λ b. one (bit_of b) ∷ []) (same_lawful bit_spelled bit_lawful) s (record { ordered = good EmptyRange; small = good SizeTooLarge }))))
    (map_spelled (λ bs h. (h.0, refl)) back)
  where
    any : (bs : List Bool) → AllByRecursion (λ (b : Bool). Unit {0}) bs
    any [] = tt
    any (b ∷ bs) = (tt, any bs)

    back : (v : Datum) → Fits (bit_string s) v → (bs : List Bool) × FitSize (λ b. Unit {0}) (λ b. one (bit_of b) ∷ []) s bs × (v ≡ bit_list bs)
    back (bit_list bs) h = (bs, (h, any bs), refl)
    back _ h = absurd h

-- ---- OCTET STRING

-- octets under a size
pub octet_strings_compose : (s : SizeRange) → InProfile (octet_string s) → Same (OctetStrings s) (Values (octet_string s))
octet_strings_compose s good =
    same_after (same_map (same_after (same_sized octet_spelled s) (sized_spelled (λ o. o < 256) (λ o. ones (bits 8 o)) (same_lawful octet_spelled octet_lawful) s (record { ordered = good EmptyRange; small = good SizeTooLarge }))))
    (map_spelled (λ os h. (h, refl)) back)
  where
    back : (v : Datum) → Fits (octet_string s) v → (os : List ℕ) × FitSize (λ o. o < 256) (λ o. ones (bits 8 o)) s os × (v ≡ octet_list os)
    back (octet_list os) h = (os, h, refl)
    back _ h = absurd h

-- ---- the restricted character strings

-- the index of a character of NumericString
abbrev numeric_index : ℕ → ℕ
numeric_index c = elim (c == 32) [ true ↦ 0 | false ↦ c - 47 ]

-- what is above SPACE is not SPACE
not_space : (c : ℕ) → 32 < c → (c == 32) ≡ false
not_space c h = go (c == 32) refl
  where
    go : (b : Bool) → (c == 32) ≡ b → b ≡ false
    go true e = absurd (let s = eqb-true c 32 e in omega arith)
    go false e = refl

-- an index is that of a character
numeric_there : (n : ℕ) → n < 11 → IsTrue (is_of_kind numeric (numeric_at n)) × (ones (bits 4 n) ≡ ones (character_bits numeric (numeric_at n)))
numeric_there zero h = (refl, refl)
numeric_there (suc n) h =
    let no : ((48 + n) == 32) ≡ false = not_space (48 + n) (omega arith) in
    let i : numeric_index (48 + n) ≡ suc n = rw (no, numeric_index) (omega arith) in
    (rw (no, le-leb 48 (48 + n) (omega arith), le-leb (48 + n) 57 (omega arith)) refl, ap (λ (k : ℕ). ones (bits 4 k)) (sym i))

-- each character has an index
numeric_back : (c : ℕ) → IsTrue (is_of_kind numeric c) → (n : ℕ) × (n < 11) × (c ≡ numeric_at n)
numeric_back c h = go (c == 32) refl h
  where
    go : (b : Bool) → (c == 32) ≡ b → (b || (nat_le 48 c && nat_le c 57)) ≡ true → (n : ℕ) × (n < 11) × (c ≡ numeric_at n)
    go true e h = (0, omega arith, eqb-true c 32 e)
    go false e h = (let w = and_parts _ _ h in let low = leb-true 48 c w.0 in let high = leb-true c 57 w.1 in (suc (c - 48), omega arith, omega arith))

-- a character is spelt by the bits of the definition
pub character_spelled : (k : Alphabet) → Same (Character k) (SpelledBy (λ c. IsTrue (is_of_kind k c)) (λ c. ones (character_bits k c)))
character_spelled ia5 = same_after (set_spelled 7 (λ c. c < 128) (λ c h. h)) (same_spelled (λ c h. lt-ltb c 128 h) (λ c h. ltb-true c 128 h) (λ c h. refl))
character_spelled visible =
    same_after (set_spelled 7 (λ c. (32 ≤ c) × (c ≤ 126)) (λ c h. omega (arith, h.1))) (same_spelled (λ c h. rw (le-leb 32 c h.0, le-leb c 126 h.1) refl)
    (λ c h. (let w = and_parts (nat_le 32 c) (nat_le c 126) h in (leb-true 32 c w.0, leb-true c 126 w.1))) (λ c h. refl))
character_spelled numeric = same_after (same_map (set_spelled 4 (λ n. n < 11) (λ n h. omega arith))) (map_spelled numeric_there numeric_back)

-- the bits of two characters are one or part
pub character_lawful : (k : Alphabet) → Lawful (Character k)
character_lawful ia5 = set_lawful 2 7 (λ c. c < 128)
character_lawful visible = set_lawful 2 7 (λ c. (32 ≤ c) × (c ≤ 126))
character_lawful numeric = map_lawful_on (λ a b x y p q e. once a b e) (set_lawful 2 4 (λ n. n < 11))
  where
    once : (a b : ℕ) → numeric_at a ≡ numeric_at b → a ≡ b
    once zero zero e = refl
    once (suc a) (suc b) e = omega arith
    once zero (suc b) e = absurd (omega arith)
    once (suc a) zero e = absurd (omega arith)

-- characters under a size
pub texts_compose : (k : Alphabet) (s : SizeRange) → InProfile (restricted k s) → Same (Texts k s) (Values (restricted k s))
texts_compose k s good =
    same_after (same_map (same_after (same_sized (character_spelled k) s) (sized_spelled (λ c. IsTrue (is_of_kind k c)) (λ c. ones (character_bits k c)) (same_lawful (character_spelled k) (character_lawful k)) s (record { ordered = good EmptyRange; small = good SizeTooLarge }))))
    (map_spelled (λ cs h. (h, refl)) back)
  where
    back : (v : Datum) → Fits (restricted k s) v → (cs : List ℕ) × FitSize (λ c. IsTrue (is_of_kind k c)) (λ c. ones (character_bits k c)) s cs × (v ≡ characters cs)
    back (characters cs) h = (cs, h, refl)
    back _ h = absurd h

-- ---- UTF8String

-- a sealed field
pub utf8_strings_compose : Same Utf8Strings (Values utf8_string)
utf8_strings_compose =
    same_after (same_map (sealed_spelled utf8_field {P = λ os. (length os ≤ max_len) × IsUtf8 os} {content = λ os. os} (λ os c h. ((h.most, h.text), h.same)) (λ os h. record { text = h.1; most = h.0; same = refl })))
    (map_spelled (λ os h. (h, refl)) back)
  where
    back : (v : Datum) → Fits utf8_string v → (os : List ℕ) × ((length os ≤ max_len) × IsUtf8 os) × (v ≡ unicode os)
    back (unicode os) h = (os, h, refl)
    back _ h = absurd h
