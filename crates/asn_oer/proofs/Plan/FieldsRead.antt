-- The index of a CHOICE and the count of a SEQUENCE OF, by the octets that tell it.
use Rattle.std.proofs.Common.{◌≡◌, ◌<◌, ◌+◌, ◌/◌, ◌%◌, ◌++◌, ◌∷◌, [], inl, ℕ, length, List, Option, Some, None, IfSome, IsNone, refl, sym, ap, subst, ◌∙◌, length-append, arith}
use Rattle.std.proofs.lemmas.Bool.{lt-ltb}
use Rattle.asn_values.specs.Fits.{FitsLength}
use Rattle.asn_values.specs.Shape.{SizeRange}
use Rattle.asn_bits.specs.Numbers.{bits, octets, packed, octet_count, least}
use Rattle.asn_bits.proofs.LengthsInOctets.{one_is}
use Rattle.asn_bits.proofs.Octets.{length-digits, octet_count_some, octet_count_below}
use Rattle.asn_rules.specs.Chunks.{ones}
use Rattle.asn_rules.specs.Fields.{spelled}
use Rattle.asn_rules.specs.Languages.{Spells}
use Rattle.asn_rules.proofs.Languages.Parts.{contents-ones, map_spells}
use Rattle.asn_rules.proofs.Languages.Spellings.{units_front}
use Rattle.asn_rules.proofs.Live.Flat.{flat-ones}
use Rattle.asn_walk.specs.Ahead.{items}
use Rattle.asn_walk.specs.Coding.{IndexOf}
use Rattle.asn_plan.specs.Fields.{IsTold, IsIndexInOctets, IsCountInOctets, BeginsList}
use Rattle.asn_plan.specs.declared.field.BitField.{BitField}
use Rattle.asn_plan.proofs.FieldBits.{index_within}
use Rattle.asn_oer.specs.Constructed.{Quantity}
use Rattle.asn_oer.specs.Oer.{oer_fields, tag}
use Rattle.asn_oer.specs.Rules.{oer_ruling}
use Rattle.asn_oer.specs.Walk.{oer_coding, ListStart}
use Rattle.asn_oer.proofs.Plan.OctetsRead.{packed_number}
use Rattle.asn_oer.proofs.Types.ListLanguages.{quantity_language}
use Rattle.asn_oer.proofs.Types.StringLanguages.{length_few}

-- ---- CHOICE

-- the octet of a tag
tag_first : (root : ℕ) (more : Option ℕ) (n : ℕ) (us vs : List ℕ) → n < root → n < 63 → us ≡ bits 8 (128 + n) ++ vs
    → Spells oer_fields (IndexOf oer_coding root more) (inl n) (packed us) (packed vs)
unfolding oer_coding
tag_first root more n us vs inside few e =
    let short : tag n ≡ (128 + n) ∷ [] = rw (lt-ltb n 63 few, tag) refl in
    let octet : octets 1 (128 + n) ≡ (128 + n) ∷ [] = one_is (128 + n) (omega (arith, few)) in
    record {
      chunks = ones (tag n);
      spelt = record { fits = index_within root more n inside; same = refl };
      contents = contents-ones oer_fields (tag n);
      split = ap packed e ∙ packed_number 1 (128 + n) vs ∙ ap (λ (l : List ℕ). l ++ packed vs) (octet ∙ sym (flat-ones spelled (tag n) ∙ short));
    }

pub index_in_octets : (f : BitField) (root : ℕ) (more : Option ℕ) → IsIndexInOctets f root → (n : ℕ) (us vs : List ℕ) → IsTold f n us vs
    → Spells oer_fields (IndexOf oer_coding root more) (inl n) (packed us) (packed vs)
index_in_octets f root more is n us vs h =
    let same : f.first + h.above ≡ 128 + n = omega (arith, is.first, is.low, h.is) in
    let inside : n < root = omega (arith, is.low, h.is, h.few, is.most) in
    tag_first root more n us vs inside (omega (arith, is.low, h.is, h.few, is.short)) (h.split ∙ ap (λ (m : ℕ). bits f.bits m ++ vs) same ∙ ap (λ (k : ℕ). bits k (128 + n) ++ vs) is.bits)

-- ---- SEQUENCE OF

-- a length of 1, and the octet of the count
two_octets : (n : ℕ) → n < 256 → octets 2 (256 + n) ≡ 1 ∷ n ∷ []
two_octets n h =
    let first : (256 + n) / 256 % 256 ≡ 1 = omega (arith, h) in
    let second : (256 + n) / 1 % 256 ≡ n = omega (arith, h) in
    ap (λ (k : ℕ). k ∷ ((256 + n) / 1 % 256) ∷ []) first ∙ ap (λ (k : ℕ). 1 ∷ k ∷ []) second

one_octet : (n : ℕ) → n < 256 → spelled (least n) ≡ 1 ∷ n ∷ []
one_octet n h =
    let one : octet_count n ≡ 1 = omega (arith, octet_count_some n, octet_count_below n 1 (omega arith) (omega (arith, h))) in
    ap spelled (ap (λ (k : ℕ). octets k n) one ∙ one_is n h)

quantity_first : (s : SizeRange) (n : ℕ) (us vs : List ℕ) → FitsLength s n → n < 256 → us ≡ bits 16 (256 + n) ++ vs
    → Spells oer_fields (ListStart s) (items n) (packed us) (packed vs)
quantity_first s n us vs fits few e =
    let read : Spells oer_fields (Quantity (FitsLength s)) n (spelled (least n) ++ packed vs) (packed vs) =
    units_front (λ (k : ℕ). spelled (least k)) oer_fields (quantity_language (FitsLength s) (length_few s)) n fits (packed vs) in
    let front : packed us ≡ spelled (least n) ++ packed vs = ap packed e ∙ packed_number 2 (256 + n) vs ∙ ap (λ (l : List ℕ). l ++ packed vs) (two_octets n few ∙ sym (one_octet n few)) in
    map_spells {f = items} (subst (λ (l : List ℕ). Spells oer_fields (Quantity (FitsLength s)) n l (packed vs)) (sym front) read)

pub count_in_octets : (f : BitField) (s : SizeRange) → IsCountInOctets f s → (n : ℕ) (us vs : List ℕ) → IsTold f n us vs
    → BeginsList oer_coding s n (packed us) (packed vs)
unfolding oer_coding oer_ruling
count_in_octets f s is n us vs h =
    let same : f.first + h.above ≡ 256 + n = omega (arith, is.first, h.is) in
    let few : n < 256 = omega (arith, h.is, h.few, is.few) in
    let split = h.split ∙ ap (λ (k : ℕ). bits f.bits k ++ vs) same ∙ ap (λ (k : ℕ). bits k (256 + n) ++ vs) is.bits in
    record {
      ahead = items n;
      between = packed vs;
      start = quantity_first s n us vs (is.fits n (omega (arith, h.is)) (omega (arith, h.is, h.few))) few split;
      next = record { advances = (refl, refl, refl) };
    }

-- ---- what is left

-- the units of a field of octets are octets
pub octets_told : (f : BitField) (n : ℕ) (us vs : List ℕ) → IsTold f n us vs → f.bits % 8 ≡ 0 → length us % 8 ≡ 0 → length vs % 8 ≡ 0
octets_told f n us vs h whole e = omega (arith, whole, e, ap length h.split, length-append (bits f.bits (f.first + h.above)) vs, length-digits 2 f.bits (f.first + h.above))

-- so whole octets are left after it, or nothing is taken
pub octets_after_field : (f : BitField) (o : Option ℕ) (us vs : List ℕ) → f.bits % 8 ≡ 0 → IfSome o (λ n. IsTold f n us vs)
    → (IsNone o → vs ≡ us) → length us % 8 ≡ 0 → length vs % 8 ≡ 0
octets_after_field f None us vs whole some none e = rw (none refl) e
octets_after_field f (Some n) us vs whole some none e = octets_told f n us vs some whole e
