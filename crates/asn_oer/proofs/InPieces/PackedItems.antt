-- Bits that fill octets, of which any octets of that count are judged at the end of the last one.
use Rattle.std.proofs.Common.{◌≡◌, ◌<◌, ◌+◌, ◌-◌, ◌*◌, ◌/◌, ◌%◌, ◌^◌, ℕ, zero, suc, Bool, false, List, [], ◌∷◌, ◌++◌, length, map, refl, sym, ap, subst, ◌∙◌, arith, length-append, append-nil, append_assoc}
use Rattle.std.specs.Prelude.{replicate}
use Rattle.std.proofs.Math.Nat.{mul-mod_left}
use Rattle.std.proofs.lemmas.List.{length-map, length-replicate}
use Rattle.std.specs.List.{AllByRecursion}
use Rattle.asn_bits.specs.Numbers.{padding}
use Rattle.asn_bits.proofs.FilledBits.{filled_up, filled_up_fills, filled_up_octets, length-packed, length-padding}
use Rattle.asn_bits.proofs.LengthsInOctets.{one_is}
use Rattle.asn_bits.proofs.Weights.{digits-append, digits-first}
use Rattle.asn_rules.specs.Chunks.{Chunk, one, ones}
use Rattle.asn_rules.specs.Components.{bit_of}
use Rattle.asn_rules.specs.Fields.{OneOctet, octet_fields}
use Rattle.asn_rules.specs.Filled.{filled_bits, filled_octets}
use Rattle.asn_rules.specs.Forks.{Same}
use Rattle.asn_rules.specs.Laws.{AreOctets}
use Rattle.asn_rules.specs.Languages.{Inhabited, IsFront, IsLive, NoSpelling, Short, Refused, Spells, Row}
use Rattle.asn_rules.specs.Live.{Fielding}
use Rattle.asn_rules.specs.OctetStrings.{EndOctet, PackedBits, bits_told}
use Rattle.asn_rules.specs.Spellings.{SpelledBy}
use Rattle.asn_rules.proofs.Languages.Forks.{same_flip, same_inhabited}
use Rattle.asn_rules.proofs.Languages.Parts.{front_ones, refused_here}
use Rattle.asn_rules.proofs.Languages.Spellings.{same_after, same_spelled, digits_spelled, spelled_inhabited, units_front}
use Rattle.asn_rules.proofs.Languages.Then.{live_nothing}
use Rattle.asn_rules.proofs.Numbers.OctetLengths.{octets_itself}
use Rattle.asn_rules.proofs.Numbers.OctetRows.{octets_front, octets_few}
use Rattle.asn_rules.proofs.Octets.BitStrings.{list_bits, packed_language}
use Rattle.asn_rules.proofs.Octets.Characters.{items_themselves}
use Rattle.asn_rules.proofs.Octets.OctetFields.{octet_fields_part}
use Rattle.asn_oer.proofs.InPieces.Coarser.{Coarser, coarser_short}

-- ---- octets that go on with zeros

-- units that begin plain units begin what these begin
longer : (R : Fielding) (x : List ℕ) (y : List Chunk) (us t : List ℕ) → x ≡ us ++ t → IsFront R (ones x ++ y) us
longer R x y [] t e = tt
longer R [] y (u ∷ us) t e = absurd (cc)
longer R (a ∷ x) y (u ∷ us) t e =
    let f : a ≡ u = cc e in
    let g : x ≡ us ++ t = cc e in
    (f, longer R x y us t g)

zeros : (n : ℕ) → AreOctets (replicate n 0)
zeros zero = tt
zeros (suc n) = (omega arith, zeros n)

-- an octet that ends in as many zeros as r bits leave
abbrev IsEnd : ℕ → ℕ → Type 0
IsEnd r o = (o < 256) × (o % 2 ^ (8 - r) ≡ 0)

end_itself : (r : ℕ) → Same (EndOctet r) (SpelledBy (IsEnd r) (λ o. one o ∷ []))
end_itself r = same_after (digits_spelled 256 1 (IsEnd r) (λ o h. omega (arith, h.0))) (same_spelled (λ o h. h) (λ o h. h) (λ o h. ap ones (one_is o h.0)))

zeros_end : (r n : ℕ) → AllByRecursion (IsEnd r) (replicate n 0)
zeros_end r zero = tt
zeros_end r (suc n) = ((omega arith, zero_rest (2 ^ (8 - r))), zeros_end r n)
  where
    zero_rest : (m : ℕ) → 0 % m ≡ 0
    zero_rest m = (let e : 0 ≡ 0 * m = omega arith in ap (λ (i : ℕ). i % m) e ∙ mul-mod_left 0 m)

-- the last of some octets
ends_in : (x : ℕ) (xs : List ℕ) → (before : List ℕ) × (u : ℕ) × (x ∷ xs ≡ before ++ u ∷ [])
ends_in x [] = ([], x, refl)
ends_in x (y ∷ xs) = (let w = ends_in y xs in (x ∷ w.0, w.1, ap (λ (l : List ℕ). x ∷ l) w.2))

-- ---- bits that fill octets

-- what bits fill has as many octets
pub filled_count : (us : List ℕ) → length (filled_bits us) ≡ filled_octets (length us)
filled_count us = omega (arith, length-packed (filled_up us) (filled_up_fills us), length-append us (padding (length us)), length-padding (length us))

module _ (n : ℕ) where
  -- they are octets of that count
  filled_row : (bs : List Bool) (cs : List Chunk) → PackedBits n bs cs → (os : List ℕ) × Row OneOctet (filled_octets n) os cs
  filled_row bs cs h =
      let s = (packed_language n).to bs cs h in
      let us = map bit_of bs in
      let l : length (filled_bits us) ≡ filled_octets n = filled_count us ∙ ap filled_octets (length-map bs bit_of ∙ s.fits) in
      (filled_bits us, (octets_itself (filled_octets n)).from (filled_bits us) cs (record { fits = (l, filled_up_octets us (list_bits bs)); same = s.same }))

  -- fewer octets begin some
  begins : (us : List ℕ) → AreOctets us → length us < filled_octets n → IsLive octet_fields (PackedBits n) us
  begins us o l =
      let k = n / 8 - length us in
      let r = (n % 8 + 7) / 8 in
      let os = us ++ replicate k 0 in
      let ls : List ℕ = replicate r 0 in
      let c : length os ≡ n / 8 = length-append us (replicate k 0) ∙ ap (λ (i : ℕ). length us + i) (length-replicate {A = ℕ} k 0) ∙ omega (arith, l) in
      let first : Row OneOctet (n / 8) os (ones os) = (octets_itself (n / 8)).from os (ones os) (record { fits = (c, digits-append 256 us (replicate k 0) o (zeros k)); same = refl }) in
      let last : Row (EndOctet (n % 8)) r ls (ones ls) = (items_themselves (end_itself (n % 8)) r).from ls (ones ls) (record { fits = (length-replicate {A = ℕ} r 0, zeros_end (n % 8) r); same = refl }) in
      record {
        value = bits_told n (os, ls);
        chunks = ones os ++ ones ls;
        spelt = record { source = (os, ls); spelt = record { first = ones os; second = ones ls; spelt = first; follows = last; whole = refl }; seen = refl };
        front = longer octet_fields os (ones ls) us (replicate k 0) refl;
      }

  -- octets of that count are judged at the end of the last one
  pub bits_coarser : Coarser octet_fields (Row OneOctet (filled_octets n)) (PackedBits n)
  bits_coarser = record { incl = filled_row; lives = lives }
    where
      lives : (us : List ℕ) → IsLive octet_fields (Row OneOctet (filled_octets n)) us → NoSpelling octet_fields (Row OneOctet (filled_octets n)) us → IsLive octet_fields (PackedBits n) us
      lives us h none = go s.fits.0 s.fits.1 f.0 f.1
        where
          s : SpelledBy (λ c. (length c ≡ filled_octets n) × AreOctets c) ones h.value h.chunks
          s = (octets_itself (filled_octets n)).to h.value h.chunks h.spelt

          f : (t : List ℕ) × (h.value ≡ us ++ t)
          f = front_ones octet_fields h.value us (subst (λ (cs : List Chunk). IsFront octet_fields cs us) s.same h.front)

          go : length h.value ≡ filled_octets n → AreOctets h.value → (t : List ℕ) → h.value ≡ us ++ t → IsLive octet_fields (PackedBits n) us
          go l o [] e =
              let g : h.value ≡ us = e ∙ append-nil us in
              let whole : Spells octet_fields (Row OneOctet (filled_octets n)) h.value (h.value ++ []) [] = octets_front octet_fields (filled_octets n) h.value [] l o in
              absurd (none h.value [] (subst (λ (xs : List ℕ). Spells octet_fields (Row OneOctet (filled_octets n)) h.value xs []) (append-nil h.value ∙ g) whole))
          go l o (x ∷ t) e =
              begins us (digits-first 256 us (x ∷ t) (subst AreOctets e o)) (omega (arith, l, ap length e, length-append us (x ∷ t)))

  pub some_bits : Inhabited (PackedBits n)
  some_bits = same_inhabited (same_flip (packed_language n)) (spelled_inhabited (replicate n false) (length-replicate n false))

  -- octets of that count that no bits have are refused at the last one
  pub bits_refused : (os r : List ℕ) → length os ≡ filled_octets n → AreOctets os → NoSpelling octet_fields (PackedBits n) os
      → Refused octet_fields (PackedBits n) (os ++ r) (length r)
  bits_refused os r l o none = go os refl
    where
      dead : IsLive octet_fields (PackedBits n) os → ⊥
      dead h = end f.0 f.1
        where
          s : SpelledBy (λ bs. length bs ≡ n) (λ bs. ones (filled_bits (map bit_of bs))) h.value h.chunks
          s = (packed_language n).to h.value h.chunks h.spelt

          us : List ℕ
          us = filled_bits (map bit_of h.value)

          f : (t : List ℕ) × (us ≡ os ++ t)
          f = front_ones octet_fields us os (subst (λ (cs : List Chunk). IsFront octet_fields cs os) s.same h.front)

          count : length us ≡ length os
          count = filled_count (map bit_of h.value) ∙ ap filled_octets (length-map h.value bit_of ∙ s.fits) ∙ sym l

          end : (t : List ℕ) → us ≡ os ++ t → ⊥
          end [] e =
              let whole : Spells octet_fields (PackedBits n) h.value (us ++ []) [] = units_front (λ (bs : List Bool). filled_bits (map bit_of bs)) octet_fields (packed_language n) h.value s.fits [] in
              none h.value [] (subst (λ (xs : List ℕ). Spells octet_fields (PackedBits n) h.value xs []) (append-nil us ∙ e ∙ append-nil os) whole)
          end (x ∷ t) e = absurd (omega (arith, ap length e, length-append os (x ∷ t), count))

      last : (before : List ℕ) (u : ℕ) → os ≡ before ++ u ∷ [] → Refused octet_fields (PackedBits n) (os ++ r) (length r)
      last before u e =
          let fewer : length before < filled_octets n = omega (arith, l, ap length e, length-append before (u ∷ [])) in
          let are : AreOctets before = digits-first 256 before (u ∷ []) (subst AreOctets e o) in
          let short : Short octet_fields (PackedBits n) before = coarser_short bits_coarser before (octets_few octet_fields_part (filled_octets n) before are fewer) in
          let here = refused_here octet_fields_part before u r short (λ h. dead (subst (IsLive octet_fields (PackedBits n)) (sym e) h)) in
          subst (λ (xs : List ℕ). Refused octet_fields (PackedBits n) xs (length r)) (sym (append_assoc before (u ∷ []) r) ∙ ap (λ (xs : List ℕ). xs ++ r) (sym e)) here

      go : (xs : List ℕ) → xs ≡ os → Refused octet_fields (PackedBits n) (os ++ r) (length r)
      go [] e = absurd (dead (subst (IsLive octet_fields (PackedBits n)) e (live_nothing some_bits)))
      go (x ∷ xs) e = (let w = ends_in x xs in last w.0 w.1 (sym e ∙ w.2))
