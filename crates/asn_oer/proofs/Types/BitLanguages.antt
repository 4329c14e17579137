-- BIT STRING in OER: bits as octets of which the last ends in zeros, after a length and the number of unused bits where
-- the size is not fixed.
use Rattle.std.proofs.Common.{◌≡◌, ◌≤◌, ◌-◌, ◌*◌, ℕ, suc, Bool, true, false, List, [], ◌∷◌, ◌++◌, map, Some, length, refl, sym, ap, ◌∙◌, subst, arith}
use Rattle.std.proofs.lemmas.List.{length-map}
use Rattle.asn_values.specs.Datum.{Datum, bit_list}
use Rattle.asn_values.specs.Shape.{SizeRange, bit_string}
use Rattle.asn_values.specs.Fits.{Fits, FitsLength}
use Rattle.asn_values.specs.Profile.{InProfile, SizeTooLarge, large_size, is_fixed_size}
use Rattle.asn_bits.specs.Numbers.{digits, padding}
use Rattle.asn_bits.specs.Lengths.{octet_length}
use Rattle.asn_bits.proofs.FilledBits.{length-padding}
use Rattle.asn_rules.specs.Chunks.{ones}
use Rattle.asn_rules.specs.Components.{bit_of}
use Rattle.asn_bits.specs.Sets.{AreBits, weighted, IsBits}
use Rattle.asn_rules.specs.Forks.{Same}
use Rattle.asn_rules.specs.Spellings.{SpelledBy}
use Rattle.asn_rules.proofs.Live.Chunks.{ones-append}
use Rattle.asn_bits.proofs.Weights.{bits_only}
use Rattle.asn_bits.proofs.LengthsInOctets.{one_is}
use Rattle.asn_rules.proofs.Languages.Spellings.{same_after, same_map, same_spelled, map_spelled}
use Rattle.asn_rules.specs.Filled.{filled_bits, filled_octets, unused_bits}
use Rattle.asn_rules.specs.OctetStrings.{PackedBits, BitsLength, UnusedBits, last_told, VariableBits}
use Rattle.asn_rules.proofs.Octets.BitStrings.{list_bits}
use Rattle.asn_rules.proofs.Octets.BitStrings.{short, three_parts, packed_language}
use Rattle.asn_oer.specs.Oer.{variable_bits, oer}
use Rattle.asn_oer.specs.Strings.{BitStrings}
use Rattle.asn_oer.proofs.Types.FilledLanguages.{length-filled_bits}
use Rattle.asn_oer.proofs.Types.StringLanguages.{fixed_fits}
use Rattle.asn_oer.proofs.Law.Strings.{one_length}

-- ---- bits of a count that is told

module _ (S : ℕ → Type 0) (few : (n : ℕ) → S n → n ≤ 268435455) where
  -- what a length, a number of unused bits and the bits have to be
  abbrev Tells : ℕ × (ℕ × List Bool) → Type 0
  Tells p = BitsLength S p.0 × (UnusedBits S p.0 p.1.0 × (length p.1.1 ≡ 8 * (p.0 - 1) - p.1.0))

  -- the length and the unused bits are those of the bits
  counts : (l u n : ℕ) → BitsLength S l → UnusedBits S l u → n ≡ 8 * (l - 1) - u → (l ≡ suc (filled_octets n)) × (u ≡ unused_bits n)
  counts l u n h k e =
      let s = h.same in
      let f = k.few in
      let g = k.left in
      (omega arith, omega arith)

  -- how many octets bits fill
  length-filled : (us : List ℕ) → AreBits us → length (filled_bits us) ≡ filled_octets (length us)
  length-filled us b =
      let m = weighted 2 us in
      let is : IsBits (length us) m us = record { digits = b; count = refl; sum = refl } in
      ap (λ (l : List ℕ). length (filled_bits l)) (bits_only (length us) m us is).1 ∙ length-filled_bits (length us) m

  -- a length, the unused bits, and the bits
  pub variable_language : Same (VariableBits S) (SpelledBy (λ bs. S (length bs)) (λ bs. ones (variable_bits (map bit_of bs))))
  variable_language =
      same_after
      (same_map (three_parts (BitsLength S) (UnusedBits S) (short S few) (λ l u k. omega (arith, k.few))))
      (map_spelled there back)
    where
      there : (p : ℕ × (ℕ × List Bool)) → Tells p → S (length (last_told p)) × (ones (octet_length p.0) ++ (ones (digits 256 1 p.1.0) ++ ones (filled_bits (map bit_of p.1.1))) ≡ ones (variable_bits (map bit_of (last_told p))))
      there p h =
          let us = map bit_of p.1.1 in
          let n : length us ≡ 8 * (p.0 - 1) - p.1.0 = length-map p.1.1 bit_of ∙ h.1.1 in
          let c = counts p.0 p.1.0 (length us) h.0 h.1.0 n in
          let unused : p.1.0 ≡ length (padding (length us)) = c.1 ∙ sym (length-padding (length us)) in
          let count : p.0 ≡ suc (length (filled_bits us)) = c.0 ∙ ap suc (sym (length-filled us (list_bits p.1.1))) in
          let first : digits 256 1 p.1.0 ≡ length (padding (length us)) ∷ [] = one_is p.1.0 (omega (arith, h.1.0.few)) ∙ ap (λ (i : ℕ). i ∷ []) unused in
          let content = length (padding (length us)) ∷ filled_bits us in (
            subst S (sym h.1.1) h.1.0.member,
            ap (λ (i : ℕ). ones (octet_length i) ++ (ones (digits 256 1 p.1.0) ++ ones (filled_bits us))) count
                ∙ ap (λ (f : List ℕ). ones (octet_length (length content)) ++ (ones f ++ ones (filled_bits us))) first ∙ sym (ones-append (octet_length (length content)) content),
          )

      back : (bs : List Bool) → S (length bs) → (p : ℕ × (ℕ × List Bool)) × Tells p × (bs ≡ last_told p)
      back bs s =
          let n = length bs in
          let l = suc (filled_octets n) in
          let u = unused_bits n in
          let left : n ≡ 8 * (l - 1) - u = omega arith in (
            (l, (u, bs)),
            (record { count = n; member = s; same = refl }, (record { few = omega arith; left = omega arith; member = subst S left s }, left)),
            refl,
          )

-- bits of a size
pub sized_bits : (s : SizeRange) → large_size (Some s) ≡ false → (t : Bool) → is_fixed_size s ≡ t
    → Same (elim t [ true ↦ PackedBits s.low | false ↦ VariableBits (FitsLength s) ]) (SpelledBy (λ bs. FitsLength s (length bs)) (λ bs. ones (elim t [ true ↦ filled_bits (map bit_of bs) | false ↦ variable_bits (map bit_of bs) ])))
sized_bits s small true e =
    same_after (packed_language s.low) (same_spelled (λ bs h. subst (FitsLength s) (sym h) (fixed_fits s small e)) (λ bs h. one_length s (length bs) e h) (λ bs h. refl))
sized_bits s small false e = variable_language (FitsLength s) (λ n h. h.0)

-- BIT STRING, where the size is not too large
pub bit_strings : (s : SizeRange) → large_size (Some s) ≡ false → Same (BitStrings s) (SpelledBy (Fits (bit_string s)) (oer (bit_string s)))
bit_strings s small = same_after (same_map (sized_bits s small (is_fixed_size s) refl)) (map_spelled (λ bs h. (h, refl)) back)
  where
    back : (v : Datum) → Fits (bit_string s) v → (bs : List Bool) × FitsLength s (length bs) × (v ≡ bit_list bs)
    back (bit_list bs) f = (bs, f, refl)
    back _ f = absurd f

pub bit_string_language : (s : SizeRange) → InProfile (bit_string s) → Same (BitStrings s) (SpelledBy (Fits (bit_string s)) (oer (bit_string s)))
bit_string_language s good = bit_strings s (good SizeTooLarge)
