-- Octets that are read as bits once all of them have come.
use Rattle.std.proofs.Common.{◌≡◌, ℕ, Bool, List, [], ◌∷◌, length, map, length-append, refl, ap, subst, ◌∙◌, arith}
use Rattle.std.proofs.lemmas.List.{length-map}
use Rattle.asn_bits.specs.Numbers.{packed, unpacked}
use Rattle.asn_rules.specs.Chunks.{Chunk, ones, flat}
use Rattle.asn_rules.specs.Components.{bit_of}
use Rattle.asn_rules.specs.Fields.{octet_fields}
use Rattle.asn_rules.specs.Filled.{filled_bits, filled_octets}
use Rattle.asn_rules.specs.Languages.{Spells, NoSpelling}
use Rattle.asn_rules.specs.Laws.{AreOctets}
use Rattle.asn_rules.specs.OctetStrings.{PackedBits}
use Rattle.asn_rules.proofs.Live.Flat.{flat-ones}
use Rattle.asn_rules.proofs.Octets.BitStrings.{packed_language}
use Rattle.asn_rules.proofs.Octets.Octetwise.{packed_again}
use Rattle.asn_oer.proofs.InPieces.PackedItems.{filled_count}

module _ (n : ℕ) (os : List ℕ) (octets : AreOctets os) where
  again : packed (unpacked os) ≡ os
  again = packed_again os octets

  -- they are the bits
  pub packed_whole : (bs : List Bool) (rest : List ℕ) → length os ≡ filled_octets n → Spells octet_fields (PackedBits n) bs (packed (unpacked os)) rest → Spells octet_fields (PackedBits n) bs os []
  packed_whole bs rest l h = subst (λ (r : List ℕ). Spells octet_fields (PackedBits n) bs os r) (none rest count) here
    where
      here : Spells octet_fields (PackedBits n) bs os rest
      here = subst (λ (us : List ℕ). Spells octet_fields (PackedBits n) bs us rest) again h

      fits : length bs ≡ n
      fits = ((packed_language n).to bs here.chunks here.spelt).fits

      same : here.chunks ≡ ones (filled_bits (map bit_of bs))
      same = ((packed_language n).to bs here.chunks here.spelt).same

      units : length (flat octet_fields.spelled here.chunks) ≡ filled_octets n
      units = ap (λ (cs : List Chunk). length (flat octet_fields.spelled cs)) same ∙ ap (λ (us : List ℕ). length us) (flat-ones octet_fields.spelled (filled_bits (map bit_of bs))) ∙ filled_count (map bit_of bs) ∙ ap filled_octets (length-map bs bit_of ∙ fits)

      count : length rest ≡ 0
      count = omega (arith, ap (λ (us : List ℕ). length us) here.split, length-append (flat octet_fields.spelled here.chunks) rest, units, l)

      none : (r : List ℕ) → length r ≡ 0 → r ≡ []
      none [] e = refl
      none (x ∷ r) e = absurd (omega (arith, e))

  -- they are none
  pub packed_none : NoSpelling octet_fields (PackedBits n) (packed (unpacked os)) → NoSpelling octet_fields (PackedBits n) os
  packed_none h = subst (λ (us : List ℕ). NoSpelling octet_fields (PackedBits n) us) again h
