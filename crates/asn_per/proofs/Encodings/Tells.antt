-- Readers of PER can tell complete encodings, bit by bit.
use Rattle.std.proofs.Common.{◌≡◌, ◌≢◌, ◌*◌, ◌⊎◌, ℕ, List, [], ◌∷◌, length, length-append, inl, inr, refl, ap, arith}
use Rattle.asn_bits.specs.Numbers.{bits, unpacked}
use Rattle.asn_bits.proofs.Octets.{length-digits, octets_code}
use Rattle.asn_bits.proofs.LongerLengths.{octets_longer}
use Rattle.asn_rules.specs.Chunks.{ones, flat}
use Rattle.asn_rules.specs.Parted.{Parted, SpellingsPart}
use Rattle.asn_rules.specs.Reading.{RulesTell}
use Rattle.asn_rules.proofs.Live.Chunks.{parted_longer}
use Rattle.asn_per.specs.Per.{spelled, per, filling, filled, per_whole}
use Rattle.asn_per.specs.Rules.{per_ruling}
use Rattle.asn_per.proofs.Encodings.Complete.{unpacked-append}
use Rattle.asn_per.proofs.Encodings.Live.{whole_sealed, some_units, open_starts, utf8_starts}
use Rattle.asn_per.proofs.Encodings.Whole.{per_parts}

-- what fills up two spellings does not make them less apart
pub wholes_part : SpellingsPart per_whole
wholes_part t v w h p q = go (per_parts t v w h p q)
  where
    go : ((v ≡ w) × (per t v ≡ per t w)) ⊎ ((v ≢ w) × Parted (per t v) (per t w)) → ((v ≡ w) × (per_whole t v ≡ per_whole t w)) ⊎ ((v ≢ w) × Parted (per_whole t v) (per_whole t w))
    go (inl e) = inl (e.0, ap filled e.1)
    go (inr n) = inr (n.0, parted_longer (per t v) (per t w) (ones (filling (length (flat spelled (per t v))))) (ones (filling (length (flat spelled (per t w))))) n.1)

bits_of_octets : (o : List ℕ) → length (unpacked o) ≡ 8 * length o
bits_of_octets [] = refl
bits_of_octets (o ∷ os) = omega (arith, length-append (bits 8 o) (unpacked os), length-digits 2 8 o, bits_of_octets os)

pub per_tells : RulesTell per_ruling
unfolding per_ruling
per_tells = record {
  weight = 8;
  some = omega arith;
  count = bits_of_octets;
  joined = unpacked-append;
  long = octets_longer;
  units = some_units;
  tells = λ c d s t p q e. (octets_code c d s t p q e).0;
  open_starts = open_starts;
  utf8_starts = utf8_starts;
  sealed = λ t v h f. whole_sealed t v f;
  part = wholes_part;
}
