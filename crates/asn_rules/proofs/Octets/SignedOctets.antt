-- Integers in the fewest octets of two's complement after their count, in bits and in octets.
use Rattle.std.proofs.Common.{◌≡◌, ◌*◌, ℕ, subst, arith}
use Rattle.asn_bits.specs.Sets.{InDigits}
use Rattle.asn_rules.specs.Counted.{SomeOf, Counted, signed_number, LeastSigned}
use Rattle.asn_rules.specs.Languages.{Plain}
use Rattle.asn_rules.specs.OffsetSets.{HasInteger, StandsFor, SignedIn, UnconstrainedIn}
use Rattle.asn_rules.specs.declared.signed_reader.OffsetSet.{OffsetSet}
use Rattle.asn_rules.specs.OctetReading.{CountedSignedIn, SignedOctetsIn}
use Rattle.asn_rules.proofs.Octets.Octetwise.{InOctets, number_octets, then_octets, map_octets}

-- a count in an octet, and this many octets
counted_in_octets : (T : ℕ → ℕ → Type 0) → InOctets (Counted 2 8 T) (Counted 256 1 T)
counted_in_octets T = then_octets (number_octets 1 (SomeOf T)) after
  where
    after : (k : ℕ) → InOctets (Plain (InDigits 2 (8 * k) (T k))) (Plain (InDigits 256 (1 * k) (T k)))
    after k = let e : k ≡ 1 * k = omega arith in subst (λ (i : ℕ). InOctets (Plain (InDigits 2 (8 * k) (T k))) (Plain (InDigits 256 i (T k)))) e (number_octets k (T k))

pub signed_in_octets : (s : OffsetSet) → InOctets (UnconstrainedIn s) (CountedSignedIn s)
signed_in_octets s = map_octets signed_number (counted_in_octets (LeastSigned (λ z. HasInteger s z)))

pub fixed_in_octets : (k : ℕ) (s : OffsetSet) → InOctets (SignedIn k s) (SignedOctetsIn k s)
fixed_in_octets k s = map_octets (λ n. signed_number (k, n)) (number_octets k (StandsFor s k))
