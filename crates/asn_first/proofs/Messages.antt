-- Octets for which a decoder gives no value are no message, and a message has one spelling in octets.
use Rattle.std.proofs.Common.{◌≡◌, ◌≢◌, ◌≤◌, ℕ, List, length, Ok, Err, ⊎_elim, refl, subst, arith}
use Rattle.asn_values.specs.Datum.{Datum}
use Rattle.asn_values.specs.declared.value.Value.{Value}
use Rattle.asn_values.specs.View.{datum_of}
use Rattle.asn_values.specs.Shape.{Shape}
use Rattle.asn_values.specs.Profile.{EmptyRange, SizeTooLarge, DuplicateName, BadEnumeration, UselessMark, BadDefault, ZeroWidthElement, AdditionNotOptional, TooMany, TooDeep, InProfile}
use Rattle.hex.specs.Hex.{decode_of}
use Rattle.hex.proofs.HexLemmas.{decode_of-same, decode_of-ok}
use Rattle.asn_rules.specs.Answer.{max_octets}
use Rattle.asn_rules.specs.Codec.{Decoded}
use Rattle.asn_rules.specs.Laws.{AreOctets}
use Rattle.asn_rules.specs.declared.fault.DecodeFault.{DecodeFault}
use Rattle.asn_rules.specs.declared.fault.DecodeFault.TheVariants as decode
use Rattle.asn_rules.proofs.Answer.CodecLaws.{each_octet, decodes_encoded}
use Rattle.asn_per.specs.Rules.{per_ruling, IsPerEncoding}
use Rattle.asn_walk.proofs.Decoding.{take_all}
use Rattle.asn_per.proofs.Encodings.Whole.{per_laws}
use Rattle.asn_first.specs.Lines.{sample_shape, IsMessage, IsNoMessage}

-- the type of the line is one of the profile
sample_in_profile : InProfile sample_shape
sample_in_profile EmptyRange = refl
sample_in_profile SizeTooLarge = refl
sample_in_profile DuplicateName = refl
sample_in_profile BadEnumeration = refl
sample_in_profile UselessMark = refl
sample_in_profile BadDefault = refl
sample_in_profile ZeroWidthElement = refl
sample_in_profile AdditionNotOptional = refl
sample_in_profile TooMany = refl
sample_in_profile TooDeep = refl

-- octets that a decoder gives no value for are no encoding
none_decoded : (t : Shape) (o : List ℕ) (v : Datum) (why : DecodeFault) → InProfile t → AreOctets o → length o ≤ max_octets → why ≢ decode.Memory → Decoded per_ruling (Err why) t o → IsPerEncoding t v o → ⊥
none_decoded t o v why p os few h d whole =
    ⊎_elim (λ w. cc (w.1)) (λ e. h cc) (decodes_encoded per_ruling per_laws t v o (Err why) p (record { octets = os; encoding = whole; within = few }) d)

-- so the line that has them is no message
pub no_message : (line o : List ℕ) (why : DecodeFault) → decode_of line ≡ Ok o → why ≢ decode.Memory → Decoded per_ruling (Err why) sample_shape o → IsNoMessage line
no_message line o why e h d other v m =
    let same : other ≡ o = decode_of-same line other o m.digits e in
    none_decoded sample_shape o v why sample_in_profile (each_octet o (decode_of-ok line o e).3) (subst (λ (l : List ℕ). length l ≤ max_octets) same m.few) h d (subst (IsPerEncoding sample_shape v) same m.encoding)

-- and where it gives a value, the line is a message
pub message : (line o : List ℕ) (v : Value) → decode_of line ≡ Ok o → Decoded per_ruling (Ok v) sample_shape o → IsMessage line o (datum_of v)
message line o v e d = record {
  digits = e;
  few = d.0;
  encoding = subst (IsPerEncoding sample_shape (datum_of v)) (take_all (length o) o (omega arith)) d.1.1;
}

-- the octets that are encoded again are those of the message
pub same_again : (line o again : List ℕ) (v : Datum) → AreOctets again → IsMessage line o v → IsPerEncoding sample_shape v again → again ≡ o
same_again line o again v os m second =
    per_laws.one_encoding sample_shape v again o sample_in_profile os (each_octet o (decode_of-ok line o m.digits).3) second m.encoding
