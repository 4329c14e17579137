-- Encodings under the limits of the profile before this one, and what encoders and decoders make of them.
use Rattle.std.specs.Prelude.{◌≡◌, ◌≤◌, ◌⊎◌, ℕ, List, length, Result, Ok, Err}
use Rattle.asn_values.specs.declared.value.Value.{Value}
use Rattle.asn_values.specs.Datum.{Datum}
use Rattle.asn_values.specs.Shape.{Shape}
use Rattle.asn_values.specs.Fits.{Limits, FitsUnder}
use Rattle.asn_values.specs.Older.{older_limits}
use Rattle.asn_values.specs.Profile.{InProfileUnder}
use Rattle.asn_values.specs.View.{datum_of}
use Rattle.asn_rules.specs.declared.fault.EncodeFault.{EncodeFault}
use Rattle.asn_rules.specs.declared.fault.EncodeFault.TheVariants as encode
use Rattle.asn_rules.specs.declared.fault.DecodeFault.{DecodeFault}
use Rattle.asn_rules.specs.declared.fault.DecodeFault.TheVariants as decode
use Rattle.asn_rules.specs.Answer.{Ruling, IsEncoding, max_octets}
use Rattle.asn_rules.specs.Chunks.{flat}
use Rattle.asn_rules.specs.Codec.{NotEncoded, Decoded}
use Rattle.asn_rules.specs.Laws.{AreOctets}

-- under these limits the octets o are the encoding of the value v of the type t
abbrev pub IsEncodingUnder : Limits → Ruling → Shape → Datum → List ℕ → Type 0
IsEncodingUnder l r t v o = FitsUnder l t v × (r.units o ≡ flat r.fielding.spelled (r.whole t v))

-- what an encoder of the profile before gave for the value v of one of its types t: octets of at most max_octets
pub record EncodedBefore (r : Ruling) (t : Shape) (v : Datum) (o : List ℕ) : Type 0 where
  pub of_profile : InProfileUnder older_limits t
  pub octets : AreOctets o
  pub encoding : IsEncodingUnder older_limits r t v o
  pub within : length o ≤ max_octets

-- they are the encoding of the value still
abbrev pub StaysEncoding : Ruling → Type 0
StaysEncoding r = (t : Shape) (v : Datum) (o : List ℕ) → EncodedBefore r t v o → IsEncoding r t v o

-- the octets that an encoder gives for the value are these
abbrev pub EncodesAsBefore : Ruling → Type 0
EncodesAsBefore r =
    (t : Shape) (v : Datum) (o p : List ℕ) → EncodedBefore r t v o → AreOctets p → IsEncoding r t v p → p ≡ o

-- where an encoder gives none, it had no memory
abbrev pub OnlyMemoryIsWantingAsBefore : Ruling → Type 0
OnlyMemoryIsWantingAsBefore r =
    (t : Shape) (v : Datum) (o : List ℕ) (why : EncodeFault) → EncodedBefore r t v o → NotEncoded r why t v
    → why ≡ encode.Memory

-- to the octets a decoder answers the value, or Memory
abbrev pub DecodesAsBefore : Ruling → Type 0
DecodesAsBefore r =
    (t : Shape) (v : Datum) (o : List ℕ) (answer : Result Value DecodeFault) → EncodedBefore r t v o
    → Decoded r answer t o → ((w : Value) × (answer ≡ Ok w) × (datum_of w ≡ v)) ⊎ (answer ≡ Err decode.Memory)
