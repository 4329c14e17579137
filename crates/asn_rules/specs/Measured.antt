-- What is told of the length of an encoding, and what is put into octets that are there, for any encoding rules.
use Rattle.std.specs.Prelude.{◌≡◌, ◌≤◌, ◌<◌, ◌++◌, ℕ, List, length, drop}
use Rattle.asn_values.specs.Datum.{Datum}
use Rattle.asn_values.specs.Shape.{Shape}
use Rattle.asn_values.specs.Fits.{Fits}
use Rattle.asn_rules.specs.declared.fault.LengthFault.{LengthFault}
use Rattle.asn_rules.specs.declared.fault.LengthFault.TheVariants as length_fault
use Rattle.asn_rules.specs.declared.fault.EncodeIntoFault.{EncodeIntoFault}
use Rattle.asn_rules.specs.declared.fault.EncodeIntoFault.TheVariants as into
use Rattle.asn_rules.specs.Answer.{Ruling, IsEncoding, max_octets}
use Rattle.asn_rules.specs.Laws.{AreOctets}

-- the encoding of the value v of the type t has n octets
pub record IsLength (r : Ruling) (t : Shape) (v : Datum) (n : ℕ) : Type 0 where
  pub octets : List ℕ
  pub are_octets : AreOctets octets
  pub encoding : IsEncoding r t v octets
  pub long : n ≡ length octets
  pub within : n ≤ max_octets

-- each encoding of the value v of the type t, which it is, is too long
abbrev pub IsTooLong : Ruling → Shape → Datum → Type 0
IsTooLong r t v = Fits t v × ((o : List ℕ) → IsEncoding r t v o → max_octets < length o)

-- why no length is told: the value is none of the type, or each encoding of it is too long
abbrev pub NotMeasured : Ruling → LengthFault → Shape → Datum → Type 0
NotMeasured r length_fault.NotOfType t v = Fits t v → ⊥
NotMeasured r length_fault.TooLong t v = IsTooLong r t v

-- the octets begin with the encoding of the value now, which has n octets, and those after it are as they were
pub record Placed (r : Ruling) (t : Shape) (v : Datum) (n : ℕ) (old new : List ℕ) : Type 0 where
  pub octets : List ℕ
  pub encoding : IsEncoding r t v octets
  pub long : n ≡ length octets
  pub within : n ≤ max_octets
  pub enough : n ≤ length old
  pub placed : new ≡ octets ++ drop n old

-- why there is no encoding in these octets, which are as they were: the value is none of the type, each encoding of it
-- is too long, or it has more octets than there are
abbrev pub NotPlaced : Ruling → EncodeIntoFault → Shape → Datum → List ℕ → List ℕ → Type 0
NotPlaced r into.NotOfType t v old new = (Fits t v → ⊥) × (new ≡ old)
NotPlaced r into.TooLong t v old new = IsTooLong r t v × (new ≡ old)
NotPlaced r (into.Short wanted) t v old new = (length old < wanted) × IsLength r t v wanted × (new ≡ old)
