-- What an encoder that writes to a writer answers, for any encoding rules.
use Rattle.std.specs.Prelude.{◌≡◌, ◌≤◌, ◌<◌, ◌++◌, ℕ, List, length}
use Rattle.std.specs.Io.KnownBytes.{Appends}
use Rattle.asn_values.specs.Datum.{Datum}
use Rattle.asn_values.specs.Shape.{Shape}
use Rattle.asn_values.specs.Fits.{Fits}
use Rattle.asn_rules.specs.declared.fault.EncodeToFault.{EncodeToFault}
use Rattle.asn_rules.specs.declared.fault.EncodeToFault.TheVariants as encode
use Rattle.asn_rules.specs.Answer.{Ruling, IsEncoding, max_octets}
use Rattle.asn_rules.specs.Faults.{State, Rose}
use Rattle.asn_rules.specs.Laws.{AreOctets}

-- the encoding of the value v of the type t was written, and there was no fault
pub record Encoded (r : Ruling) (t : Shape) (v : Datum) (old new : State) : Type 0 where
  pub octets : List ℕ
  pub are_octets : AreOctets octets
  pub encoding : IsEncoding r t v octets
  pub within : length octets ≤ max_octets
  pub appended : Appends old.octets new.octets octets
  pub faults : new.faults ≡ old.faults

-- the first octets of it were written, and then there was a fault
pub record Interrupted (r : Ruling) (t : Shape) (v : Datum) (sent : ℕ) (old new : State) : Type 0 where
  pub octets : List ℕ
  pub rest : List ℕ
  pub are_octets : AreOctets (octets ++ rest)
  pub encoding : IsEncoding r t v (octets ++ rest)
  pub within : length (octets ++ rest) ≤ max_octets
  pub appended : Appends old.octets new.octets octets
  pub many : sent ≡ length octets
  pub fault : Rose old.faults new.faults

-- Why the value v of the type t was not written: it is none of the type; it is one, and each encoding of it is too
-- long; in both cases the writer is as it was, which `untouched` says. Or a write failed.
abbrev pub NotDelivered : Ruling → EncodeToFault → Shape → Datum → Type 0 → State → State → Type 0
NotDelivered r encode.NotOfType t v untouched old new = (Fits t v → ⊥) × untouched
NotDelivered r encode.TooLong t v untouched old new =
    Fits t v × ((o : List ℕ) → IsEncoding r t v o → max_octets < length o) × untouched
NotDelivered r (encode.Write sent) t v untouched old new = Interrupted r t v sent old new
