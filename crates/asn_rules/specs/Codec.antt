-- What an encoder and a decoder of whole messages answer, for any encoding rules.
use Rattle.std.specs.Prelude.{◌≡◌, ◌<◌, ◌≤◌, ℕ, Result, Ok, Err, List, length, take, ⊤}
use Rattle.asn_values.specs.declared.value.Value.{Value}
use Rattle.asn_values.specs.Datum.{Datum}
use Rattle.asn_values.specs.Shape.{Shape}
use Rattle.asn_values.specs.Fits.{Fits}
use Rattle.asn_values.specs.View.{datum_of}
use Rattle.asn_rules.specs.declared.fault.EncodeFault.{EncodeFault}
use Rattle.asn_rules.specs.declared.fault.EncodeFault.TheVariants as encode
use Rattle.asn_rules.specs.declared.fault.DecodeFault.{DecodeFault}
use Rattle.asn_rules.specs.declared.fault.DecodeFault.TheVariants as decode
use Rattle.asn_rules.specs.Answer.{Ruling, IsEncoding, Answer, done, refused, too_long, more, max_octets}

-- why the value v of the type t is not encoded: it is none of the type; it is one, and each encoding of it
-- is too long; it is one, and an allocation failed
abbrev pub NotEncoded : Ruling → EncodeFault → Shape → Datum → Type 0
NotEncoded r encode.NotOfType t v = Fits t v → ⊥
NotEncoded r encode.TooLong t v = Fits t v × ((o : List ℕ) → IsEncoding r t v o → max_octets < length o)
NotEncoded r encode.Memory t v = Fits t v

-- What is told of the octets o, of which the first max_octets are read at most. A value: all of them are its
-- encoding. Refused: at this unit, counted from 1, the first after which no encoding can follow. Truncated: an
-- encoding may still follow all of them, which are this many units. Rest: this many octets, and not all, are the
-- encoding of some value. Too long: an encoding may still follow, but only one of more than max_octets. Of the
-- memory nothing is told.
abbrev pub Decoded : Ruling → Result Value DecodeFault → Shape → List ℕ → Type 0
Decoded r (Ok v) t o = (length o ≤ max_octets) × Answer r t o (done (datum_of v) (length o))
Decoded r (Err (decode.Refused at why)) t o = Answer r t (take max_octets o) (refused at)
Decoded r (Err (decode.Truncated taken)) t o = (taken ≡ length (r.units o)) × Answer r t o more
Decoded r (Err (decode.Rest used)) t o = (used < length o) × (d : Datum) × Answer r t (take max_octets o) (done d used)
Decoded r (Err decode.TooLong) t o = Answer r t (take max_octets o) too_long
Decoded r (Err decode.Memory) t o = ⊤

-- What is told of the encoding that the octets o begin with, of which the first max_octets are read at most: how many
-- octets it has, and its value, which is v then; or why none is found, as above. What follows it is not looked at, so
-- no rest is told.
abbrev pub DecodedFront : Ruling → Result ℕ DecodeFault → Value → Shape → List ℕ → Type 0
DecodedFront r (Ok used) v t o = Answer r t (take max_octets o) (done (datum_of v) used)
DecodedFront r (Err (decode.Refused at why)) v t o = Answer r t (take max_octets o) (refused at)
DecodedFront r (Err (decode.Truncated taken)) v t o = (taken ≡ length (r.units o)) × Answer r t o more
DecodedFront r (Err (decode.Rest used)) v t o = ⊥
DecodedFront r (Err decode.TooLong) v t o = Answer r t (take max_octets o) too_long
DecodedFront r (Err decode.Memory) v t o = ⊤
