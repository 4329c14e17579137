-- What is told of octets whose value is put into slots, and of a value in slots that is not encoded.
use Rattle.std.specs.Prelude.{◌≤◌, ℕ, List, length, Result, Ok, Err, ⊤}
use Rattle.asn_values.specs.Datum.{Datum}
use Rattle.asn_values.specs.Shape.{Shape}
use Rattle.asn_rules.specs.Answer.{Ruling, IsEncoding, max_octets}
use Rattle.asn_rules.specs.Codec.{Decoded, NotEncoded}
use Rattle.asn_rules.specs.declared.fault.DecodeFault.{DecodeFault}
use Rattle.asn_rules.specs.declared.fault.EncodeFault.{EncodeFault}
use Rattle.asn_rules.specs.declared.fault.EncodeFault.TheVariants as encode

-- they are the encoding of this value, or the fault that `decode` tells
abbrev pub DecodedAs : Ruling → Result (Unit {0}) DecodeFault → Datum → Shape → List ℕ → Type 0
DecodedAs r (Ok u) d t o = (length o ≤ max_octets) × IsEncoding r t d o
DecodedAs r (Err why) d t o = Decoded r (Err why) t o

-- why the value of slots is not encoded: as `encode` tells, but nothing where memory is wanting
abbrev pub NotWritten : Ruling → EncodeFault → Shape → Datum → Type 0
NotWritten r encode.Memory t d = ⊤
NotWritten r why t d = NotEncoded r why t d
