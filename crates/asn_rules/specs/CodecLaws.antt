-- What follows for every encoder and every decoder that answer as Codec says, whatever the encoding rules.
use Rattle.std.specs.Prelude.{◌≡◌, ◌≢◌, ◌≤◌, ◌↔◌, ◌⊎◌, ℕ, List, length, take, Result, Ok, Err, ⊤}
use Rattle.asn_values.specs.declared.value.Value.{Value}
use Rattle.asn_values.specs.Datum.{Datum}
use Rattle.asn_values.specs.Shape.{Shape}
use Rattle.asn_values.specs.Profile.{InProfile}
use Rattle.asn_values.specs.View.{datum_of}
use Rattle.asn_rules.specs.declared.fault.EncodeFault.{EncodeFault}
use Rattle.asn_rules.specs.declared.fault.EncodeFault.TheVariants as encode
use Rattle.asn_rules.specs.declared.fault.DecodeFault.{DecodeFault}
use Rattle.asn_rules.specs.declared.fault.DecodeFault.TheVariants as decode
use Rattle.asn_rules.specs.Answer.{Ruling, IsEncoding, max_octets}
use Rattle.asn_rules.specs.Codec.{NotEncoded, Decoded}
use Rattle.asn_rules.specs.Laws.{AreOctets}
use Rattle.asn_rules.specs.Live.{BeginsProperly}

-- what an encoder gives for the value v of the type t: the octets of its encoding, of at most max_octets octets
pub record Encoded (r : Ruling) (t : Shape) (v : Datum) (o : List ℕ) : Type 0 where
  pub octets : AreOctets o
  pub encoding : IsEncoding r t v o
  pub within : length o ≤ max_octets

-- ---- what was encoded is decoded, and what was decoded is encoded

-- to the octets of a value a decoder answers that value, or Memory
abbrev pub DecodesTheEncoded : Ruling → Type 0
DecodesTheEncoded r =
    (t : Shape) (v : Datum) (o : List ℕ) (answer : Result Value DecodeFault) → InProfile t → Encoded r t v o
    → Decoded r answer t o
    → ((w : Value) × (answer ≡ Ok w) × (datum_of w ≡ v)) ⊎ (answer ≡ Err decode.Memory)

-- a value that a decoder answered has the octets that it was given as its encoding, and no others
abbrev pub EncodesTheDecoded : Ruling → Type 0
EncodesTheDecoded r =
    (t : Shape) (v : Value) (o p : List ℕ) → InProfile t → AreOctets o → AreOctets p → Decoded r (Ok v) t o
    → IsEncoding r t (datum_of v) p ↔ (p ≡ o)

-- where an encoder gives no octets for such a value, it had no memory
abbrev pub OnlyMemoryIsWanting : Ruling → Type 0
OnlyMemoryIsWanting r =
    (t : Shape) (v : Value) (o : List ℕ) (why : EncodeFault) → Decoded r (Ok v) t o → NotEncoded r why t (datum_of v)
    → why ≡ encode.Memory

-- values are equal exactly where their octets are
abbrev pub EqualExactly : Ruling → Type 0
EqualExactly r =
    (t : Shape) (v w : Datum) (o p : List ℕ) → InProfile t → AreOctets o → AreOctets p → IsEncoding r t v o
    → IsEncoding r t w p → (v ≡ w) ↔ (o ≡ p)

-- ---- more octets than an encoding, and fewer

-- where octets follow the encoding of a value, a decoder tells where it ends, or Memory
abbrev pub TellsTheRest : Ruling → Type 0
TellsTheRest r =
    (t : Shape) (v : Datum) (o s : List ℕ) (answer : Result Value DecodeFault) → InProfile t → AreOctets s
    → Encoded r t v o → BeginsProperly o s
    → Decoded r answer t s → (answer ≡ Err (decode.Rest (length o))) ⊎ (answer ≡ Err decode.Memory)

-- the first n of the octets s are what an encoder gives for a value, and no other front of s is an encoding
pub record OneFront (r : Ruling) (t : Shape) (s : List ℕ) (n : ℕ) : Type 0 where
  pub value : Datum
  pub encoded : Encoded r t value (take n s)
  pub only : (w : Datum) (m : ℕ) → m ≤ length s → IsEncoding r t w (take m s) → (w ≡ value) × (m ≡ n)

-- where a decoder tells that octets follow, those in front are such
abbrev pub RestFollowsOneFront : Ruling → Type 0
RestFollowsOneFront r =
    (t : Shape) (s : List ℕ) (used : ℕ) → InProfile t → AreOctets s → Decoded r (Err (decode.Rest used)) t s
    → OneFront r t s used

-- to octets that a cut has left of an encoding a decoder answers that they are cut short, and how many units
-- they are, or Memory
abbrev pub TellsTheCut : Ruling → Type 0
TellsTheCut r =
    (t : Shape) (v : Datum) (o s : List ℕ) (answer : Result Value DecodeFault) → InProfile t → Encoded r t v o
    → BeginsProperly s o
    → Decoded r answer t s → (answer ≡ Err (decode.Truncated (length (r.units s)))) ⊎ (answer ≡ Err decode.Memory)

-- ---- one answer

-- both are values and stand for one, or both tell the same fault; of a refusal they tell the same position, and
-- may tell different reasons
abbrev pub SayTheSame : Result Value DecodeFault → Result Value DecodeFault → Type 0
SayTheSame (Ok v) (Ok w) = datum_of v ≡ datum_of w
SayTheSame (Err (decode.Refused at why)) (Err (decode.Refused at' reason)) = at ≡ at'
SayTheSame (Err (decode.Truncated taken)) (Err (decode.Truncated count)) = taken ≡ count
SayTheSame (Err (decode.Rest used)) (Err (decode.Rest count)) = used ≡ count
SayTheSame (Err decode.TooLong) (Err decode.TooLong) = ⊤
SayTheSame _ _ = ⊥

-- two answers to the same octets, neither being Memory, say the same
abbrev pub DecodersAgree : Ruling → Type 0
DecodersAgree r =
    (t : Shape) (o : List ℕ) (a b : Result Value DecodeFault) → InProfile t → AreOctets o → Decoded r a t o
    → Decoded r b t o
    → a ≢ Err decode.Memory → b ≢ Err decode.Memory → SayTheSame a b
