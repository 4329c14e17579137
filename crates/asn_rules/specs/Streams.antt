-- What is read of a stream of encodings that stand one after the other.
use Rattle.std.specs.Prelude.{◌≡◌, ℕ, Bool, true, false, Result, Ok, Err, List, [], ◌++◌, Option, Some, None, ⊤}
use Rattle.std.specs.Io.KnownBytes.{Consumes, IsAtEnd}
use Rattle.asn_values.specs.Shape.{Shape}
use Rattle.asn_values.specs.View.{datum_of}
use Rattle.asn_values.specs.declared.value.Value.{Value}
use Rattle.asn_rules.specs.Answer.{Ruling, IsEncoding}
use Rattle.asn_rules.specs.Codec.{DecodedFront}
use Rattle.asn_rules.specs.declared.fault.DecodeFault.{DecodeFault}
use Rattle.asn_rules.specs.declared.fault.DecodeFault.TheVariants as decode
use Rattle.asn_rules.specs.declared.streams.StreamFault.{StreamFault}
use Rattle.asn_rules.specs.declared.streams.StreamFault.TheVariants as fault

-- the octets of a stream that were read and belong to no message yet, and those that its reader is to give, where these
-- are known
pub record Stream : Type 0 where
  pub held : List ℕ
  pub given : Option (List ℕ)

abbrev pub stream_of : List ℕ → Option (List ℕ) → Stream
stream_of held given = record { held = held; given = given }

-- the reader gave some octets, which with those held before are these
abbrev pub Brings : Stream → Stream → List ℕ → Type 0
Brings old new octets = (more : List ℕ) × Consumes old.given new.given more × (old.held ++ more ≡ octets)

-- an encoding that more octets could still go on
abbrev pub IsCut : DecodeFault → Type 0
IsCut (decode.Truncated taken) = ⊤
IsCut _ = ⊥

-- What is told of the next message, where v is the value that is there then. True: the octets held and given so far
-- were the encoding of v and those that are held now. False: there were none, and the reader is at its end. A fault of
-- a message: what `decode_front_into` tells of the octets held now, which are all octets so far; that they are cut
-- short only at the reader's end. No octets: the type has a value whose encoding has none.
abbrev pub NextTold : Ruling → Shape → Result Bool StreamFault → Value → Stream → Stream → Type 0
NextTold r t (Ok true) v old new = (o : List ℕ) × IsEncoding r t (datum_of v) o × Brings old new (o ++ new.held)
NextTold r t (Ok false) v old new = Brings old new [] × (new.held ≡ []) × IsAtEnd new.given
NextTold r t (Err (fault.Message why)) v old new =
    Brings old new new.held × DecodedFront r (Err why) v t new.held × (IsCut why → IsAtEnd new.given)
NextTold r t (Err fault.NoOctets) v old new = Brings old new new.held × IsEncoding r t (datum_of v) []
NextTold r t (Err (fault.Read why)) v old new = Brings old new new.held

-- ---- its parts

-- what is told of the octets held: v has the encoding that they began with, and the others are held now (none); they
-- are this many units of an encoding that is cut short; or another fault
abbrev pub FrontTold : Ruling → Shape → Result (Option ℕ) StreamFault → Value → List ℕ → List ℕ → Type 0
FrontTold r t (Ok None) v old new = (o : List ℕ) × IsEncoding r t (datum_of v) o × (o ++ new ≡ old)
FrontTold r t (Ok (Some taken)) v old new = (new ≡ old) × DecodedFront r (Err (decode.Truncated taken)) v t new
FrontTold r t (Err (fault.Message why)) v old new =
    (new ≡ old) × DecodedFront r (Err why) v t new × (IsCut why → ⊥)
FrontTold r t (Err fault.NoOctets) v old new = (new ≡ old) × IsEncoding r t (datum_of v) []
FrontTold r t (Err (fault.Read why)) v old new = ⊥

-- what a reader may end a piece with: a fault of its own, or of memory
abbrev pub IsReadFault : StreamFault → Type 0
IsReadFault (fault.Message decode.Memory) = ⊤
IsReadFault (fault.Read why) = ⊤
IsReadFault _ = ⊥
