-- Octets of one set of encoding rules and those of another, for one value.
use Rattle.std.specs.Prelude.{◌≡◌, ◌<◌, ℕ, Result, Ok, Err, List, length, ⊤}
use Rattle.std.specs.Prelude.{Vec}
use Rattle.std.specs.Global.{Global}
use Rattle.asn_values.specs.Datum.{Datum}
use Rattle.asn_values.specs.Shape.{Shape}
use Rattle.asn_values.specs.Profile.{InProfile}
use Rattle.asn_rules.specs.Answer.{Ruling, IsEncoding, max_octets}
use Rattle.asn_rules.specs.Codec.{Decoded}
use Rattle.asn_rules.specs.CodecLaws.{Encoded}
use Rattle.asn_rules.specs.declared.fault.DecodeFault.TheVariants as decode
use Rattle.asn_convert.specs.declared.conversion.ConvertFault.{ConvertFault}
use Rattle.asn_convert.specs.declared.conversion.ConvertFault.TheVariants as fault

-- the octets o by the rules a and p by the rules b are encodings of one value of the type, each of at most max_octets
abbrev pub Converts : Ruling → Ruling → Shape → List ℕ → List ℕ → Type 0
Converts a b t o p = (v : Datum) × Encoded a t v o × Encoded b t v p

-- each encoding of the value has more octets than a message may have
abbrev pub IsTooLong : Ruling → Shape → Datum → Type 0
IsTooLong r t v = (p : List ℕ) → IsEncoding r t v p → max_octets < length p

-- what is told of the octets o: those of the same value by the rules b; why a decoder of the rules a gives no value;
-- that the encodings of the value by b are too long; of the memory, that o is an encoding
abbrev pub Converted : Ruling → Ruling → Result (Vec ℕ Global) ConvertFault → Shape → List ℕ → Type 0
Converted a b (Ok p) t o = Converts a b t o p.items
Converted a b (Err (fault.Read why)) t o = Decoded a (Err why) t o
Converted a b (Err fault.TooLong) t o = (v : Datum) × Encoded a t v o × IsTooLong b t v
Converted a b (Err fault.Memory) t o = (v : Datum) × Encoded a t v o

-- these octets, or want of memory
abbrev pub GivesUnlessMemory : Result (Vec ℕ Global) ConvertFault → List ℕ → Type 0
GivesUnlessMemory (Ok q) p = q.items ≡ p
GivesUnlessMemory (Err (fault.Read decode.Memory)) p = ⊤
GivesUnlessMemory (Err fault.Memory) p = ⊤
GivesUnlessMemory _ p = ⊥

-- what was converted, converted back, gives the octets that it was made of, or want of memory
abbrev pub TurnsBack : Ruling → Ruling → Type 0
TurnsBack a b =
    (t : Shape) (o : List ℕ) (there back : Result (Vec ℕ Global) ConvertFault) (p : Vec ℕ Global) → InProfile t
    → Converted a b there t o → there ≡ Ok p → Converted b a back t p.items → GivesUnlessMemory back o
