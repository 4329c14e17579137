-- What the readers of this walk read, of which they keep nothing, and what is answered of whole messages.
use Rattle.std.specs.Prelude.{◌≤◌, ℕ, Bool, List, Option, Result, Ok, Err, length, take}
use Rattle.asn_values.specs.declared.value.Value.{Value}
use Rattle.asn_values.specs.Datum.{Datum}
use Rattle.asn_values.specs.Shape.{Shape, Fields}
use Rattle.asn_rules.specs.Answer.{Ruling, IsEncoding, Answer, done, max_octets}
use Rattle.asn_rules.specs.Chunks.{Chunk}
use Rattle.asn_rules.specs.Codec.{Decoded, DecodedFront}
use Rattle.asn_rules.specs.declared.fault.DecodeFault.{DecodeFault}
use Rattle.asn_walk.specs.Coding.{Coding}
use Rattle.asn_walk.specs.Reading.{Reads, ReadsRoot}

-- ---- parts

-- a prefix of the units is a spelling of some value of the language, and the others follow it
pub record ReadsSome {V : Type 0} (c : Coding) (L : V → List Chunk → Type 0) (old new : List ℕ) : Type 0 where
  pub value : V
  pub read : Reads c L value old new

-- the same of the root of a SEQUENCE, with this extension bit
pub record ReadsSomeRoot (c : Coding) (root : Fields) (additions : Option ℕ) (extended : Bool) (old new : List ℕ)
    : Type 0 where
  pub entries : List (Option Datum)
  pub read : ReadsRoot c root additions extended entries old new

-- ---- messages

-- what is told of octets: they are the encoding of some value of the type, or the fault that `decode` tells
abbrev pub Checks : Ruling → Result (Unit {0}) DecodeFault → Shape → List ℕ → Type 0
Checks r (Ok u) t o = (length o ≤ max_octets) × (d : Datum) × IsEncoding r t d o
Checks r (Err why) t o = Decoded r (Err why) t o

-- the same of the octets that they begin with: how many the encoding has
abbrev pub ChecksFront : Ruling → Result ℕ DecodeFault → Shape → List ℕ → Type 0
ChecksFront r (Ok used) t o = (d : Datum) × Answer r t (take max_octets o) (done d used)
ChecksFront r (Err why) t o = (v : Value) → DecodedFront r (Err why) v t o
