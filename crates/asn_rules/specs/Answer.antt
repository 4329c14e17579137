-- Encoding rules as such, and what a reader answers to all octets so far.
use Rattle.std.specs.Prelude.{◌≡◌, ◌≤◌, ◌<◌, ℕ, List, length, take}
use Rattle.asn_values.specs.Datum.{Datum}
use Rattle.asn_values.specs.Shape.{Shape}
use Rattle.asn_values.specs.Fits.{Fits}
use Rattle.asn_rules.specs.Chunks.{Chunk, flat}
use Rattle.asn_rules.specs.Live.{Fielding, Live, Place}

-- what a set of encoding rules says
pub record Ruling : Type 0 where
  -- how sealed fields are spelt
  pub fielding : Fielding
  -- the spelling of a whole message, for a value of a type
  pub whole : Shape → Datum → List Chunk
  -- the units of octets
  pub units : List ℕ → List ℕ

-- the octets o are the encoding of the value v of the type t
abbrev pub IsEncoding : Ruling → Shape → Datum → List ℕ → Type 0
IsEncoding r t v o = Fits t v × (r.units o ≡ flat r.fielding.spelled (r.whole t v))

-- the most octets of a message: 2 ^ 28 - 1
abbrev pub max_octets : ℕ
max_octets = 268435455

-- ---- answers

pub data Told : Type 0 where
  -- the value, and how many octets are its encoding
  done : Datum → ℕ → Told
  -- the position, in units
  refused : ℕ → Told
  too_long : Told
  more : Told

-- no front of the octets is an encoding
abbrev pub NoFront : Ruling → Shape → List ℕ → Type 0
NoFront r t s = (v : Datum) (n : ℕ) → n ≤ length s → IsEncoding r t v (take n s) → ⊥

-- an encoding may still follow the octets
abbrev pub LiveOctets : Ruling → Shape → List ℕ → Type 0
LiveOctets r t s = Live r.fielding r.whole t (r.units s)

-- the answer to all octets so far, s, of which there are at most max_octets
abbrev pub Answer : Ruling → Shape → List ℕ → Told → Type 0
Answer r t s (done v n) = (n ≤ length s) × IsEncoding r t v (take n s)
Answer r t s (refused k) = NoFront r t s × Place (Live r.fielding r.whole t) (r.units s) k
Answer r t s too_long = NoFront r t s × LiveOctets r t s × (length s ≡ max_octets)
Answer r t s more = NoFront r t s × LiveOctets r t s × (length s < max_octets)
