-- The laws that encoding rules keep for every type of the profile.
use Rattle.std.specs.Prelude.{◌≡◌, ◌<◌, ◌≤◌, ◌↔◌, ℕ, List, [], ◌++◌, length}
use Rattle.std.specs.List.{AllByRecursion}
use Rattle.asn_values.specs.Datum.{Datum}
use Rattle.asn_values.specs.Shape.{Shape}
use Rattle.asn_values.specs.Profile.{InProfile}
use Rattle.asn_values.specs.Fits.{Fits}
use Rattle.asn_rules.specs.Chunks.{Chunk, flat}
use Rattle.asn_rules.specs.Live.{Begins, Fielding, Live, LiveByChunks}
use Rattle.asn_rules.specs.Answer.{Ruling, IsEncoding, Told, refused, Answer, max_octets}

-- numbers below 256
abbrev pub AreOctets : List ℕ → Type 0
AreOctets os = AllByRecursion (λ o. o < 256) os

-- ---- values

-- each type of the profile has a value
abbrev pub EachHasAValue : Type 0
EachHasAValue = (t : Shape) → InProfile t → (v : Datum) × Fits t v

-- ---- spellings, as a function of a type and its value

-- two spellings at the front of one list of units are one, of one value
abbrev pub UnitsTellTheValue : (Shape → Datum → List ℕ) → Type 0
UnitsTellTheValue units_of =
    (t : Shape) (v w : Datum) (r s : List ℕ) → InProfile t → Fits t v → Fits t w → units_of t v ++ r ≡ units_of t w ++ s
    → (v ≡ w) × (r ≡ s)

-- octets are the encoding of one value only
abbrev pub OneValue : (Shape → Datum → List ℕ) → Type 0
OneValue octets_of = (t : Shape) (v w : Datum) → InProfile t → Fits t v → Fits t w → octets_of t v ≡ octets_of t w
    → v ≡ w

-- no encoding begins another
abbrev pub NoneBegins : (Shape → Datum → List ℕ) → Type 0
NoneBegins octets_of =
    (t : Shape) (v w : Datum) (rest : List ℕ) → InProfile t → Fits t v → Fits t w
    → octets_of t v ++ rest ≡ octets_of t w → (v ≡ w) × (rest ≡ [])

-- ---- encoding rules

-- one encoding for each value, one value for each encoding, and none begins another
pub record RulesLaws (r : Ruling) : Type 0 where
  -- an encoding has one value
  pub one_value : (t : Shape) (v w : Datum) (o : List ℕ) → InProfile t → IsEncoding r t v o → IsEncoding r t w o → v ≡ w
  -- a value that fits has an encoding
  pub encoding : (t : Shape) (v : Datum) → InProfile t → Fits t v → (o : List ℕ) × AreOctets o × IsEncoding r t v o
  -- and no other
  pub one_encoding : (t : Shape) (v : Datum) (o p : List ℕ) → InProfile t → AreOctets o → AreOctets p
      → IsEncoding r t v o → IsEncoding r t v p → o ≡ p
  -- no encoding begins another
  pub none_begins : (t : Shape) (v w : Datum) (o p : List ℕ) → InProfile t → AreOctets o → AreOctets p
      → IsEncoding r t v o → IsEncoding r t w p → Begins o p → o ≡ p

-- what these laws follow from, said of whole encodings in units
pub record WholesTell (r : Ruling) : Type 0 where
  -- a whole encoding that begins another is of the same value
  pub told : (t : Shape) (v w : Datum) (rest : List ℕ) → InProfile t → Fits t v → Fits t w
      → flat r.fielding.spelled (r.whole t v) ++ rest ≡ flat r.fielding.spelled (r.whole t w) → v ≡ w
  -- a whole encoding is the units of some octets
  pub filled : (t : Shape) (v : Datum) → InProfile t → Fits t v
      → (o : List ℕ) × AreOctets o × (r.units o ≡ flat r.fielding.spelled (r.whole t v))
  -- the units of octets are those of each octet, one after the other
  pub joined : (o p : List ℕ) → r.units (o ++ p) ≡ r.units o ++ r.units p
  -- and tell the octets
  pub once : (o p : List ℕ) → AreOctets o → AreOctets p → r.units o ≡ r.units p → o ≡ p

-- the encoding of a value is that list of octets
abbrev pub EncodesAs : Ruling → (Shape → Datum → List ℕ) → Type 0
EncodesAs r octets_of =
    (t : Shape) (v : Datum) (o : List ℕ) → InProfile t → AreOctets o
    → IsEncoding r t v o ↔ (Fits t v × (o ≡ octets_of t v))

-- ---- live

-- if some encoding extends these units, one extends each prefix of them
abbrev pub LiveIsClosed : Fielding → (Shape → Datum → List Chunk) → Type 0
LiveIsClosed r whole = (t : Shape) (x y : List ℕ) → Live r whole t (x ++ y) → Live r whole t x

-- live by units and sealed fields is live chunk by chunk
abbrev pub LiveByParts : Fielding → (Shape → Datum → List Chunk) → Type 0
LiveByParts r whole = (t : Shape) → InProfile t → (b : List ℕ) → Live r whole t b ↔ LiveByChunks r whole t b

-- each beginning of an encoding, in units, is live
abbrev pub BeginningsAreLive : Ruling → Type 0
BeginningsAreLive r =
    (t : Shape) (v : Datum) (o x y : List ℕ) → InProfile t → length o ≤ max_octets → IsEncoding r t v o
    → r.units o ≡ x ++ y → Live r.fielding r.whole t x

-- ---- answers

-- to no beginning of an encoding, in octets, the answer is that it is refused
abbrev pub BeginningsAreNotRefused : Ruling → Type 0
BeginningsAreNotRefused r =
    (t : Shape) (v : Datum) (s rest : List ℕ) (place : ℕ) → InProfile t → length (s ++ rest) ≤ max_octets
    → IsEncoding r t v (s ++ rest) → Answer r t s (refused place) → ⊥

-- two answers to one list of octets are one
abbrev pub OneAnswer : Ruling → Type 0
OneAnswer r = (t : Shape) (s : List ℕ) (a b : Told) → InProfile t → AreOctets s → Answer r t s a → Answer r t s b
    → a ≡ b
