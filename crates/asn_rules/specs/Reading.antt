-- What of encoding rules makes their readers exact.
use Rattle.std.specs.Prelude.{◌≡◌, ◌-◌, ◌*◌, ◌<◌, ◌≤◌, ℕ, List, [], ◌∷◌, ◌++◌, length, drop, ⊤}
use Rattle.std.specs.List.{AllByRecursion}
use Rattle.asn_values.specs.Datum.{Datum}
use Rattle.asn_values.specs.Shape.{Shape}
use Rattle.asn_values.specs.Fits.{Fits}
use Rattle.asn_values.specs.Profile.{InProfile}
use Rattle.asn_rules.specs.Chunks.{Kind, open_field, utf8_field, rest_of, Chunk, one, sealed}
use Rattle.asn_rules.specs.Live.{Fielding, IsContent, Free, Bounded}
use Rattle.asn_rules.specs.Parted.{SpellingsPart}
use Rattle.asn_rules.specs.Languages.{Spells, Short, Refused}
use Rattle.asn_rules.specs.Answer.{Ruling, IsEncoding, Answer, done, refused, too_long, more, max_octets}
use Rattle.asn_rules.specs.Spellings.{SpelledBy}

-- a field as spellings of values have it: whole, and its content is one that the kind may have, but for
-- the length of an open field
abbrev pub IsSealed : Fielding → Kind → List ℕ → Type 0
IsSealed r open_field c = Bounded open_field c → IsContent r open_field c
IsSealed r utf8_field c = Bounded utf8_field c → IsContent r utf8_field c
IsSealed r (rest_of k us) c = ⊥

-- each sealed field of the chunks is such a field
abbrev pub AllSealed : Fielding → List Chunk → Type 0
AllSealed r [] = ⊤
AllSealed r (one x ∷ cs) = AllSealed r cs
AllSealed r (sealed k c ∷ cs) = IsSealed r k c × AllSealed r cs

-- the whole encodings of a type's values
abbrev pub Wholes : Ruling → Shape → Datum → List Chunk → Type 0
Wholes r t = SpelledBy (Fits t) (r.whole t)

-- the content of an open field that holds the value
pub record Holds (r : Ruling) (t : Shape) (v : Datum) (c : List ℕ) : Type 0 where
  pub octets : AllByRecursion (λ o. o < 256) c
  pub encoding : IsEncoding r t v c

-- rules whose whole encodings a reader can tell, unit by unit
pub record RulesTell (r : Ruling) : Type 0 where
  -- this many units are an octet, and those of octets are the units of each, one after the other
  pub weight : ℕ
  pub some : 1 ≤ weight
  pub count : (o : List ℕ) → length (r.units o) ≡ weight * length o
  pub joined : (o p : List ℕ) → r.units (o ++ p) ≡ r.units o ++ r.units p
  -- a sealed field is at least as long as its content, is not empty, and begins no other
  pub long : (c : List ℕ) → weight * length c ≤ length (r.fielding.spelled c)
  pub units : (c : List ℕ) → 0 < length (r.fielding.spelled c)
  pub tells : (c d s t : List ℕ) → AllByRecursion (λ o. o < 256) c → AllByRecursion (λ o. o < 256) d
      → r.fielding.spelled c ++ s ≡ r.fielding.spelled d ++ t → c ≡ d
  -- a field of each kind may stand somewhere
  pub open_starts : Free r.fielding open_field []
  pub utf8_starts : Free r.fielding utf8_field []
  -- the fields of whole encodings are such, and two encodings are one or part
  pub sealed : (t : Shape) (v : Datum) → InProfile t → Fits t v → AllSealed r.fielding (r.whole t v)
  pub part : SpellingsPart r.whole

-- ---- what follows

-- of one list of units there is one reading: a front that is the whole encoding of one value, or one refused
-- unit, or neither
pub record HasOneReading (r : Ruling) (t : Shape) (us : List ℕ) : Type 0 where
  pub done : (v w : Datum) (x y : List ℕ) → Spells r.fielding (Wholes r t) v us x
      → Spells r.fielding (Wholes r t) w us y → (v ≡ w) × (x ≡ y)
  pub refused : (m n : ℕ) → Refused r.fielding (Wholes r t) us m → Refused r.fielding (Wholes r t) us n → m ≡ n
  pub done_or_refused : (v : Datum) (x : List ℕ) (n : ℕ) → Spells r.fielding (Wholes r t) v us x
      → Refused r.fielding (Wholes r t) us n → ⊥
  pub done_or_short : (v : Datum) (x : List ℕ) → Spells r.fielding (Wholes r t) v us x
      → Short r.fielding (Wholes r t) us → ⊥
  pub refused_or_short : (n : ℕ) → Refused r.fielding (Wholes r t) us n → Short r.fielding (Wholes r t) us → ⊥

-- the readings of the units of octets as answers to the octets
pub record ReadingsAnswer (r : Ruling) (t : Shape) (s : List ℕ) : Type 0 where
  -- the units after the value's are those of the octets after the first n
  pub value : (v : Datum) (n : ℕ) (rest : List ℕ) → n ≤ length s → length rest ≡ length (r.units (drop n s))
      → Spells r.fielding (Wholes r t) v (r.units s) rest → Answer r t s (done v n)
  -- the position is told by the number of units after it
  pub place : (left : ℕ) → length s ≤ max_octets → Refused r.fielding (Wholes r t) (r.units s) left
      → Answer r t s (refused (length (r.units s) - left))
  pub wanting : length s < max_octets → Short r.fielding (Wholes r t) (r.units s) → Answer r t s more
  pub at_the_limit : length s ≡ max_octets → Short r.fielding (Wholes r t) (r.units s) → Answer r t s too_long
