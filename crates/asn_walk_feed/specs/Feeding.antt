-- What a reader of messages in pieces says, and what a set of encoding rules says of the parts that a piece may cut.
use Rattle.std.specs.Prelude.{◌≡◌, ◌≤◌, ◌<◌, ◌+◌, ◌*◌, ◌%◌, ◌⊎◌, ℕ, List, [], ◌++◌, length, ⊤, nat_lt, Option, Some, None, true}
use Rattle.asn_values.specs.Datum.{Datum}
use Rattle.asn_values.specs.Profile.{InProfile, good_default}
use Rattle.asn_values.specs.Shape.{SizeRange, Shape, boolean, null, integer, enumerated}
use Rattle.asn_bits.specs.Ranges.{Spanned, At}
use Rattle.asn_rules.specs.Chunks.{Chunk}
use Rattle.asn_rules.specs.General.{Length, last, fragment, Header}
use Rattle.asn_rules.specs.Languages.{Short, Map, Nothing}
use Rattle.asn_rules.specs.Listed.{Spelt}
use Rattle.asn_rules.specs.Padding.{Fixed}
use Rattle.asn_rules.specs.declared.stop.Stop.{Stop}
use Rattle.asn_rules.specs.declared.stop.Stop.TheVariants as stop
use Rattle.asn_walk.specs.Ahead.{Ahead, items, lengths, end}
use Rattle.asn_walk.specs.Coding.{Coding, PreambleOf, AdditionBitmapOf, AreFew, IndexOf}
use Rattle.asn_walk.specs.Laws.{IsSizeOfProfile}
use Rattle.asn_walk_feed.specs.Small.{RowLaws}

-- ---- parts of few bits

-- bits that begin a spelling and of which no front is one are few
pub record IsBrief {V : Type 0} (c : Coding) (L : V → List Chunk → Type 0) : Type 0 where
  pub brief : (us : List ℕ) → c.at_unit us → Short c.ruling.fielding L (c.to_units us) → length us ≤ 120

-- simple types that are no strings
abbrev pub IsScalar : Shape → Type 0
IsScalar boolean = ⊤
IsScalar null = ⊤
IsScalar (integer r) = ⊤
IsScalar (enumerated root more) = ⊤
IsScalar _ = ⊥

-- the length that a fragment of a list begins with, as how many items follow it at once, none where the list has ended,
-- and what is ahead after them
abbrev pub next_of : List (ℕ × Option ℕ) → ℕ → Length → Option ℕ × Ahead
next_of counts so_far (last n) = (Some n, end)
next_of counts so_far (fragment m) = (Some (16384 * m), lengths counts (so_far + 16384 * m) (nat_lt m 4))

abbrev pub NextOf : Ahead → Option ℕ × Ahead → List Chunk → Type 0
NextOf (items n) = Nothing (Some n, end)
NextOf end = λ p. Nothing None p.0
NextOf (lengths counts so_far closed) = Map (next_of counts so_far) (Header (At (Spanned counts) so_far closed))

-- the laws that the parts of few bits keep
pub record FeedLaws (c : Coding) : Type 0 where
  pub none : c.to_units [] ≡ []
  pub begin : c.at_unit []
  pub scalar : (t : Shape) → InProfile t → IsScalar t → IsBrief c (Spelt c.code None t)
  pub other : (d : Datum) (t : Shape) → InProfile t → good_default t d ≡ true → IsBrief c (Spelt c.code (Some d) t)
  pub preamble : (n : ℕ) (more : Option ℕ) → n ≤ 64 → IsBrief c (PreambleOf c n more)
  pub bitmap : (n : ℕ) → n ≤ 64 → IsBrief c (AdditionBitmapOf c n)
  pub index : (root : ℕ) (more : Option ℕ) → AreFew root more → IsBrief c (IndexOf c root more)
  pub next : (a : Ahead) → IsBrief c (NextOf a)
  pub list_start : (s : SizeRange) → IsSizeOfProfile s → IsBrief c (c.list_start s)
  pub padding : (n : ℕ) → IsBrief c (Fixed (c.padding n))
  -- pieces are whole octets, so what fills up a message is all there or the message has no unit yet
  pub unfilled : (n : ℕ) (us : List ℕ) → (n + length us) % c.octet_units ≡ 0
      → Short c.ruling.fielding (Fixed (c.padding n)) us → (n ≡ 0) × (us ≡ [])
  pub rows : RowLaws c

-- no unit of the part has come, or some have and more are wanted
abbrev pub HasBegun : {V : Type 0} → Coding → (V → List Chunk → Type 0) → List ℕ → Type 0
HasBegun c L begun = (begun ≡ []) ⊎ Short c.ruling.fielding L (c.to_units begun)

-- a part of which these units have come: none, or some, and more are wanted
pub record Waits {V : Type 0} (c : Coding) (L : V → List Chunk → Type 0) (begun : List ℕ) (us : List ℕ) : Type 0 where
  pub come : c.to_units begun ≡ us
  pub at_unit : c.at_unit begun
  pub begins : HasBegun c L begun

-- ---- units and ticks

-- the next units, which are this many, are added to those of a part: all that are left, or as many as have room
pub record ExtendsBy (c : Coding) (begun begun' units : List ℕ) (count : ℕ) : Type 0 where
  pub front : List ℕ
  pub rest : List ℕ
  pub joined : c.to_units begun' ≡ c.to_units begun ++ front
  pub from : c.to_units units ≡ front ++ rest
  pub many : length front ≡ count
  pub full : (rest ≡ []) ⊎ (120 < length begun')

-- this many units are passed
pub record Passes (c : Coding) (units units' : List ℕ) (count : ℕ) : Type 0 where
  pub front : List ℕ
  pub from : c.to_units units ≡ front ++ c.to_units units'
  pub many : length front ≡ count

-- each unit that was taken ticked
abbrev pub Ticked : Coding → List ℕ → ℕ → List ℕ → ℕ → Type 0
Ticked c units ticks units' ticks' = ticks' + length (c.to_units units') ≡ ticks + length (c.to_units units)

-- ---- why a reader stops

-- the units that are left are those after the refused one, or none
abbrev pub StandsAfter : Coding → List ℕ → Stop → Type 0
StandsAfter c units (stop.Refused left why) = length (c.to_units units) ≡ left
StandsAfter c units stop.Short = c.to_units units ≡ []
StandsAfter c units stop.Memory = ⊤

-- where more are wanted, all units of the piece are added to those of the part
abbrev pub KeepsUnits : Coding → List ℕ → List ℕ → List ℕ → Stop → Type 0
KeepsUnits c begun units begun' (stop.Refused left why) = ⊤
KeepsUnits c begun units begun' stop.Short = c.to_units begun' ≡ c.to_units begun ++ c.to_units units
KeepsUnits c begun units begun' stop.Memory = ⊤
