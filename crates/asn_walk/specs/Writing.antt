-- What the writers of the walk write, and what they tell of the value that they were given.
use Rattle.std.specs.Prelude.{◌≡◌, ◌<◌, ◌≤◌, ◌^◌, ◌++◌, ℕ, Bool, true, List, [], ◌∷◌, length, take, drop, map, Option, Some, None, Result, MatchResult, ⊤}
use Rattle.std.specs.List.{list_all}
use Rattle.asn_values.specs.declared.types.Alt.{Alt}
use Rattle.asn_values.specs.declared.types.AsnType.{AsnType}
use Rattle.asn_values.specs.declared.types.Field.{Field}
use Rattle.asn_values.specs.declared.types.Size.{Size}
use Rattle.asn_values.specs.declared.value.Value.{Value}
use Rattle.asn_values.specs.Datum.{Datum, elements, elements_of}
use Rattle.asn_values.specs.Shape.{SizeRange, Shape, Fields, demands}
use Rattle.asn_values.specs.Fits.{Fits, FitsEach}
use Rattle.asn_values.specs.Profile.{InProfile, is_optional}
use Rattle.asn_values.specs.View.{shape_of, datum_of, fields_seen, entries_seen, alternatives_seen, sequence_of_seen}
use Rattle.asn_bits.specs.Lengths.{joined}
use Rattle.asn_bits.specs.Numbers.{unpacked}
use Rattle.asn_bits.specs.Sink.{bit_of}
use Rattle.asn_sinks.specs.Sink.{Context, Standing}
use Rattle.asn_rules.specs.Chunks.{Chunk, flat}
use Rattle.asn_rules.specs.declared.fault.Unwritten.{Unwritten}
use Rattle.asn_rules.specs.declared.fault.Unwritten.TheVariants as unwritten
use Rattle.asn_walk.specs.Coding.{Coding}
use Rattle.asn_walk.specs.Composites.{in_open_field, alternative_code, root_code, additions_code}

-- ---- what is told

-- where a writer stops: that the value is none of the type, which P says, or nothing, since the sink takes no more
abbrev pub IsUnwritten : {F : Type 0} → Unwritten F → Type 0 → Type 0
IsUnwritten unwritten.NotOfType P = P → ⊥
IsUnwritten (unwritten.Full fault) P = ⊤

-- and where it has written the value, that it is one
abbrev pub TellsWhether : {A F : Type 0} → Result A (Unwritten F) → Type 0 → Type 0
TellsWhether r P = MatchResult r (λ _. P) (λ why. IsUnwritten why P)

-- ---- what is written

-- how a sink is before and after bits that it takes
abbrev pub Pushing : Type 0 → Type 1
Pushing Sink = Sink → Sink → List ℕ → Type 0

-- the bits of chunks in a sink
abbrev pub written : Coding → List Chunk → List ℕ
written c cs = c.to_bits (flat c.ruling.fielding.spelled cs)

-- the bits that fill up a complete encoding after these chunks
abbrev pub filling_bits : Coding → List Chunk → List ℕ
filling_bits c cs = c.to_bits (c.padding (length (flat c.ruling.fielding.spelled cs)))

-- a sink has taken these units
abbrev pub WritesUnits : {Sink : Type 0} → Pushing Sink → Coding → Sink → Sink → List ℕ → Type 0
WritesUnits push c old new us = push old new (c.to_bits us)

-- a sink has taken the units of these chunks
abbrev pub Writes : {Sink : Type 0} → Pushing Sink → Coding → Sink → Sink → List Chunk → Type 0
Writes push c old new cs = push old new (written c cs)

-- of the chunks that were to be written after old, these others are still to be written after new
pub record LeavesToWrite {Sink : Type 0} (push : Pushing Sink) (c : Coding) (old : Sink) (all : List Chunk) (new : Sink)
    (others : List Chunk) : Type 0 where
  pub done : List ℕ
  pub pushed : push old new done
  pub rest : done ++ written c others ≡ written c all

-- a sink has taken the spelling of a value
abbrev pub WritesValue : {Sink : Type 0} → Pushing Sink → Coding → Sink → Sink → AsnType → Value → Type 0
WritesValue push c old new t v = Writes push c old new (c.code (shape_of t) (datum_of v))

-- and one in an open type field
abbrev pub WritesOpen : {Sink : Type 0} → Pushing Sink → Coding → Sink → Sink → AsnType → Value → Type 0
WritesOpen push c old new t v = Writes push c old new (in_open_field c (c.code (shape_of t) (datum_of v)))

-- a value is one of a type
abbrev pub FitsType : AsnType → Value → Type 0
FitsType t v = Fits (shape_of t) (datum_of v)

-- ---- inside open type fields

-- bits were taken inside this many open type fields, where they were the first of those to come; where lengths are
-- wanted, of fewer than 2 ^ 63 that are to come
abbrev pub TakesAt : {Sink Origin : Type 0} → Standing Sink Origin → Bool → ℕ → Pushing Sink
TakesAt {Sink} {Origin} stands wants level old new bits =
    (k : Context Origin) (taken coming : List ℕ) → length k.around ≡ level
    → (wants ≡ true → length (bits ++ coming) < 2 ^ 63)
    → stands old k taken (bits ++ coming) → stands new k (taken ++ bits) coming

-- what fills up a complete encoding was taken, after the spelling of a value of the profile
abbrev pub FillsUp : {Sink Origin : Type 0} → Standing Sink Origin → Coding → Sink → Sink → Type 0
FillsUp {Sink} {Origin} stands c old new =
    (t : Shape) (d : Datum) → InProfile t → Fits t d → (k : Context Origin) (coming : List ℕ)
    → stands old k (written c (c.code t d)) (filling_bits c (c.code t d) ++ coming)
    → stands new k (written c (c.code t d) ++ filling_bits c (c.code t d)) coming

-- the octets of a complete encoding were taken, and nothing before them
abbrev pub WritesComplete : {Sink Origin : Type 0} → Standing Sink Origin → Bool → ℕ → Coding → Sink → Sink → AsnType
    → Value → Type 0
WritesComplete {Sink} {Origin} stands wants level c old new t v =
    let octets = unpacked (c.complete (c.code (shape_of t) (datum_of v))) in
    (k : Context Origin) (coming : List ℕ) → length k.around ≡ level
    → (wants ≡ true → length (octets ++ coming) < 2 ^ 63)
    → stands old k [] (octets ++ coming) → stands new k octets coming

-- ---- SEQUENCE

-- each entry is one of its component
abbrev pub EntriesFit : List Field → List (Option Value) → Type 0
EntriesFit fs es = FitsEach (fields_seen fs) (entries_seen es)

-- the extension bit, where there is an extension mark
abbrev pub mark_bits : Option Bool → List ℕ
mark_bits None = []
mark_bits (Some extended) = bit_of extended ∷ []

-- each component is OPTIONAL
abbrev pub AreOptional : Fields → Type 0
AreOptional fs = list_all is_optional (demands fs) ≡ true

-- a sink has taken the root of a SEQUENCE, with this extension bit; and its extension additions
abbrev pub WritesRoot : {Sink : Type 0} → Pushing Sink → Coding → Sink → Sink → Option Bool → List Field
    → List (Option Value) → Type 0
WritesRoot push c old new extended fs es =
    Writes push c old new (root_code c (mark_bits extended) (fields_seen fs) (entries_seen es))

abbrev pub WritesAdditions : {Sink : Type 0} → Pushing Sink → Coding → Sink → Sink → List Field → List (Option Value)
    → Type 0
WritesAdditions push c old new fs es = Writes push c old new (additions_code c (fields_seen fs) (entries_seen es))

-- ---- CHOICE

-- a sink has taken a value of the alternative with this index; and one in an open type field
abbrev pub WritesAlternative : {Sink : Type 0} → Pushing Sink → Coding → Sink → Sink → List Alt → ℕ → Value → Type 0
WritesAlternative push c old new alts i v =
    Writes push c old new (alternative_code c (alternatives_seen alts) i (datum_of v))

abbrev pub WritesOpenAlternative : {Sink : Type 0} → Pushing Sink → Coding → Sink → Sink → List Alt → ℕ → Value → Type 0
WritesOpenAlternative push c old new alts i v =
    Writes push c old new (in_open_field c (alternative_code c (alternatives_seen alts) i (datum_of v)))

-- ---- SEQUENCE OF

-- elements as a value
abbrev pub list_seen : List Value → Datum
list_seen vs = elements (elements_of (map datum_of vs))

-- a sink has taken a list; and values in a row
abbrev pub WritesList : {Sink : Type 0} → Pushing Sink → Coding → Sink → Sink → AsnType → Size → List Value → Type 0
WritesList push c old new t s vs = Writes push c old new (c.code (sequence_of_seen t s) (list_seen vs))

abbrev pub WritesRow : {Sink : Type 0} → Pushing Sink → Coding → Sink → Sink → AsnType → List Value → Type 0
WritesRow push c old new t vs = Writes push c old new (joined (map (λ d. c.code (shape_of t) d) (map datum_of vs)))

-- What stands before the items of a list of this size and count is written, and of the list that is left to write
-- which `rest` says, whatever its items are.
abbrev pub StartsList : {Sink : Type 0} → Pushing Sink → Coding → SizeRange → ℕ → Sink
    → (List (List Chunk) → List Chunk) → Sink → Type 0
StartsList push c s count old rest new =
    (items : List (List Chunk)) → length items ≡ count → LeavesToWrite push c old (c.sized s items) new (rest items)

-- Of the items that are left, this many follow next, one at least, and what is still to be written of those after them
-- is what rest says; none where no item is left, and then all is written.
abbrev pub Advances : {Sink : Type 0} → Pushing Sink → Coding → (List (List Chunk) → List Chunk) → ℕ → Sink
    → (List (List Chunk) → List Chunk) → Sink → Option ℕ → Type 0
Advances push c before left old rest new None = (left ≡ 0) × Writes push c old new (before [])
Advances push c before left old rest new (Some k) =
    (0 < k) × (k ≤ left)
    × ((items : List (List Chunk)) → length items ≡ left
    → LeavesToWrite push c old (before items) new (joined (take k items) ++ rest (drop k items)))
