-- What the readers of the walk read, and where they stop.
use Rattle.std.specs.Prelude.{◌≡◌, ◌+◌, ◌++◌, ℕ, Bool, List, Option, Some, None, map, take}
use Rattle.std.specs.Option.{option_map}
use Rattle.std.specs.Global.{Vec}
use Rattle.asn_values.specs.declared.types.Alt.{Alt}
use Rattle.asn_values.specs.declared.types.AsnType.{AsnType}
use Rattle.asn_values.specs.declared.types.Field.{Field}
use Rattle.asn_values.specs.declared.types.Size.{Size}
use Rattle.asn_values.specs.declared.value.Value.{Value}
use Rattle.asn_values.specs.Datum.{Datum}
use Rattle.asn_values.specs.Profile.{InProfile}
use Rattle.asn_values.specs.Shape.{Shape, Fields, MoreFields, sequence}
use Rattle.asn_values.specs.View.{Part, datum_of, shape_of, size_range_of, part_of_field, fields_seen, entries_seen, alternatives_seen}
use Rattle.asn_bits.specs.Numbers.{bits}
use Rattle.asn_rules.specs.Chunks.{Chunk}
use Rattle.asn_rules.specs.Languages.{Spells, Map, Row}
use Rattle.asn_rules.specs.Listed.{Spelt, Entry, Listed, bitmap_length}
use Rattle.asn_rules.specs.Reading.{Wholes}
use Rattle.asn_rules.specs.Stops.{Stops}
use Rattle.asn_rules.specs.declared.stop.Stop.{Stop}
use Rattle.asn_walk.specs.declared.presence.PresenceBits.{PresenceBits}
use Rattle.asn_walk.specs.Ahead.{Ahead, Next, Remaining}
use Rattle.asn_walk.specs.Coding.{Coding, PreambleOf, OpenOf, OpenListed, AdditionsOf, ListingOf, ChosenOf, absent_entries, added}

-- ---- answers

-- a prefix of the bits is a spelling of the value, and the others follow it
abbrev pub Reads : {V : Type 0} → Coding → (V → List Chunk → Type 0) → V → List ℕ → List ℕ → Type 0
Reads c L v old new = Spells c.ruling.fielding L v (c.to_units old) (c.to_units new)

-- a reader of the language stops at these bits
abbrev pub StopsAt : {V : Type 0} → Coding → (V → List Chunk → Type 0) → List ℕ → Stop → Type 0
StopsAt c L old why = Stops c.ruling.fielding L (c.to_units old) why

-- ---- languages

-- the values of a type
abbrev pub ValuesOf : Coding → Shape → Datum → List Chunk → Type 0
ValuesOf c t = Spelt c.code None t

-- those that are not its DEFAULT
abbrev pub OthersOf : Coding → Datum → Shape → Datum → List Chunk → Type 0
OthersOf c default t = Spelt c.code (Some default) t

-- its complete encodings
abbrev pub CompleteOf : Coding → Shape → Datum → List Chunk → Type 0
CompleteOf c t = Wholes c.ruling t

-- the entry of a component, of which it is known whether it is present
abbrev pub EntryOf : Coding → Part → Bool → Option Datum → List Chunk → Type 0
EntryOf c p present = Entry c.code p.demand p.shape present

-- ---- languages of the types that the program holds

-- the components of a root that are present by these presence bits
abbrev pub ComponentsOf : Coding → List Field → PresenceBits → List (Option Datum) → List Chunk → Type 0
ComponentsOf c fs p = Listed c.code (fields_seen fs) (bits p.left p.bitmap)

-- the extension additions that are present by these presence bits, in open type fields
abbrev pub OpenFieldsOf : Coding → List Field → PresenceBits → List (Option Datum) → List Chunk → Type 0
OpenFieldsOf c fs p = OpenListed c (fields_seen fs) (bits p.left p.bitmap)

-- extension additions of which one at least is present: their presence bits, and the open type fields
abbrev pub ExtensionsOf : Coding → List Field → List (Option Datum) → List Chunk → Type 0
ExtensionsOf c fs = AdditionsOf c (fields_seen fs)

-- the values of the alternative with this index in the root, and in open type fields, among the additions
abbrev pub AlternativeOf : Coding → List Alt → ℕ → Datum → List Chunk → Type 0
AlternativeOf c root = ChosenOf (ValuesOf c) (alternatives_seen root)

abbrev pub OpenAlternativeOf : Coding → List Alt → ℕ → Datum → List Chunk → Type 0
OpenAlternativeOf c additions = ChosenOf (OpenOf c) (alternatives_seen additions)

-- the lists of elements of a type under a size; those of this many elements; and what is still ahead of one
abbrev pub ListOf : Coding → AsnType → Size → List Datum → List Chunk → Type 0
ListOf c t s = ListingOf c (size_range_of s) (ValuesOf c (shape_of t))

abbrev pub RowOf : Coding → AsnType → ℕ → List Datum → List Chunk → Type 0
RowOf c t n = Row (ValuesOf c (shape_of t)) n

abbrev pub RestOf : Coding → AsnType → Ahead → List Datum → List Chunk → Type 0
RestOf c t a = Remaining (ValuesOf c (shape_of t)) a

-- ---- a value of a type, as the program holds them

abbrev pub ReadsValue : Coding → AsnType → Value → List ℕ → List ℕ → Type 0
ReadsValue c t v old new = Reads c (ValuesOf c (shape_of t)) (datum_of v) old new

-- one that is not this DEFAULT
abbrev pub ReadsOther : Coding → AsnType → Value → Value → List ℕ → List ℕ → Type 0
ReadsOther c t default v old new = Reads c (OthersOf c (datum_of default) (shape_of t)) (datum_of v) old new

-- its complete encoding
abbrev pub ReadsComplete : Coding → AsnType → Value → List ℕ → List ℕ → Type 0
ReadsComplete c t v old new = Reads c (CompleteOf c (shape_of t)) (datum_of v) old new

-- the open type field that holds it
abbrev pub ReadsOpen : Coding → AsnType → Value → List ℕ → List ℕ → Type 0
ReadsOpen c t v old new = Reads c (OpenOf c (shape_of t)) (datum_of v) old new

-- the entry of a component, of which it is known whether it is present
abbrev pub ReadsEntry : Coding → Field → Bool → Option Datum → List ℕ → List ℕ → Type 0
ReadsEntry c f present e old new = Reads c (EntryOf c (part_of_field f) present) e old new

-- the length of the next fragment of a list, which has this many items, and what is ahead of the list after it
abbrev pub ReadsNext : Coding → Ahead → Option ℕ → Ahead → List ℕ → List ℕ → Type 0
ReadsNext c before count after old new = Next c.ruling.fielding before count after (c.to_units old) (c.to_units new)

-- ---- the root of a SEQUENCE

-- a prefix of the bits is what stands before the components, with this extension bit, and then the components that its
-- presence bitmap tells, with these entries
pub record ReadsRoot (c : Coding) (root : Fields) (additions : Option ℕ) (extended : Bool) (es : List (Option Datum))
    (old new : List ℕ) : Type 0 where
  pub bitmap : ℕ
  pub between : List ℕ
  pub preamble : Spells c.ruling.fielding (PreambleOf c (bitmap_length root) additions) (extended, bitmap)
      (c.to_units old) between
  pub components : Spells c.ruling.fielding (Listed c.code root (bits (bitmap_length root) bitmap)) es between
      (c.to_units new)

-- the same of what the program holds
abbrev pub ReadsRootOf : Coding → List Field → Option ℕ → Bool → List (Option Value) → List ℕ → List ℕ → Type 0
ReadsRootOf c root additions extended es old new =
    ReadsRoot c (fields_seen root) additions extended (entries_seen es) old new

-- a reader of the root stops: so does a reader of each SEQUENCE with this root and this count of additions
pub record StopsInRoot (c : Coding) (root : Fields) (additions : Option ℕ) (old : List ℕ) (why : Stop) : Type 0 where
  pub stops : (more : MoreFields) → InProfile (sequence root more) → added more ≡ additions
      → StopsAt c (ValuesOf c (sequence root more)) old why

-- the entries of extension additions that are all absent
abbrev pub absent_additions : List Field → List (Option Datum)
absent_additions fs = absent_entries (fields_seen fs)

-- ---- values in a row

-- further values, after those that were read before
abbrev pub After : {A : Type 0} → List A → (List A → List Chunk → Type 0) → List A → List Chunk → Type 0
After before L = Map (λ vs. before ++ vs) L

-- a vector has the elements that are ahead of a list
abbrev pub ReadsRest : Coding → AsnType → Ahead → Vec Value → List ℕ → List ℕ → Type 0
ReadsRest c t a vs old new = Reads c (RestOf c t a) (map datum_of vs.items) old new

-- a vector of entries, and one of elements, has those of the language more
abbrev pub AppendsEntries : Coding → (List (Option Datum) → List Chunk → Type 0) → Vec (Option Value)
    → Vec (Option Value) → List ℕ → List ℕ → Type 0
AppendsEntries c L before after old new =
    Reads c (After (entries_seen before.items) L) (entries_seen after.items) old new

abbrev pub AppendsElements : Coding → (List Datum → List Chunk → Type 0) → Vec Value → Vec Value → List ℕ → List ℕ
    → Type 0
AppendsElements c L before after old new =
    Reads c (After (map datum_of before.items) L) (map datum_of after.items) old new

-- the components of a root, and extension additions, by their presence bits; and extension additions with these
abbrev pub AppendsComponents : Coding → List Field → PresenceBits → Vec (Option Value) → Vec (Option Value) → List ℕ
    → List ℕ → Type 0
AppendsComponents c fs p = AppendsEntries c (ComponentsOf c fs p)

abbrev pub AppendsOpenFields : Coding → List Field → PresenceBits → Vec (Option Value) → Vec (Option Value) → List ℕ
    → List ℕ → Type 0
AppendsOpenFields c fs p = AppendsEntries c (OpenFieldsOf c fs p)

abbrev pub AppendsExtensions : Coding → List Field → Vec (Option Value) → Vec (Option Value) → List ℕ → List ℕ → Type 0
AppendsExtensions c fs = AppendsEntries c (ExtensionsOf c fs)

-- this many elements; and those that are still ahead of a list
abbrev pub AppendsRow : Coding → AsnType → ℕ → Vec Value → Vec Value → List ℕ → List ℕ → Type 0
AppendsRow c t n = AppendsElements c (RowOf c t n)

abbrev pub AppendsRest : Coding → AsnType → Ahead → Vec Value → Vec Value → List ℕ → List ℕ → Type 0
AppendsRest c t a = AppendsElements c (RestOf c t a)

-- this many elements stand in a vector after its first elements, of which there are `start`
abbrev pub OverwritesRow : Coding → AsnType → ℕ → ℕ → Vec Value → Vec Value → List ℕ → List ℕ → Type 0
OverwritesRow c t start n before after old new =
    Reads c (After (map datum_of (take start before.items)) (RowOf c t n))
    (map datum_of (take (start + n) after.items)) old new
