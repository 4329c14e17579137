-- What the readers of the walk over types read: languages of values with the fields that were skipped in them, put
-- after those that were skipped before.
use Rattle.std.specs.Prelude.{◌≡◌, ◌≤◌, ℕ, ℤ, Bool, true, false, List, [], ◌∷◌, ◌++◌, length, map, Option, Some, ⊤}
use Rattle.std.specs.Global.{Vec}
use Rattle.asn_values.specs.declared.types.Alt.{Alt}
use Rattle.asn_values.specs.declared.types.AsnType.{AsnType}
use Rattle.asn_values.specs.declared.types.AsnType as asn_type
use Rattle.asn_values.specs.declared.types.Field.{Field}
use Rattle.asn_values.specs.Datum.{Datum}
use Rattle.asn_values.specs.Shape.{Shape, Label, Demand, must, optional, default, Fields, marked}
use Rattle.asn_rules.specs.Answer.{max_octets}
use Rattle.asn_rules.specs.Chunks.{Chunk, ones}
use Rattle.asn_rules.specs.Languages.{Map, Nothing}
use Rattle.asn_rules.specs.Listed.{Spelt, default_of}
use Rattle.asn_rules.specs.Spellings.{SpelledBy}
use Rattle.asn_walk.specs.Coding.{Coding}
use Rattle.asn_newer.specs.declared.path.PathStep.TheVariants as step
use Rattle.asn_newer.specs.Skipped.{SkippedAt, Reading, Entries, Inside, nothing_skipped, all_skipped}
use Rattle.asn_newer.specs.Loose.{LooseCoding, Complete, Loose, LooseMore, IsLooseAt}
use Rattle.asn_newer.specs.declared.halt.Halt.{Halt}
use Rattle.asn_newer.specs.declared.halt.Halt.TheVariants as halt

-- what the second says of unknown items, over the parts of the first
abbrev pub loose_by : Coding → LooseCoding → LooseCoding
loose_by c l =
    record { coding = c; IsUnknown = l.IsUnknown; unknown_units = l.unknown_units; told_number = l.told_number }

-- octets are read as the same values by both
pub record SameReadings (l m : LooseCoding) : Type 0 where
  pub to : (t : Shape) (v : Datum) (s : List SkippedAt) (o : List ℕ) → IsLooseAt l t v s o → IsLooseAt m t v s o
  pub from : (t : Shape) (v : Datum) (s : List SkippedAt) (o : List ℕ) → IsLooseAt m t v s o → IsLooseAt l t v s o

-- items that a type has not
abbrev pub UnknownItem : LooseCoding → List Label → List Label → ℤ → List Chunk → Type 0
UnknownItem l root additions = SpelledBy (l.IsUnknown root additions) (λ z. ones (l.unknown_units z))

-- the entry of the component at an index of the root, of which it is known whether it is present
abbrev pub LooseEntry : LooseCoding → ℕ → Demand → Shape → Bool → Option Datum × List SkippedAt → List Chunk → Type 0
LooseEntry l i d t false = Nothing (default_of d, [])
LooseEntry l i (default d) t true = Map (λ r. (Some r.0, r.1)) (Map nothing_skipped (Spelt l.coding.code (Some d) t))
LooseEntry l i must t true = Map (λ r. (Some r.0, r.1)) (Inside (step.Component i) (Loose l t))
LooseEntry l i optional t true = Map (λ r. (Some r.0, r.1)) (Inside (step.Component i) (Loose l t))

-- the additions of a SEQUENCE of which one is present
abbrev pub LooseAdditions : LooseCoding → Fields → Entries → List Chunk → Type 0
LooseAdditions l fs = LooseMore l (marked fs) true

-- ---- after what was read before

abbrev pub ReadingAfter :
    {A : Type 0} → List SkippedAt → (A × List SkippedAt → List Chunk → Type 0) → A × List SkippedAt → List Chunk
    → Type 0
ReadingAfter before = Map (λ r. (r.0, before ++ r.1))

abbrev pub EntriesAfter :
    List (Option Datum) → List SkippedAt → (Entries → List Chunk → Type 0) → Entries → List Chunk → Type 0
EntriesAfter es before = Map (λ p. (es ++ p.0, before ++ p.1))

abbrev pub ItemsAfter :
    List Datum → List SkippedAt → (List Reading → List Chunk → Type 0) → List Datum × List SkippedAt → List Chunk
    → Type 0
ItemsAfter ds before = Map (λ rs. (ds ++ map (λ r. r.0) rs, before ++ all_skipped (length ds) rs))

abbrev pub FieldsAfter :
    List SkippedAt → (List SkippedAt → List Chunk → Type 0) → List SkippedAt → List Chunk → Type 0
FieldsAfter before = Map (λ s. before ++ s)

abbrev pub FieldAfter :
    List SkippedAt → (SkippedAt → List Chunk → Type 0) → List SkippedAt → List Chunk → Type 0
FieldAfter before = Map (λ s. before ++ s ∷ [])

-- ---- types, as the reader holds them

-- a SEQUENCE with an extension mark, this root and these additions
pub record IsMarkedSequence (t : AsnType) (root additions : List Field) : Type 0 where
  pub components : Vec Field
  pub more : Vec Field
  pub is : t ≡ asn_type.Seq components (Some more)
  pub root_is : root ≡ components.items
  pub additions_are : additions ≡ more.items

-- a CHOICE with one
pub record IsMarkedChoice (t : AsnType) (root additions : List Alt) : Type 0 where
  pub alternatives : Vec Alt
  pub more : Vec Alt
  pub is : t ≡ asn_type.Choice alternatives (Some more)
  pub root_is : root ≡ alternatives.items
  pub additions_are : additions ≡ more.items

-- ---- octets

-- they are a complete encoding of the value, with these fields skipped after those before
pub record ReadsContent (l : LooseCoding) (t : Shape) (before : List SkippedAt) (v : Datum) (after : List SkippedAt)
    (o : List ℕ) : Type 0 where
  pub skipped : List SkippedAt
  pub same : after ≡ before ++ skipped
  pub complete : Complete l.coding (Loose l t) (v, skipped) o

-- they are none of any value
abbrev pub NoContent : LooseCoding → Shape → List ℕ → Type 0
NoContent l t o = (r : Reading) → Complete l.coding (Loose l t) r o → ⊥

-- octets that end too early are none of any value, those that are refused begin none that is not too long, and of
-- memory nothing is said
abbrev pub TellsContent : LooseCoding → Shape → List ℕ → Halt → Type 0
TellsContent l t o halt.Memory = ⊤
TellsContent l t o halt.Short = NoContent l t o
TellsContent l t o _ = (after : List ℕ) → length (o ++ after) ≤ max_octets → NoContent l t (o ++ after)

pub record HaltsContent (l : LooseCoding) (t : Shape) (o : List ℕ) (why : Halt) : Type 0 where
  pub told : TellsContent l t o why
