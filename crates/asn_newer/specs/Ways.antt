-- That messages of newer and older senders are read in one way.
use Rattle.std.specs.Prelude.{◌≡◌, ◌≤◌, ◌++◌, ℕ, List, length}
use Rattle.asn_values.specs.Datum.{Datum}
use Rattle.asn_values.specs.Shape.{SizeRange, Shape, enumerated, Label, marked_labels}
use Rattle.asn_values.specs.Profile.{InProfile}
use Rattle.asn_rules.specs.Answer.{max_octets}
use Rattle.asn_rules.specs.Chunks.{Chunk, open_field}
use Rattle.asn_rules.specs.Languages.{Spells}
use Rattle.asn_rules.specs.Live.{Begins, Fielding}
use Rattle.asn_rules.specs.Reading.{AllSealed}
use Rattle.asn_walk.specs.Ahead.{Ahead}
use Rattle.asn_walk.specs.Laws.{Laws}
use Rattle.asn_newer.specs.Skipped.{SkippedAt}
use Rattle.asn_newer.specs.Loose.{LooseCoding, AnyBitmap, AnyItem, IsLooseAt}

-- octets are read as one value, with one list of skipped fields and their paths, and none that are read begin others
abbrev pub OneReading : LooseCoding → Type 0
OneReading l =
    (t : Shape) (v w : Datum) (s z : List SkippedAt) (o p : List ℕ) → InProfile t → length p ≤ max_octets
    → IsLooseAt l t v s o → IsLooseAt l t w z p → Begins o p
    → (v ≡ w) × (s ≡ z) × (o ≡ p)

-- ---- what this follows from

-- two fronts of one list of units are one, of one value, and the sealed fields are such as may stand there
pub record OneWay {V : Type 0} (R : Fielding) (L : V → List Chunk → Type 0) : Type 0 where
  pub sealed : (v : V) (cs : List Chunk) → L v cs → AllSealed R cs
  pub once : (v w : V) (us r s : List ℕ) → Spells R L v us r → Spells R L w us s → (v ≡ w) × (r ≡ s)

-- what is said of the parts
pub record WayLaws (l : LooseCoding) : Type 0 where
  pub laws : Laws l.coding
  pub bitmap : OneWay l.coding.ruling.fielding (AnyBitmap l.coding)
  pub items :
      (root additions : List Label) → InProfile (enumerated root (marked_labels additions))
      → OneWay l.coding.ruling.fielding (AnyItem l root additions)
  -- what stands before the items of a list is plain units
  pub start :
      (s : SizeRange) (a : Ahead) (cs : List Chunk) → l.coding.list_start s a cs → AllSealed l.coding.ruling.fielding cs
  -- a complete encoding has as many octets as an open type field has at the least
  pub some :
      (us o : List ℕ) → l.coding.ruling.units o ≡ us ++ l.coding.padding (length us)
      → l.coding.ruling.fielding.shortest open_field ≤ length o
