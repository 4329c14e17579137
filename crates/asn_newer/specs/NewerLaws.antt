-- The laws of messages that another version of the type reads.
use Rattle.std.specs.Prelude.{◌≡◌, ◌+◌, ◌<◌, ◌≤◌, ◌++◌, Bool, ℕ, List, [], length}
use Rattle.asn_values.specs.Datum.{Datum, item}
use Rattle.asn_values.specs.Shape.{Shape, enumerated, Label, marked_labels}
use Rattle.asn_values.specs.Fits.{Fits}
use Rattle.asn_values.specs.Profile.{InProfile}
use Rattle.asn_values.specs.Received.{FitsReceived}
use Rattle.asn_rules.specs.Answer.{IsEncoding}
use Rattle.asn_rules.specs.Chunks.{open_field, flat}
use Rattle.asn_rules.specs.Laws.{AreOctets}
use Rattle.asn_walk.specs.Laws.{Laws}
use Rattle.asn_walk.specs.WriteLaws.{WriteLaws}
use Rattle.asn_newer.specs.Skipped.{Skipped}
use Rattle.asn_newer.specs.Loose.{LooseCoding, IsLoose, IsLooseAt, AnyItem}
use Rattle.asn_newer.specs.Versions.{LabelVersions, Newer, AreVersions, item_received, received, cut, dropped, wide}

-- the octets are the canonical encoding of the value
abbrev pub Encodes : LooseCoding → Shape → Datum → List ℕ → Type 0
Encodes l t v o = AreOctets o × IsEncoding l.coding.ruling t v o

-- a receiver of the same version reads the value itself, and skips nothing
abbrev pub ReadsItself : LooseCoding → Type 0
ReadsItself l = (t : Shape) (v : Datum) (o : List ℕ) → InProfile t → Encodes l t v o → IsLooseAt l t v [] o

-- a receiver of another version reads what `received` says
abbrev pub ReadsVersions : LooseCoding → Type 0
ReadsVersions l =
    (t u : Shape) (v : Datum) (o : List ℕ) → InProfile t → InProfile u → AreVersions t u → Encodes l t v o
    → IsLooseAt l u (received l t u v).0 (received l t u v).1 o

-- an older receiver keeps what it has of the value, and skips the rest
abbrev pub OlderReads : LooseCoding → Type 0
OlderReads l =
    (old new : Shape) (v : Datum) (o : List ℕ) → InProfile old → InProfile new → Newer old new → Encodes l new v o
    → IsLooseAt l old (cut l old new v) (dropped l old new v) o

-- a newer receiver has the value with its own additions absent, and skips nothing
abbrev pub NewerReads : LooseCoding → Type 0
NewerReads l =
    (old new : Shape) (v : Datum) (o : List ℕ) → InProfile old → InProfile new → Newer old new → Encodes l old v o
    → IsLooseAt l new (wide l old new v) [] o

-- what is read is a value of the type, or one in which items and alternatives that the type has not stand as such
abbrev pub ReadsFit : LooseCoding → Type 0
ReadsFit l =
    (t : Shape) (v : Datum) (s : List Skipped) (o : List ℕ) → InProfile t → IsLoose l t v s o → FitsReceived t v

-- ---- what these laws follow from

-- what is said of the parts
pub record PartLaws (l : LooseCoding) : Type 0 where
  pub laws : Laws l.coding
  pub writes : WriteLaws l.coding
  -- a whole encoding is the spelling, and what fills it up
  pub filled : (t : Shape) (v : Datum) → InProfile t → Fits t v
      → flat l.coding.ruling.fielding.spelled (l.coding.ruling.whole t v)
      ≡ flat l.coding.ruling.fielding.spelled (l.coding.code t v)
      ++ l.coding.padding (length (flat l.coding.ruling.fielding.spelled (l.coding.code t v)))
  -- it is octets, as many as an open type field has at the least
  pub octets : (t : Shape) (v : Datum) → InProfile t → Fits t v → AreOctets (l.coding.complete (l.coding.code t v))
  pub some :
      (t : Shape) (v : Datum) → InProfile t → Fits t v
      → l.coding.ruling.fielding.shortest open_field ≤ length (l.coding.complete (l.coding.code t v))
  -- an item is read as one that the receiver has, or as one that it has not
  pub items :
      (a b : Bool) (root ls more : List Label) (p : ℕ) → InProfile (enumerated root (marked_labels ls))
      → LabelVersions a b ls more → p < length root + length ls
      → AnyItem l root more (item_received l root ls root more p)
      (l.coding.code (enumerated root (marked_labels ls)) (item p))
