-- How the root of a SEQUENCE goes on where a reader of it was cut.
use Rattle.std.specs.Prelude.{◌≡◌, ◌≤◌, ◌+◌, ◌-◌, ◌/◌, ◌%◌, ◌^◌, ℕ, Bool, true, false, List, [], ◌∷◌, ◌++◌, length, drop, Option, Some}
use Rattle.asn_values.specs.Datum.{Datum}
use Rattle.asn_values.specs.Shape.{Shape, Demand, must, optional, default, Fields, no_fields, field, MoreFields}
use Rattle.asn_values.specs.View.{Part, entries_seen}
use Rattle.asn_bits.specs.Sink.{bit_of}
use Rattle.asn_rules.specs.Components.{has_presence_bit}
use Rattle.asn_rules.specs.Languages.{Spells}
use Rattle.asn_rules.specs.Listed.{Spelt, bitmap_length}
use Rattle.asn_walk.specs.Coding.{Coding, PreambleOf, added}
use Rattle.asn_walk.proofs.ComponentsRead.{ReadUpTo}
use Rattle.asn_walk_feed.specs.Feeding.{Waits}
use Rattle.asn_walk_feed.specs.Weights.{total, EntriesWeigh, allowed}
use Rattle.asn_walk_feed.specs.declared.frame.Components.{Components}
use Rattle.asn_walk_feed.specs.declared.frame.Frame.{Frame}
use Rattle.asn_walk_feed.specs.declared.frame.Frame.TheVariants as frame

-- the components, each taken apart
abbrev pub parts_in : Fields → List Part
parts_in no_fields = []
parts_in (field name demand t fs) = record { name = name; demand = demand; shape = t } ∷ parts_in fs

-- whether a component is there: by the first presence bit of those that are left, where it has one
pub record IsPresent (p : Part) (left bitmap : ℕ) (present : Bool) : Type 0 where
  pub must : has_presence_bit p.demand ≡ false → present ≡ true
  pub bit : has_presence_bit p.demand ≡ true → bit_of present ≡ bitmap / 2 ^ (left - 1) % 2

-- the units that have come of a value that is not this DEFAULT, by the nodes that have begun
abbrev pub OtherTook : {F : Type 0} → Coding → List (Frame F) → Datum → Shape → List ℕ → Type 0
OtherTook c [] d t us = us ≡ []
OtherTook c (frame.Start b ∷ []) d t us = Waits c (Spelt c.code (Some d) t) b us
OtherTook c _ d t us = ⊥

-- those of a component that is there; Value says it of a value of its type
abbrev pub DemandTook : {F : Type 0} → Coding → List (Frame F) → (Shape → List ℕ → Type 0) → Demand → Shape → List ℕ
    → Type 0
DemandTook c fs Value must t us = Value t us
DemandTook c fs Value optional t us = Value t us
DemandTook c fs Value (default d) t us = OtherTook c fs d t us

-- those of a component of which it is known whether it is there
abbrev pub EntryTook : {F : Type 0} → Coding → List (Frame F) → (Shape → List ℕ → Type 0) → Part → Bool → List ℕ
    → Type 0
EntryTook c fs Value p false us = (fs ≡ []) × (us ≡ [])
EntryTook c fs Value p true us = DemandTook c fs Value p.demand p.shape us

-- those of the first of the components that are still to be read
abbrev pub NextTook : {F : Type 0} → Coding → List (Frame F) → (Shape → List ℕ → Type 0) → List Part → ℕ → ℕ → List ℕ
    → Type 0
NextTook c fs Value [] left bitmap us = (fs ≡ []) × (us ≡ [])
NextTook c fs Value (p ∷ ps) left bitmap us =
    (present : Bool) → IsPresent p left bitmap present → EntryTook c fs Value p present us

-- the root goes on: after the preamble, whatever units follow, its components stand in front of the units that have
-- come of the next one and of the units that are left; and P holds of those that have come, of the components left. The
-- entries weigh no more than the types of their components allow
pub record RootGoesOn (c : Coding) (root : Fields) (more : MoreFields) (q : Components)
    (P : List Part → List ℕ → Type 0) (all units : List ℕ) : Type 0 where
  pub between : List ℕ
  pub preamble : Spells c.ruling.fielding (PreambleOf c (bitmap_length root) (added more))
      (q.extended, q.presence.bitmap) all between
  pub come : List ℕ
  pub stands : (further : List ℕ) → ReadUpTo c [] (parts_in root) (bitmap_length root) q.presence.bitmap
      (between ++ further) (drop (length q.entries.items) (parts_in root)) q.presence.left
      (entries_seen q.entries.items) ((come ++ units) ++ further)
  pub light : (w : Option Datum → ℕ) (b : Shape → ℕ) → EntriesWeigh c w b (length all)
      → total w (entries_seen q.entries.items) + allowed b (drop (length q.entries.items) (parts_in root))
      ≤ allowed b (parts_in root)
  pub inner : P (drop (length q.entries.items) (parts_in root)) come
