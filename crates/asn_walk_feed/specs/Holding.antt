-- How much of a value a reader of messages in pieces holds, and what a set of encoding rules says of spellings so that
-- it is no more than the bits that have come allow.
use Rattle.std.specs.Prelude.{◌≡◌, ◌≢◌, ◌≤◌, ◌+◌, ◌-◌, ◌*◌, ◌/◌, ◌^◌, ℕ, suc, min, List, [], ◌∷◌, length, map, Option, Some, None}
use Rattle.asn_values.specs.Datum.{Datum}
use Rattle.asn_values.specs.Fits.{Fits}
use Rattle.asn_values.specs.Measures.{cells}
use Rattle.asn_values.specs.Profile.{InProfile}
use Rattle.asn_values.specs.Shape.{Shape, SizeRange, sequence_of}
use Rattle.asn_values.specs.View.{datum_of, entries_seen}
use Rattle.asn_rules.specs.Chunks.{Chunk, flat}
use Rattle.asn_rules.specs.Listed.{Spelt}
use Rattle.asn_walk.specs.Coding.{Coding}
use Rattle.asn_walk_feed.specs.Octets.{FirstOf}
use Rattle.asn_walk_feed.specs.OpenFields.{FieldCoding}
use Rattle.asn_walk_feed.specs.Strings.{IsString}
use Rattle.asn_walk_feed.specs.Weights.{total, Weighs}
use Rattle.asn_walk_feed.specs.declared.frame.Frame.{Frame}
use Rattle.asn_walk_feed.specs.declared.frame.Frame.TheVariants as frame

-- ---- by the nodes that have begun

-- the cells of the entry of a component, one where it is absent
abbrev pub entry_cells : Option Datum → ℕ
entry_cells None = 1
entry_cells (Some d) = cells d

-- the cells of the parts of a value that a node has, and the octets that it keeps
abbrev pub built : {F : Type 0} → Frame F → ℕ
built (frame.Start b) = 0
built (frame.Elements q) = total cells (map datum_of q.elements.items)
built (frame.Components q) = total entry_cells (entries_seen q.entries.items)
built (frame.Bitmap p) = total entry_cells (entries_seen p.entries.items)
built (frame.Additions q) = total entry_cells (entries_seen q.entries.items)
built (frame.Chosen i) = 0
built (frame.Added i) = 0
built (frame.Octets q) = length q.elements.items

-- one for each node, and what these have
abbrev pub held_in : {F : Type 0} → List (Frame F) → ℕ
held_in [] = 0
held_in (f ∷ fs) = suc (built f + held_in fs)

-- as a count, at most `u64::MAX`
abbrev pub counted : ℕ → ℕ
counted n = min n (2 ^ 64 - 1)

-- ---- what a set of encoding rules says

-- how many bits a unit is
abbrev pub unit_bits : Coding → ℕ
unit_bits c = 8 / c.octet_units

pub record HoldLaws (c : Coding) (f : FieldCoding) : Type 0 where
  -- an octet is 8 bits
  pub octet_bits : unit_bits c * c.octet_units ≡ 8
  -- an element of a list is not spelt by nothing, whichever it is
  pub element : (t : Shape) (s : SizeRange) → InProfile (sequence_of t s)
      → (v : Datum) × Fits t v × (c.code t v ≢ [])
  -- a string has at most as many items as bits
  pub string : (t : Shape) → InProfile t → IsString t → (v : Datum) (cs : List Chunk) → Spelt c.code None t v cs
      → cells v ≤ suc (unit_bits c * length (flat c.ruling.fielding.spelled cs))
  -- an item of it has a unit, and so has each that stands before the first length
  pub item : (t : Shape) → InProfile t → IsString t → Weighs c.ruling.fielding (f.string t).octet (λ o. 1) 1
  pub first : (t : Shape) → InProfile t → IsString t
      → Weighs c.ruling.fielding (FirstOf (f.string t)) (total (λ o. 1)) 1
  -- an octet of an open type field has 8 bits
  pub octet : Weighs c.ruling.fielding f.open_type.octet (λ o. 8) (unit_bits c)
