-- How the extension additions of a SEQUENCE go on where a reader of them was cut.
use Rattle.std.specs.Prelude.{◌≡◌, ◌≤◌, ◌+◌, ◌-◌, ◌/◌, ◌%◌, ◌^◌, ℕ, zero, suc, Bool, true, false, List, [], ◌++◌, length, drop, Option, Some, None}
use Rattle.std.specs.Global.{Vec}
use Rattle.asn_values.specs.declared.types.AsnType.{AsnType}
use Rattle.asn_values.specs.declared.types.AsnType as asn_type
use Rattle.asn_values.specs.declared.types.Field.{Field}
use Rattle.asn_values.specs.Datum.{Datum}
use Rattle.asn_values.specs.Profile.{InProfile}
use Rattle.asn_values.specs.Shape.{Shape, Fields, MoreFields, marked, more_fields, demands}
use Rattle.asn_values.specs.View.{fields_seen, entries_seen}
use Rattle.asn_bits.specs.Numbers.{bits}
use Rattle.asn_bits.specs.Sink.{bit_of}
use Rattle.asn_rules.specs.Chunks.{Chunk, flat}
use Rattle.asn_rules.specs.Languages.{Spells, Map, Nothing}
use Rattle.asn_rules.specs.Listed.{Listed, bitmap_length}
use Rattle.asn_walk.specs.Ahead.{Ahead}
use Rattle.asn_walk.specs.Coding.{Coding, PreambleOf, AdditionBitmapOf, OpenOf, added}
use Rattle.asn_walk.proofs.AdditionsRead.{AddedUpTo}
use Rattle.asn_walk_feed.specs.Feeding.{Waits}
use Rattle.asn_walk_feed.specs.Octets.{OctetsTook}
use Rattle.asn_walk_feed.specs.OpenFields.{FieldCoding}
use Rattle.asn_walk_feed.specs.Roots.{parts_in}
use Rattle.asn_walk_feed.specs.Weights.{total, allowed}
use Rattle.asn_walk_feed.specs.declared.frame.Components.{Components}
use Rattle.asn_walk_feed.specs.declared.frame.Frame.{Frame}

-- the type is a SEQUENCE of these components
pub record IsSequenceOf (t : AsnType) (root : List Field) (ext : Option (Vec Field)) : Type 0 where
  pub components : Vec Field
  pub is : t ≡ asn_type.Seq components ext
  pub root_is : root ≡ components.items

-- the additions, as the program has them
abbrev pub marked_seen : List Field → MoreFields
marked_seen fs = marked (fields_seen fs)

-- how many additions there are
abbrev pub addition_count : MoreFields → ℕ
addition_count more = length (demands (more_fields more))

-- additions are present, and the components of the root, with these entries, stand in front of these units
pub record RootRead (c : Coding) (root : Fields) (more : MoreFields) (entries : List (Option Datum))
    (all rest : List ℕ) : Type 0 where
  pub bitmap : ℕ
  pub between : List ℕ
  pub preamble : Spells c.ruling.fielding (PreambleOf c (bitmap_length root) (added more)) (true, bitmap) all between
  pub components : Spells c.ruling.fielding (Listed c.code root (bits (bitmap_length root) bitmap)) entries between
      rest

-- after the root the presence bits of the additions are read, of which these have come
pub record BitmapGoesOn (c : Coding) (root : Fields) (more : MoreFields) (entries : List (Option Datum))
    (begun all units : List ℕ) : Type 0 where
  pub come : List ℕ
  pub root_read : RootRead c root more entries all (come ++ units)
  pub waits : Waits c (AdditionBitmapOf c (addition_count more)) begun come

-- the units that have come of an addition of which it is known whether it is present, by the nodes that have begun
abbrev pub AdditionTook : {F : Type 0} → Coding → FieldCoding → (F → Ahead) → (F → Type 0) → List (Frame F) → Bool
    → List ℕ → Type 0
AdditionTook c f ahead between fs false us = (fs ≡ []) × (us ≡ [])
AdditionTook c f ahead between fs true us = OctetsTook c f.open_type ahead between fs us

-- those of the first of the additions that are still to be read, as many as there are presence bits left
abbrev pub NextAdditionTook : {F : Type 0} → Coding → FieldCoding → (F → Ahead) → (F → Type 0) → List (Frame F) → ℕ → ℕ
    → List ℕ → Type 0
NextAdditionTook c f ahead between fs zero bitmap us = (fs ≡ []) × (us ≡ [])
NextAdditionTook c f ahead between fs (suc n) bitmap us = (present : Bool) → bit_of present ≡ bitmap / 2 ^ n % 2
    → AdditionTook c f ahead between fs present us

-- the entry of an addition of which it is known whether it is present
abbrev pub AdditionOf : Coding → Shape → Bool → Option Datum → List Chunk → Type 0
AdditionOf c t false = Nothing None
AdditionOf c t true = Map Some (OpenOf c t)

-- it weighs at most as much as its type allows, where it is spelt by at most n units
abbrev pub AdditionsWeigh : Coding → (Option Datum → ℕ) → (Shape → ℕ) → ℕ → Type 0
AdditionsWeigh c w b n = (t : Shape) (present : Bool) (e : Option Datum) (cs : List Chunk) → InProfile t
    → AdditionOf c t present e cs → length (flat c.ruling.fielding.spelled cs) ≤ n → w e ≤ b t

-- the additions go on: after their presence bits, whatever units follow, they stand in front of the units that have
-- come of the next one and of the units that are left; and P holds of those that have come. Their entries weigh no more
-- than their types allow
pub record AdditionsGoOn (c : Coding) (root : Fields) (more : MoreFields) (q : Components) (P : List ℕ → Type 0)
    (all units : List ℕ) : Type 0 where
  pub before : List (Option Datum)
  pub rest : List ℕ
  pub root_read : RootRead c root more before all rest
  pub between : List ℕ
  pub bitmap : Spells c.ruling.fielding (AdditionBitmapOf c (addition_count more)) q.presence.bitmap rest between
  pub come : List ℕ
  pub stands : (further : List ℕ) → AddedUpTo c before (more_fields more) (between ++ further) (addition_count more)
      q.presence.bitmap (drop (addition_count more - q.presence.left) (parts_in (more_fields more))) q.presence.left
      (entries_seen q.entries.items) ((come ++ units) ++ further)
  pub light : (w : Option Datum → ℕ) (b : Shape → ℕ) → AdditionsWeigh c w b (length all)
      → total w (entries_seen q.entries.items)
      + allowed b (drop (addition_count more - q.presence.left) (parts_in (more_fields more)))
      ≤ total w before + allowed b (parts_in (more_fields more))
  pub inner : P come
