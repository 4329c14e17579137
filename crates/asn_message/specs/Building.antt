-- What is built in slots: it stands after what was there, and nothing that was there is changed.
use Rattle.std.specs.Prelude.{◌≡◌, ◌≤◌, ◌<◌, ◌+◌, ◌*◌, ◌%◌, ◌^◌, ℕ, List, [], ◌∷◌, ◌++◌, length, map, Option, Some}
use Rattle.asn_values.specs.Datum.{Datum}
use Rattle.asn_plan.specs.Plans.{absents}
use Rattle.asn_message.specs.declared.flat.Elements.{Elements}
use Rattle.asn_message.specs.declared.flat.Entries.{Entries}
use Rattle.asn_message.specs.declared.slots.Room.{Room}
use Rattle.asn_message.specs.declared.slots.Slot.{Slot}
use Rattle.asn_message.specs.Slots.{entries_in, AreNested}

-- these entries stand in the slots, whatever octets and slots come after
abbrev pub Stand : List ℕ → List Slot → List (Option Datum) → Type 0
Stand os ss es = (more : List ℕ) (fs : List (Option Datum)) → entries_in (os ++ more) ss fs ≡ es ++ fs

-- and each tells how many slots are inside it
abbrev pub Nest : List ℕ → List Slot → Type 0
Nest os ss = (more : List ℕ) (fs : List (Option Datum)) → AreNested (os ++ more) fs ss

-- octets were added
abbrev pub Grows : Room → Room → Type 0
Grows r s = (more : List ℕ) × (s.octets.items ≡ r.octets.items ++ more)

-- a value was put into slots, after components that are absent
pub record IsPut (r s : Room) (d : Datum) : Type 0 where
  pub grows : Grows r s
  pub first : Slot
  pub inside : List Slot
  pub slots : s.slots.items ≡ r.slots.items ++ first ∷ inside
  pub before : first.absent_before ≡ r.absent
  pub over : s.absent ≡ 0
  pub stand : Stand s.octets.items (first ∷ inside) (absents r.absent ++ Some d ∷ [])
  pub nest : Nest s.octets.items (first ∷ inside)

-- values were put after a slot that is for what they are inside of; `es` stand in their slots
pub record AreInside (r s : Room) (at : ℕ) (es : List (Option Datum)) : Type 0 where
  pub grows : Grows r s
  pub first : Slot
  pub inside : List Slot
  pub slots : s.slots.items ≡ r.slots.items ++ first ∷ inside
  pub here : at ≡ length r.slots.items
  pub before : first.absent_before ≡ r.absent
  pub stand : Stand s.octets.items inside es
  pub nest : Nest s.octets.items inside

-- these entries of a SEQUENCE; each present one has a slot at least, before which fewer than 2^32 are absent
pub record AreEntries (r s : Room) (e : Entries) (es : List (Option Datum)) : Type 0 where
  pub first : List (Option Datum)
  pub within : AreInside r s e.at first
  pub all : es ≡ first ++ absents s.absent
  pub few_absent : s.absent < 2 ^ 32
  pub few : length es ≤ 2 ^ 32 * length within.inside + s.absent
  pub count : e.count ≡ length es % 2 ^ 64

-- these elements of a SEQUENCE OF; each has a slot at least
pub record AreElements (r s : Room) (e : Elements) (ds : List Datum) : Type 0 where
  pub within : AreInside r s e.at (map (λ d. Some d) ds)
  pub over : s.absent ≡ 0
  pub few : length ds ≤ length within.inside
  pub count : e.count ≡ length ds % 2 ^ 32

-- the slot of a CHOICE, whose alternative is not there yet
abbrev pub IsBegun : Room → Room → ℕ → ℕ → Type 0
IsBegun r s at place = AreInside r s at [] × s.absent ≡ 0
