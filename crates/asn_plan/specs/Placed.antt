-- Values that are put over those of a value before.
use Rattle.std.specs.Prelude.{◌≡◌, ◌∷◌, [], ◌++◌, List, Option, Some, None, map, take, slice_get}
use Rattle.asn_values.specs.Datum.{Datum}
use Rattle.asn_values.specs.View.{datum_of, entries_seen}
use Rattle.asn_plan.specs.declared.place.Place.{Place}
use Rattle.asn_plan.specs.declared.reused.ElementsOver.{ElementsOver}
use Rattle.asn_plan.specs.declared.reused.Spare.{Spare}

-- the entries that are new
abbrev pub taken : Place → List (Option Datum)
taken p = entries_seen (take p.at p.items.items)

-- a value stands where the next one is put
abbrev pub IsThere : Place → Datum → Type 0
IsThere p d = slice_get (entries_seen p.items.items) p.at ≡ Some (Some d)

-- an entry without a value stands where the next one is put
abbrev pub IsAbsent : Place → Type 0
IsAbsent p = slice_get (entries_seen p.items.items) p.at ≡ Some None

-- from the one state to the other a value was put, and no entry was added
pub record IsPut (s r : Place) (d : Datum) : Type 0 where
  pub same : taken r ≡ taken s
  pub there : IsThere r d

-- the new entries of the SEQUENCEs around
abbrev pub around : Spare → List (List (Option Datum))
around p = map taken p.around.items

-- from the one state to the other a value was put, and all around is as it was
pub record IsPutIn (s r : Spare) (d : Datum) : Type 0 where
  pub put : IsPut s.here r.here d
  pub around_same : around r ≡ around s

-- from the one state to the other these entries of a SEQUENCE were put, and those that were there are around it
pub record AreEntries (s r : Spare) (es : List (Option Datum)) : Type 0 where
  pub entries : taken r.here ≡ es
  pub around_more : around r ≡ around s ++ taken s.here ∷ []

-- the elements that are new
abbrev pub made : ElementsOver → List Datum
made row = map datum_of (take row.count row.items.items)

-- from the one state to the other these elements of a SEQUENCE OF were made
pub record AreElements (s r : Spare) (row : ElementsOver) (ds : List Datum) : Type 0 where
  pub same : taken r.here ≡ taken s.here
  pub around_same : around r ≡ around s
  pub elements : made row ≡ ds

-- from the one state to the other no entry was added
pub record IsBegun (s r : Spare) : Type 0 where
  pub same : taken r.here ≡ taken s.here
  pub around_same : around r ≡ around s
