-- What a receiver makes of a message of another version of its type: a value, and the fields that it skipped.
use Rattle.std.specs.Prelude.{ℕ, zero, suc, ℤ, List, [], ◌∷◌, ◌++◌, map, Option, Some}
use Rattle.asn_values.specs.Datum.{Datum, components, components_of, elements, elements_of, alternative, unknown_item, unknown_alternative}
use Rattle.asn_rules.specs.Chunks.{Chunk}
use Rattle.asn_rules.specs.Languages.{Map}
use Rattle.asn_newer.specs.declared.path.PathStep.{PathStep}
use Rattle.asn_newer.specs.declared.path.PathStep.TheVariants as step

-- a field that was skipped: its index among the additions of its type, counted from 0, known ones counted, and the
-- octets of its open field
pub record Skipped : Type 0 where
  pub place : ℕ
  pub octets : List ℕ

-- the same, and the path from the value to the SEQUENCE or CHOICE that it is an addition of
pub record SkippedAt : Type 0 where
  pub path : List PathStep
  pub field : Skipped

-- wherever they are
abbrev pub fields_of_all : List SkippedAt → List Skipped
fields_of_all ss = map (λ s. s.field) ss

-- an addition of the value itself, with these octets
abbrev pub skipped_here : ℕ → List ℕ → SkippedAt
skipped_here place octets = record { path = []; field = record { place = place; octets = octets } }

-- seen from the value that has it in the part to which the step leads
abbrev pub inside : PathStep → SkippedAt → SkippedAt
inside s k = record { path = s ∷ k.path; field = k.field }

-- a value, and the fields that were skipped in the order in which they were read
abbrev pub Reading : Type 0
Reading = Datum × List SkippedAt

-- entries of a SEQUENCE, and the fields that were skipped in and after them
abbrev pub Entries : Type 0
Entries = List (Option Datum) × List SkippedAt

abbrev pub nothing_skipped : Datum → Reading
nothing_skipped d = (d, [])

-- what was read of a part, as it is told of the whole
abbrev pub part_read : PathStep → Reading → Reading
part_read s r = (r.0, map (inside s) r.1)

-- readings of the part to which the step leads
abbrev pub Inside : PathStep → (Reading → List Chunk → Type 0) → Reading → List Chunk → Type 0
Inside s L = Map (part_read s) L

-- an entry that was read, before others
abbrev pub entry_read : Reading × Entries → Entries
entry_read p = (Some p.0.0 ∷ p.1.0, p.0.1 ++ p.1.1)

-- an entry that is not there: absent, or its DEFAULT
abbrev pub entry_left : Option Datum → Entries → Entries
entry_left e p = (e ∷ p.0, p.1)

-- the root and the additions of a SEQUENCE
abbrev pub sequence_read : Entries × Entries → Reading
sequence_read p = (components (components_of (p.0.0 ++ p.1.0)), p.0.1 ++ p.1.1)

-- what was skipped in elements, the first of which has this index
abbrev pub all_skipped : ℕ → List Reading → List SkippedAt
all_skipped i [] = []
all_skipped i (r ∷ rs) = map (inside (step.Element i)) r.1 ++ all_skipped (suc i) rs

-- the elements of a SEQUENCE OF
abbrev pub list_read : List Reading → Reading
list_read rs = (elements (elements_of (map (λ r. r.0) rs)), all_skipped zero rs)

-- an alternative that the type has
abbrev pub alternative_read : ℕ → Reading → Reading
alternative_read tag r = (alternative tag r.0, r.1)

-- one that it has not
abbrev pub alternative_skipped : ℕ → SkippedAt → Reading
alternative_skipped tag s = (unknown_alternative tag, s ∷ [])

-- an item that it has not
abbrev pub item_skipped : ℤ → Reading
item_skipped z = (unknown_item z, [])
