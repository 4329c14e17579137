-- Values that have parts, and the first of their parts.
use Rattle.std.specs.Prelude.{List, [], ◌∷◌, Option, Some, None, ⊤}
use Rattle.asn_values.specs.Datum.{Datum, components, elements, alternative}

-- it is a SEQUENCE, a SEQUENCE OF or a CHOICE
abbrev pub HasParts : Datum → Type 0
HasParts (components es) = ⊤
HasParts (elements ds) = ⊤
HasParts (alternative n d) = ⊤
HasParts _ = ⊥

-- the first of the entries, which is absent where there is none
abbrev pub first_entry : List (Option Datum) → Option Datum
first_entry [] = None
first_entry (e ∷ es) = e

-- the first of the elements, if there is one
abbrev pub first_element : List Datum → Option Datum
first_element [] = None
first_element (d ∷ ds) = Some d
