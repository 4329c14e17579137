-- The bits of a SEQUENCE in PER, part by part: those of the root, and those of the extension additions.
use Rattle.std.specs.Prelude.{◌≡◌, ℕ, true, List, ◌++◌, Option}
use Rattle.std.specs.List.{list_all}
use Rattle.asn_values.specs.Datum.{Datum}
use Rattle.asn_values.specs.Shape.{Fields, MoreFields, demands}
use Rattle.asn_values.specs.Profile.{is_optional}
use Rattle.asn_rules.specs.Chunks.{flat}
use Rattle.asn_rules.specs.Components.{presence}
use Rattle.asn_per.specs.Per.{spelled, per_additions}
use Rattle.asn_per.specs.Laws.{component_bits}

-- each component is OPTIONAL
abbrev pub AreOptional : Fields → Type 0
AreOptional fs = list_all is_optional (demands fs) ≡ true

-- the presence bits of the components of the root, and those that are spelt
abbrev pub root_bits : Fields → List (Option Datum) → List ℕ
root_bits fs es = presence (demands fs) es ++ component_bits fs es

-- the extension additions: nothing where none is present
abbrev pub addition_bits : MoreFields → List (Option Datum) → List ℕ
addition_bits more es = flat spelled (per_additions more es)
