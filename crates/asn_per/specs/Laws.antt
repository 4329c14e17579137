-- What holds of the spellings of all types of the profile in PER, beside what holds for any rules.
use Rattle.std.specs.Prelude.{◌≡◌, ◌↔◌, ℕ, true, List, [], Option}
use Rattle.asn_values.specs.Datum.{Datum}
use Rattle.asn_values.specs.Shape.{Shape, Fields}
use Rattle.asn_values.specs.Fits.{Fits}
use Rattle.asn_values.specs.Profile.{InProfile, no_bits}
use Rattle.asn_rules.specs.Chunks.{flat}
use Rattle.asn_per.specs.Per.{spelled, per, per_each}

-- the bits of a value
abbrev pub per_bits : Shape → Datum → List ℕ
per_bits t v = flat spelled (per t v)

-- the bits of the components that are spelt
abbrev pub component_bits : Fields → List (Option Datum) → List ℕ
component_bits fs es = flat spelled (per_each fs es)

-- no_bits holds of those types whose values are all spelt by nothing
abbrev pub NoBitsIsExact : Type 0
NoBitsIsExact = (t : Shape) → InProfile t → (no_bits t ≡ true) ↔ ((v : Datum) → Fits t v → per t v ≡ [])
