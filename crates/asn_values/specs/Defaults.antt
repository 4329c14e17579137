-- Which values may be a DEFAULT.
use Rattle.std.specs.Prelude.{◌≡◌, ◌≢◌, ◌↔◌, true, false, IsFalse, ⊤}
use Rattle.asn_values.specs.Datum.{Datum}
use Rattle.asn_values.specs.Shape.{Shape, boolean, integer, enumerated, closed_labels}
use Rattle.asn_values.specs.Fits.{Fits}
use Rattle.asn_values.specs.Profile.{empty_range, good_default}

-- BOOLEAN, and INTEGER and ENUMERATED without a mark
abbrev pub TakesDefault : Shape → Type 0
TakesDefault boolean = ⊤
TakesDefault (integer b) = IsFalse b.extensible
TakesDefault (enumerated root closed_labels) = ⊤
TakesDefault _ = ⊥

-- a value of such a type, which has another one
abbrev pub MayBeDefault : Shape → Datum → Type 0
MayBeDefault t d = TakesDefault t × Fits t d × ((e : Datum) × Fits t e × (d ≢ e))

-- the test says so
abbrev pub DefaultsAreJudged : Type 0
DefaultsAreJudged = (t : Shape) (d : Datum) → empty_range t ≡ false → (good_default t d ≡ true) ↔ MayBeDefault t d
