-- What an encoder answers under a constraint that only measures, or writes into octets or an output that are there.
use Rattle.std.specs.Prelude.{◌≡◌, ℕ, true, List}
use Rattle.asn_values.specs.Datum.{Datum}
use Rattle.asn_values.specs.Shape.{Shape}
use Rattle.asn_values.specs.Fits.{Fits}
use Rattle.asn_rules.specs.Answer.{Ruling}
use Rattle.asn_rules.specs.Delivered.{NotDelivered}
use Rattle.asn_rules.specs.Faults.{State}
use Rattle.asn_rules.specs.Measured.{NotMeasured, NotPlaced}
use Rattle.asn_rules.specs.declared.fault.LengthFault.{LengthFault}
use Rattle.asn_rules.specs.declared.fault.LengthFault.TheVariants as length_fault
use Rattle.asn_rules.specs.declared.fault.EncodeIntoFault.{EncodeIntoFault}
use Rattle.asn_rules.specs.declared.fault.EncodeIntoFault.TheVariants as into
use Rattle.asn_rules.specs.declared.fault.EncodeToFault.{EncodeToFault}
use Rattle.asn_rules.specs.declared.fault.EncodeToFault.TheVariants as to
use Rattle.asn_constraints.specs.Constraints.{Constraint, meets}

-- it is no value of the type, or breaks the constraint
abbrev pub IsNone : Shape → Constraint → Datum → Type 0
IsNone t c v = Fits t v × (meets c v ≡ true) → ⊥

-- why the value v of the type t has no length under the constraint: it is none, or it meets the constraint, and as
-- without it
abbrev pub NotMeasuredUnder : Ruling → LengthFault → Shape → Constraint → Datum → Type 0
NotMeasuredUnder r length_fault.NotOfType t c v = IsNone t c v
NotMeasuredUnder r why t c v = NotMeasured r why t v × (meets c v ≡ true)

-- why its encoding is not in these octets
abbrev pub NotPlacedUnder : Ruling → EncodeIntoFault → Shape → Constraint → Datum → List ℕ → List ℕ → Type 0
NotPlacedUnder r into.NotOfType t c v old new = IsNone t c v × (new ≡ old)
NotPlacedUnder r why t c v old new = NotPlaced r why t v old new × (meets c v ≡ true)

-- why it was not written to an output
abbrev pub NotDeliveredUnder : Ruling → EncodeToFault → Shape → Constraint → Datum → Type 0 → State → State → Type 0
NotDeliveredUnder r to.NotOfType t c v untouched old new = IsNone t c v × untouched
NotDeliveredUnder r why t c v untouched old new = NotDelivered r why t v untouched old new × (meets c v ≡ true)
