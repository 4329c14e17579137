-- How a complete encoding goes on where a reader of it was cut: as the value does, of which this many units have come.
use Rattle.std.specs.Prelude.{◌≡◌, ◌++◌, ℕ, List, length}
use Rattle.asn_rules.specs.Languages.{Spells}
use Rattle.asn_rules.specs.Stops.{Stops}
use Rattle.asn_rules.specs.declared.stop.Stop.{Stop}
use Rattle.asn_values.specs.Datum.{Datum}
use Rattle.asn_values.specs.Shape.{Shape}
use Rattle.asn_walk.specs.Ahead.{Ahead}
use Rattle.asn_walk.specs.Coding.{Coding}
use Rattle.asn_walk.specs.Reading.{CompleteOf}
use Rattle.asn_walk_feed.specs.OpenFields.{FieldCoding}
use Rattle.asn_walk_feed.specs.Taken.{Took, KeepsFrames}
use Rattle.asn_walk_feed.specs.declared.frame.Frame.{Frame}

-- the value
abbrev pub ReadsCompleteOn : {F : Type 0} → Coding → FieldCoding → (F → Ahead) → (F → Type 0) → List (Frame F) → Shape
    → ℕ → Datum → List ℕ → List ℕ → Type 0
ReadsCompleteOn c fc ahead between fs t taken v old new =
    (us : List ℕ) → Took c fc ahead between fs t us → length us ≡ taken
    → Spells c.ruling.fielding (CompleteOf c t) v (us ++ c.to_units old) (c.to_units new)

-- why there is none
abbrev pub StopsCompleteOn : {F : Type 0} → Coding → FieldCoding → (F → Ahead) → (F → Type 0) → List (Frame F) → Shape
    → ℕ → List ℕ → Stop → Type 0
StopsCompleteOn c fc ahead between fs t taken old why =
    (us : List ℕ) → Took c fc ahead between fs t us → length us ≡ taken
    → Stops c.ruling.fielding (CompleteOf c t) (us ++ c.to_units old) why

-- where more units are wanted, these nodes have begun then
abbrev pub KeepsCompleteOn : {F : Type 0} → Coding → FieldCoding → (F → Ahead) → (F → Type 0) → List (Frame F)
    → List (Frame F) → Shape → ℕ → List ℕ → Stop → Type 0
KeepsCompleteOn c fc ahead between fs gs t taken old why =
    (us : List ℕ) → Took c fc ahead between fs t us → length us ≡ taken
    → KeepsFrames c fc ahead between gs t (us ++ c.to_units old) why
