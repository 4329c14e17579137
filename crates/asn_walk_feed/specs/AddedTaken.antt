-- What is answered of the extension additions of a SEQUENCE of which some units have come.
use Rattle.std.specs.Prelude.{Bool, List, ◌++◌, ℕ, Option, None, ⊤}
use Rattle.asn_values.specs.Datum.{Datum}
use Rattle.asn_values.specs.Shape.{Shape, sequence, Fields, MoreFields}
use Rattle.asn_values.specs.View.{entries_seen}
use Rattle.asn_rules.specs.Languages.{Spells}
use Rattle.asn_rules.specs.Listed.{Spelt}
use Rattle.asn_rules.specs.Stops.{Stops}
use Rattle.asn_rules.specs.declared.stop.Stop.{Stop}
use Rattle.asn_rules.specs.declared.stop.Stop.TheVariants as stop
use Rattle.asn_walk.specs.Ahead.{Ahead}
use Rattle.asn_walk.specs.Coding.{Coding}
use Rattle.asn_walk_feed.specs.Additions.{AdditionOf, BitmapGoesOn, AdditionTook, NextAdditionTook, AdditionsGoOn}
use Rattle.asn_walk_feed.specs.OpenFields.{FieldCoding}
use Rattle.asn_walk_feed.specs.Taken.{KeepsFrames}
use Rattle.asn_walk_feed.specs.declared.frame.AdditionBits.{AdditionBits}
use Rattle.asn_walk_feed.specs.declared.frame.Components.{Components}
use Rattle.asn_walk_feed.specs.declared.frame.Frame.{Frame}

-- the presence bits of extension additions
abbrev pub BitmapReached : Coding → Fields → MoreFields → AdditionBits → List ℕ → List ℕ → Type 0
BitmapReached c root more p all units = BitmapGoesOn c root more (entries_seen p.entries.items) p.begun all units

abbrev pub ReadsBitmapOn : Coding → Fields → MoreFields → AdditionBits → Datum → List ℕ → List ℕ → Type 0
ReadsBitmapOn c root more p v old new = (all : List ℕ) → BitmapReached c root more p all (c.to_units old)
    → Spells c.ruling.fielding (Spelt c.code None (sequence root more)) v all (c.to_units new)

abbrev pub StopsBitmapOn : Coding → Fields → MoreFields → AdditionBits → List ℕ → Stop → Type 0
StopsBitmapOn c root more p old why = (all : List ℕ) → BitmapReached c root more p all (c.to_units old)
    → Stops c.ruling.fielding (Spelt c.code None (sequence root more)) all why

abbrev pub KeepsBitmapOn : {F : Type 0} → Coding → FieldCoding → (F → Ahead) → (F → Type 0) → Fields → MoreFields
    → AdditionBits → List (Frame F) → List ℕ → Stop → Type 0
KeepsBitmapOn c fc ahead between root more p gs old why =
    (all : List ℕ) → BitmapReached c root more p all (c.to_units old)
    → KeepsFrames c fc ahead between gs (sequence root more) all why

-- the same of the additions, read so far
abbrev pub AdditionsReached : {F : Type 0} → Coding → FieldCoding → (F → Ahead) → (F → Type 0) → Fields → MoreFields
    → Components → List (Frame F) → List ℕ → List ℕ → Type 0
AdditionsReached c fc ahead between root more q fs all units = AdditionsGoOn c root more q
    (λ come. NextAdditionTook c fc ahead between fs q.presence.left q.presence.bitmap come) all units

abbrev pub ReadsAdditionsOn : {F : Type 0} → Coding → FieldCoding → (F → Ahead) → (F → Type 0) → Fields → MoreFields
    → Components → List (Frame F) → Datum → List ℕ → List ℕ → Type 0
ReadsAdditionsOn c fc ahead between root more q fs v old new =
    (all : List ℕ) → AdditionsReached c fc ahead between root more q fs all (c.to_units old)
    → Spells c.ruling.fielding (Spelt c.code None (sequence root more)) v all (c.to_units new)

abbrev pub StopsAdditionsOn : {F : Type 0} → Coding → FieldCoding → (F → Ahead) → (F → Type 0) → Fields → MoreFields
    → Components → List (Frame F) → List ℕ → Stop → Type 0
StopsAdditionsOn c fc ahead between root more q fs old why =
    (all : List ℕ) → AdditionsReached c fc ahead between root more q fs all (c.to_units old)
    → Stops c.ruling.fielding (Spelt c.code None (sequence root more)) all why

abbrev pub KeepsAdditionsOn : {F : Type 0} → Coding → FieldCoding → (F → Ahead) → (F → Type 0) → Fields → MoreFields
    → Components → List (Frame F) → List (Frame F) → List ℕ → Stop → Type 0
KeepsAdditionsOn c fc ahead between root more q fs gs old why =
    (all : List ℕ) → AdditionsReached c fc ahead between root more q fs all (c.to_units old)
    → KeepsFrames c fc ahead between gs (sequence root more) all why

abbrev pub AdditionsGoOnTo : {F : Type 0} → Coding → FieldCoding → (F → Ahead) → (F → Type 0) → Fields → MoreFields
    → Components → List (Frame F) → List ℕ → Components → List (Frame F) → List ℕ → Type 0
AdditionsGoOnTo c fc ahead between root more q fs old p gs new =
    (all : List ℕ) → AdditionsReached c fc ahead between root more q fs all (c.to_units old)
    → AdditionsReached c fc ahead between root more p gs all (c.to_units new)

-- the same of an addition
abbrev pub ReadsOneAdditionOn : {F : Type 0} → Coding → FieldCoding → (F → Ahead) → (F → Type 0) → List (Frame F)
    → Shape → Bool → Option Datum → List ℕ → List ℕ → Type 0
ReadsOneAdditionOn c fc ahead between fs t present e old new =
    (us : List ℕ) → AdditionTook c fc ahead between fs present us
    → Spells c.ruling.fielding (AdditionOf c t present) e (us ++ c.to_units old) (c.to_units new)

abbrev pub StopsOneAdditionOn : {F : Type 0} → Coding → FieldCoding → (F → Ahead) → (F → Type 0) → List (Frame F)
    → Shape → Bool → List ℕ → Stop → Type 0
StopsOneAdditionOn c fc ahead between fs t present old why =
    (us : List ℕ) → AdditionTook c fc ahead between fs present us
    → Stops c.ruling.fielding (AdditionOf c t present) (us ++ c.to_units old) why

abbrev pub KeepsOneAddition : {F : Type 0} → Coding → FieldCoding → (F → Ahead) → (F → Type 0) → List (Frame F) → Bool
    → List ℕ → Stop → Type 0
KeepsOneAddition c fc ahead between fs present us (stop.Refused left why) = ⊤
KeepsOneAddition c fc ahead between fs present us stop.Short = AdditionTook c fc ahead between fs present us
KeepsOneAddition c fc ahead between fs present us stop.Memory = ⊤

abbrev pub KeepsOneAdditionOn : {F : Type 0} → Coding → FieldCoding → (F → Ahead) → (F → Type 0) → List (Frame F)
    → List (Frame F) → Bool → List ℕ → Stop → Type 0
KeepsOneAdditionOn c fc ahead between fs gs present old why =
    (us : List ℕ) → AdditionTook c fc ahead between fs present us
    → KeepsOneAddition c fc ahead between gs present (us ++ c.to_units old) why
