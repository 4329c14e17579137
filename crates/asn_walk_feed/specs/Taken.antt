-- Where a reader of messages in pieces was cut: which units brought it there.
use Rattle.std.specs.Prelude.{◌≡◌, ℕ, Bool, List, [], ◌∷◌, ◌++◌, map, Option, Some, None, ⊤}
use mathlib.Core.Logic.{inl, inr}
use Rattle.asn_values.specs.Datum.{Datum}
use Rattle.asn_values.specs.Profile.{InProfile}
use Rattle.asn_values.specs.declared.value.Value.{Value}
use Rattle.asn_values.specs.Shape.{SizeRange, Shape, bit_string, octet_string, restricted, utf8_string, sequence, sequence_of, choice, Fields, MoreFields, Alternatives, MoreAlternatives, count}
use Rattle.asn_values.specs.View.{Part, datum_of, entries_seen}
use Rattle.asn_rules.specs.Languages.{Spells, Short}
use Rattle.asn_rules.specs.Listed.{Spelt, Entry, bitmap_length}
use Rattle.asn_rules.specs.Stops.{Stops}
use Rattle.asn_rules.specs.declared.stop.Stop.{Stop}
use Rattle.asn_rules.specs.declared.stop.Stop.TheVariants as stop
use Rattle.asn_walk.specs.Ahead.{Ahead}
use Rattle.asn_walk.specs.Coding.{Coding, ListingOf, PreambleOf, added, IndexOf, added_alternatives}
use Rattle.asn_walk_feed.specs.Additions.{BitmapGoesOn, NextAdditionTook, AdditionsGoOn}
use Rattle.asn_walk_feed.specs.Chosen.{AlternativeTook, ChoiceGoesOn}
use Rattle.asn_walk_feed.specs.Feeding.{NextOf, Waits}
use Rattle.asn_walk_feed.specs.Items.{GoesOn, NextPart, ElementCame}
use Rattle.asn_walk_feed.specs.Octets.{OctetsOf, OctetsTook, OctetsGoOn}
use Rattle.asn_walk_feed.specs.OpenFields.{FieldCoding}
use Rattle.asn_walk_feed.specs.Roots.{OtherTook, EntryTook, NextTook, RootGoesOn}
use Rattle.asn_walk_feed.specs.Weights.{NoItem}
use Rattle.asn_walk_feed.specs.declared.frame.Components.{Components}
use Rattle.asn_walk_feed.specs.declared.frame.Elements.{Elements}
use Rattle.asn_walk_feed.specs.declared.frame.Frame.{Frame}
use Rattle.asn_walk_feed.specs.declared.frame.Frame.TheVariants as frame

-- ---- a value

-- the units us are those that have come of a value of the type, of which these nodes have begun
abbrev pub Took : {F : Type 0} → Coding → FieldCoding → (F → Ahead) → (F → Type 0) → List (Frame F) → Shape → List ℕ
    → Type 0
Took c fc ahead between [] t us = us ≡ []
Took c fc ahead between (frame.Start b ∷ []) (sequence_of t s) us = Waits c (c.list_start s) b us
Took c fc ahead between (frame.Start b ∷ []) (sequence root more) us =
    Waits c (PreambleOf c (bitmap_length root) (added more)) b us
Took c fc ahead between (frame.Start b ∷ []) (choice root more) us =
    Waits c (IndexOf c (count root) (added_alternatives more)) b us
Took c fc ahead between (frame.Start b ∷ []) (bit_string s) us = Waits c (fc.string (bit_string s)).start b us
Took c fc ahead between (frame.Start b ∷ []) (octet_string s) us = Waits c (fc.string (octet_string s)).start b us
Took c fc ahead between (frame.Start b ∷ []) (restricted k s) us = Waits c (fc.string (restricted k s)).start b us
Took c fc ahead between (frame.Start b ∷ []) utf8_string us = Waits c (fc.string utf8_string).start b us
Took c fc ahead between (frame.Start b ∷ []) t us = Waits c (Spelt c.code None t) b us
Took c fc ahead between (frame.Start b ∷ f ∷ fs) t us = ⊥
Took c fc ahead between (frame.Elements q ∷ fs) (sequence_of t s) us =
    GoesOn c ahead between NoItem (Spelt c.code None t) (ListingOf c s (Spelt c.code None t)) datum_of q
    (NextPart q.left fs (λ come. Waits c (NextOf (ahead q.fragments)) q.next_part come)
    (λ come. ElementCame c q.next_part fs t (λ vs. Took c fc ahead between fs t vs) come)) us []
Took c fc ahead between (frame.Elements q ∷ fs) t us = ⊥
Took c fc ahead between (frame.Components q ∷ fs) (sequence root more) us =
    RootGoesOn c root more q
    (λ rest come. NextTook c fs (λ t vs. Took c fc ahead between fs t vs) rest q.presence.left q.presence.bitmap come)
    us []
Took c fc ahead between (frame.Components q ∷ fs) t us = ⊥
Took c fc ahead between (frame.Bitmap p ∷ fs) (sequence root more) us =
    (fs ≡ []) × BitmapGoesOn c root more (entries_seen p.entries.items) p.begun us []
Took c fc ahead between (frame.Bitmap p ∷ fs) t us = ⊥
Took c fc ahead between (frame.Additions q ∷ fs) (sequence root more) us = AdditionsGoOn c root more q
    (λ come. NextAdditionTook c fc ahead between fs q.presence.left q.presence.bitmap come) us []
Took c fc ahead between (frame.Additions q ∷ fs) t us = ⊥
Took c fc ahead between (frame.Chosen i ∷ fs) (choice root more) us =
    ChoiceGoesOn c root more (inl i) (λ come. AlternativeTook (λ t vs. Took c fc ahead between fs t vs) root i come) us
    []
Took c fc ahead between (frame.Chosen i ∷ fs) t us = ⊥
Took c fc ahead between (frame.Added i ∷ fs) (choice root more) us =
    ChoiceGoesOn c root more (inr i) (λ come. OctetsTook c fc.open_type ahead between fs come) us []
Took c fc ahead between (frame.Added i ∷ fs) t us = ⊥
Took c fc ahead between (frame.Octets q ∷ fs) (bit_string s) us =
    (fs ≡ []) × Short c.ruling.fielding (OctetsOf (fc.string (bit_string s))) us
    × OctetsGoOn c (fc.string (bit_string s)) ahead between q us []
Took c fc ahead between (frame.Octets q ∷ fs) (octet_string s) us =
    (fs ≡ []) × Short c.ruling.fielding (OctetsOf (fc.string (octet_string s))) us
    × OctetsGoOn c (fc.string (octet_string s)) ahead between q us []
Took c fc ahead between (frame.Octets q ∷ fs) (restricted k s) us =
    (fs ≡ []) × Short c.ruling.fielding (OctetsOf (fc.string (restricted k s))) us
    × OctetsGoOn c (fc.string (restricted k s)) ahead between q us []
Took c fc ahead between (frame.Octets q ∷ fs) utf8_string us =
    (fs ≡ []) × Short c.ruling.fielding (OctetsOf (fc.string utf8_string)) us
    × OctetsGoOn c (fc.string utf8_string) ahead between q us []
Took c fc ahead between (frame.Octets q ∷ fs) t us = ⊥

-- the units that have come of an element of a list: those that wait, or those that brought it to its nodes
abbrev pub ElementTook : {F : Type 0} → Coding → FieldCoding → (F → Ahead) → (F → Type 0) → List ℕ → List (Frame F)
    → Shape → List ℕ → Type 0
ElementTook c fc ahead between begun fs t us = ElementCame c begun fs t (λ vs. Took c fc ahead between fs t vs) us

-- a list of elements of the type, read so far, of whose next part these nodes have begun
abbrev pub ListGoesOn : {F : Type 0} → Coding → FieldCoding → (F → Ahead) → (F → Type 0) → Shape → SizeRange
    → Elements F Value → List (Frame F) → List ℕ → List ℕ → Type 0
ListGoesOn c fc ahead between t s q fs all units =
    GoesOn c ahead between NoItem (Spelt c.code None t) (ListingOf c s (Spelt c.code None t)) datum_of q
    (NextPart q.left fs (λ come. Waits c (NextOf (ahead q.fragments)) q.next_part come)
    (λ come. ElementTook c fc ahead between q.next_part fs t come)) all units

-- the root of a SEQUENCE, read so far, of whose next component these nodes have begun
abbrev pub RootReached : {F : Type 0} → Coding → FieldCoding → (F → Ahead) → (F → Type 0) → Fields → MoreFields
    → Components → List (Frame F) → List ℕ → List ℕ → Type 0
RootReached c fc ahead between root more q fs all units =
    RootGoesOn c root more q
    (λ rest come. NextTook c fs (λ t vs. Took c fc ahead between fs t vs) rest q.presence.left q.presence.bitmap come)
    all units

-- the units that have come of a component, of which these nodes have begun
abbrev pub ComponentTook : {F : Type 0} → Coding → FieldCoding → (F → Ahead) → (F → Type 0) → List (Frame F) → Part
    → Bool → List ℕ → Type 0
ComponentTook c fc ahead between fs p present us = EntryTook c fs (λ t vs. Took c fc ahead between fs t vs) p present us

-- a CHOICE of which the index is read, of the value of whose alternative these nodes have begun
abbrev pub ChoiceReached : {F : Type 0} → Coding → FieldCoding → (F → Ahead) → (F → Type 0) → Alternatives
    → MoreAlternatives → ℕ → List (Frame F) → List ℕ → List ℕ → Type 0
ChoiceReached c fc ahead between root more i fs all units =
    ChoiceGoesOn c root more (inl i) (λ come. AlternativeTook (λ t vs. Took c fc ahead between fs t vs) root i come) all
    units

-- the same, where it is among the additions, of the open type field of the value
abbrev pub AdditionReached : {F : Type 0} → Coding → FieldCoding → (F → Ahead) → (F → Type 0) → Alternatives
    → MoreAlternatives → ℕ → List (Frame F) → List ℕ → List ℕ → Type 0
AdditionReached c fc ahead between root more i fs all units =
    ChoiceGoesOn c root more (inr i) (λ come. OctetsTook c fc.open_type ahead between fs come) all units

-- where more units are wanted, the nodes tell which have come
abbrev pub KeepsFrames : {F : Type 0} → Coding → FieldCoding → (F → Ahead) → (F → Type 0) → List (Frame F) → Shape
    → List ℕ → Stop → Type 0
KeepsFrames c fc ahead between fs t us (stop.Refused left why) = ⊤
KeepsFrames c fc ahead between fs t us stop.Short = Took c fc ahead between fs t us
KeepsFrames c fc ahead between fs t us stop.Memory = ⊤

-- ---- what is answered, of the units that had come and those of the piece

-- a value, of which these nodes had begun
abbrev pub ReadsOn : {F : Type 0} → Coding → FieldCoding → (F → Ahead) → (F → Type 0) → List (Frame F) → Shape → Datum
    → List ℕ → List ℕ → Type 0
ReadsOn c fc ahead between fs t v old new = (us : List ℕ) → Took c fc ahead between fs t us
    → Spells c.ruling.fielding (Spelt c.code None t) v (us ++ c.to_units old) (c.to_units new)

-- why there is none
abbrev pub StopsOn : {F : Type 0} → Coding → FieldCoding → (F → Ahead) → (F → Type 0) → List (Frame F) → Shape → List ℕ
    → Stop → Type 0
StopsOn c fc ahead between fs t old why = (us : List ℕ) → Took c fc ahead between fs t us
    → Stops c.ruling.fielding (Spelt c.code None t) (us ++ c.to_units old) why

-- where more units are wanted, these nodes have begun then
abbrev pub KeepsOn : {F : Type 0} → Coding → FieldCoding → (F → Ahead) → (F → Type 0) → List (Frame F) → List (Frame F)
    → Shape → List ℕ → Stop → Type 0
KeepsOn c fc ahead between fs gs t old why = (us : List ℕ) → Took c fc ahead between fs t us
    → KeepsFrames c fc ahead between gs t (us ++ c.to_units old) why

-- the same of an element of a list, of which these units wait, or these nodes had begun
abbrev pub ReadsOneElementOn : {F : Type 0} → Coding → FieldCoding → (F → Ahead) → (F → Type 0) → List ℕ
    → List (Frame F) → Shape → Datum → List ℕ → List ℕ → Type 0
ReadsOneElementOn c fc ahead between begun fs t v old new =
    (us : List ℕ) → ElementTook c fc ahead between begun fs t us
    → Spells c.ruling.fielding (Spelt c.code None t) v (us ++ c.to_units old) (c.to_units new)

abbrev pub StopsOneElementOn : {F : Type 0} → Coding → FieldCoding → (F → Ahead) → (F → Type 0) → List ℕ
    → List (Frame F) → Shape → List ℕ → Stop → Type 0
StopsOneElementOn c fc ahead between begun fs t old why =
    (us : List ℕ) → ElementTook c fc ahead between begun fs t us
    → Stops c.ruling.fielding (Spelt c.code None t) (us ++ c.to_units old) why

abbrev pub KeepsElement : {F : Type 0} → Coding → FieldCoding → (F → Ahead) → (F → Type 0) → List ℕ → List (Frame F)
    → Shape → List ℕ → Stop → Type 0
KeepsElement c fc ahead between begun fs t us (stop.Refused left why) = ⊤
KeepsElement c fc ahead between begun fs t us stop.Short = ElementTook c fc ahead between begun fs t us
KeepsElement c fc ahead between begun fs t us stop.Memory = ⊤

abbrev pub KeepsElementOn : {F : Type 0} → Coding → FieldCoding → (F → Ahead) → (F → Type 0) → List ℕ → List (Frame F)
    → List ℕ → List (Frame F) → Shape → List ℕ → Stop → Type 0
KeepsElementOn c fc ahead between begun fs begun' gs t old why =
    (us : List ℕ) → ElementTook c fc ahead between begun fs t us
    → KeepsElement c fc ahead between begun' gs t (us ++ c.to_units old) why

-- the same of a list of elements of the type t, read so far: a value of it
abbrev pub ReadsListOn : {F : Type 0} → Coding → FieldCoding → (F → Ahead) → (F → Type 0) → Shape → SizeRange
    → Elements F Value → List (Frame F) → Datum → List ℕ → List ℕ → Type 0
ReadsListOn c fc ahead between t s q fs v old new =
    (all : List ℕ) → ListGoesOn c fc ahead between t s q fs all (c.to_units old)
    → Spells c.ruling.fielding (Spelt c.code None (sequence_of t s)) v all (c.to_units new)

abbrev pub StopsListOn : {F : Type 0} → Coding → FieldCoding → (F → Ahead) → (F → Type 0) → Shape → SizeRange
    → Elements F Value → List (Frame F) → List ℕ → Stop → Type 0
StopsListOn c fc ahead between t s q fs old why =
    (all : List ℕ) → ListGoesOn c fc ahead between t s q fs all (c.to_units old)
    → Stops c.ruling.fielding (Spelt c.code None (sequence_of t s)) all why

abbrev pub KeepsListOn : {F : Type 0} → Coding → FieldCoding → (F → Ahead) → (F → Type 0) → Shape → SizeRange
    → Elements F Value → List (Frame F) → List (Frame F) → List ℕ → Stop → Type 0
KeepsListOn c fc ahead between t s q fs gs old why =
    (all : List ℕ) → ListGoesOn c fc ahead between t s q fs all (c.to_units old)
    → KeepsFrames c fc ahead between gs (sequence_of t s) all why

-- its elements
abbrev pub ReadsElementsOn : {F : Type 0} → Coding → FieldCoding → (F → Ahead) → (F → Type 0) → Shape → SizeRange
    → Elements F Value → List (Frame F) → Elements F Value → List ℕ → List ℕ → Type 0
ReadsElementsOn c fc ahead between t s q fs p old new =
    (all : List ℕ) → ListGoesOn c fc ahead between t s q fs all (c.to_units old)
    → Spells c.ruling.fielding (ListingOf c s (Spelt c.code None t)) (map datum_of p.elements.items) all
    (c.to_units new)

abbrev pub StopsElementsOn : {F : Type 0} → Coding → FieldCoding → (F → Ahead) → (F → Type 0) → Shape → SizeRange
    → Elements F Value → List (Frame F) → List ℕ → Stop → Type 0
StopsElementsOn c fc ahead between t s q fs old why =
    (all : List ℕ) → ListGoesOn c fc ahead between t s q fs all (c.to_units old)
    → Stops c.ruling.fielding (ListingOf c s (Spelt c.code None t)) all why

-- it is read so far then
abbrev pub GoesOnTo : {F : Type 0} → Coding → FieldCoding → (F → Ahead) → (F → Type 0) → Shape → SizeRange
    → Elements F Value → List (Frame F) → List ℕ → Elements F Value → List (Frame F) → List ℕ → Type 0
GoesOnTo c fc ahead between t s q fs old p gs new =
    (all : List ℕ) → ListGoesOn c fc ahead between t s q fs all (c.to_units old)
    → ListGoesOn c fc ahead between t s p gs all (c.to_units new)

-- it holds under every size that a list of such elements has in the profile
abbrev pub UnderEachSize : Shape → (SizeRange → Type 0) → Type 0
UnderEachSize t P = (s : SizeRange) → InProfile (sequence_of t s) → P s

-- it holds for a SEQUENCE of this root, with an extension mark or without one
abbrev pub UnderEachMark : Fields → (MoreFields → Type 0) → Type 0
UnderEachMark root P = (more : MoreFields) → InProfile (sequence root more) → P more

-- the same of the root of a SEQUENCE, read so far: a value of it
abbrev pub ReadsRootOn : {F : Type 0} → Coding → FieldCoding → (F → Ahead) → (F → Type 0) → Fields → MoreFields
    → Components → List (Frame F) → Datum → List ℕ → List ℕ → Type 0
ReadsRootOn c fc ahead between root more q fs v old new =
    (all : List ℕ) → RootReached c fc ahead between root more q fs all (c.to_units old)
    → Spells c.ruling.fielding (Spelt c.code None (sequence root more)) v all (c.to_units new)

abbrev pub StopsRootOn : {F : Type 0} → Coding → FieldCoding → (F → Ahead) → (F → Type 0) → Fields → MoreFields
    → Components → List (Frame F) → List ℕ → Stop → Type 0
StopsRootOn c fc ahead between root more q fs old why =
    (all : List ℕ) → RootReached c fc ahead between root more q fs all (c.to_units old)
    → Stops c.ruling.fielding (Spelt c.code None (sequence root more)) all why

abbrev pub KeepsRootOn : {F : Type 0} → Coding → FieldCoding → (F → Ahead) → (F → Type 0) → Fields → MoreFields
    → Components → List (Frame F) → List (Frame F) → List ℕ → Stop → Type 0
KeepsRootOn c fc ahead between root more q fs gs old why =
    (all : List ℕ) → RootReached c fc ahead between root more q fs all (c.to_units old)
    → KeepsFrames c fc ahead between gs (sequence root more) all why

-- it is read so far then
abbrev pub RootGoesOnTo : {F : Type 0} → Coding → FieldCoding → (F → Ahead) → (F → Type 0) → Fields → MoreFields
    → Components → List (Frame F) → List ℕ → Components → List (Frame F) → List ℕ → Type 0
RootGoesOnTo c fc ahead between root more q fs old p gs new =
    (all : List ℕ) → RootReached c fc ahead between root more q fs all (c.to_units old)
    → RootReached c fc ahead between root more p gs all (c.to_units new)

-- it holds for a CHOICE of this root, with an extension mark or without one
abbrev pub UnderEachChoice : Alternatives → (MoreAlternatives → Type 0) → Type 0
UnderEachChoice root P = (more : MoreAlternatives) → InProfile (choice root more) → P more

-- the same of a CHOICE of which the index is read
abbrev pub ReadsChoiceOn : {F : Type 0} → Coding → FieldCoding → (F → Ahead) → (F → Type 0) → Alternatives
    → MoreAlternatives → ℕ → List (Frame F) → Datum → List ℕ → List ℕ → Type 0
ReadsChoiceOn c fc ahead between root more i fs v old new =
    (all : List ℕ) → ChoiceReached c fc ahead between root more i fs all (c.to_units old)
    → Spells c.ruling.fielding (Spelt c.code None (choice root more)) v all (c.to_units new)

abbrev pub StopsChoiceOn : {F : Type 0} → Coding → FieldCoding → (F → Ahead) → (F → Type 0) → Alternatives
    → MoreAlternatives → ℕ → List (Frame F) → List ℕ → Stop → Type 0
StopsChoiceOn c fc ahead between root more i fs old why =
    (all : List ℕ) → ChoiceReached c fc ahead between root more i fs all (c.to_units old)
    → Stops c.ruling.fielding (Spelt c.code None (choice root more)) all why

abbrev pub KeepsChoiceOn : {F : Type 0} → Coding → FieldCoding → (F → Ahead) → (F → Type 0) → Alternatives
    → MoreAlternatives → ℕ → List (Frame F) → List (Frame F) → List ℕ → Stop → Type 0
KeepsChoiceOn c fc ahead between root more i fs gs old why =
    (all : List ℕ) → ChoiceReached c fc ahead between root more i fs all (c.to_units old)
    → KeepsFrames c fc ahead between gs (choice root more) all why

-- the same where the index is among the additions
abbrev pub ReadsAdditionOn : {F : Type 0} → Coding → FieldCoding → (F → Ahead) → (F → Type 0) → Alternatives
    → MoreAlternatives → ℕ → List (Frame F) → Datum → List ℕ → List ℕ → Type 0
ReadsAdditionOn c fc ahead between root more i fs v old new =
    (all : List ℕ) → AdditionReached c fc ahead between root more i fs all (c.to_units old)
    → Spells c.ruling.fielding (Spelt c.code None (choice root more)) v all (c.to_units new)

abbrev pub StopsAdditionOn : {F : Type 0} → Coding → FieldCoding → (F → Ahead) → (F → Type 0) → Alternatives
    → MoreAlternatives → ℕ → List (Frame F) → List ℕ → Stop → Type 0
StopsAdditionOn c fc ahead between root more i fs old why =
    (all : List ℕ) → AdditionReached c fc ahead between root more i fs all (c.to_units old)
    → Stops c.ruling.fielding (Spelt c.code None (choice root more)) all why

abbrev pub KeepsAdditionOn : {F : Type 0} → Coding → FieldCoding → (F → Ahead) → (F → Type 0) → Alternatives
    → MoreAlternatives → ℕ → List (Frame F) → List (Frame F) → List ℕ → Stop → Type 0
KeepsAdditionOn c fc ahead between root more i fs gs old why =
    (all : List ℕ) → AdditionReached c fc ahead between root more i fs all (c.to_units old)
    → KeepsFrames c fc ahead between gs (choice root more) all why

-- the same of a component
abbrev pub ReadsComponentOn : {F : Type 0} → Coding → FieldCoding → (F → Ahead) → (F → Type 0) → List (Frame F) → Part
    → Bool → Option Datum → List ℕ → List ℕ → Type 0
ReadsComponentOn c fc ahead between fs p present e old new =
    (us : List ℕ) → ComponentTook c fc ahead between fs p present us
    → Spells c.ruling.fielding (Entry c.code p.demand p.shape present) e (us ++ c.to_units old) (c.to_units new)

abbrev pub StopsComponentOn : {F : Type 0} → Coding → FieldCoding → (F → Ahead) → (F → Type 0) → List (Frame F) → Part
    → Bool → List ℕ → Stop → Type 0
StopsComponentOn c fc ahead between fs p present old why =
    (us : List ℕ) → ComponentTook c fc ahead between fs p present us
    → Stops c.ruling.fielding (Entry c.code p.demand p.shape present) (us ++ c.to_units old) why

abbrev pub KeepsComponent : {F : Type 0} → Coding → FieldCoding → (F → Ahead) → (F → Type 0) → List (Frame F) → Part
    → Bool → List ℕ → Stop → Type 0
KeepsComponent c fc ahead between fs p present us (stop.Refused left why) = ⊤
KeepsComponent c fc ahead between fs p present us stop.Short = ComponentTook c fc ahead between fs p present us
KeepsComponent c fc ahead between fs p present us stop.Memory = ⊤

abbrev pub KeepsComponentOn : {F : Type 0} → Coding → FieldCoding → (F → Ahead) → (F → Type 0) → List (Frame F)
    → List (Frame F) → Part → Bool → List ℕ → Stop → Type 0
KeepsComponentOn c fc ahead between fs gs p present old why =
    (us : List ℕ) → ComponentTook c fc ahead between fs p present us
    → KeepsComponent c fc ahead between gs p present (us ++ c.to_units old) why

-- the same of a value that is not this DEFAULT
abbrev pub ReadsOtherOn : {F : Type 0} → Coding → List (Frame F) → Datum → Shape → Datum → List ℕ → List ℕ → Type 0
ReadsOtherOn c fs d t v old new = (us : List ℕ) → OtherTook c fs d t us
    → Spells c.ruling.fielding (Spelt c.code (Some d) t) v (us ++ c.to_units old) (c.to_units new)

abbrev pub StopsOtherOn : {F : Type 0} → Coding → List (Frame F) → Datum → Shape → List ℕ → Stop → Type 0
StopsOtherOn c fs d t old why = (us : List ℕ) → OtherTook c fs d t us
    → Stops c.ruling.fielding (Spelt c.code (Some d) t) (us ++ c.to_units old) why

abbrev pub KeepsOther : {F : Type 0} → Coding → List (Frame F) → Datum → Shape → List ℕ → Stop → Type 0
KeepsOther c fs d t us (stop.Refused left why) = ⊤
KeepsOther c fs d t us stop.Short = OtherTook c fs d t us
KeepsOther c fs d t us stop.Memory = ⊤

abbrev pub KeepsOtherOn : {F : Type 0} → Coding → List (Frame F) → List (Frame F) → Datum → Shape → List ℕ → Stop
    → Type 0
KeepsOtherOn c fs gs d t old why = (us : List ℕ) → OtherTook c fs d t us
    → KeepsOther c gs d t (us ++ c.to_units old) why

-- ---- the outermost node

abbrev pub IsStart : {F : Type 0} → Option (Frame F) → Type 0
IsStart None = ⊤
IsStart (Some (frame.Start b)) = ⊤
IsStart (Some (frame.Elements q)) = ⊥
IsStart (Some (frame.Components q)) = ⊥
IsStart (Some (frame.Bitmap p)) = ⊥
IsStart (Some (frame.Additions q)) = ⊥
IsStart (Some (frame.Chosen i)) = ⊥
IsStart (Some (frame.Added i)) = ⊥
IsStart (Some (frame.Octets q)) = ⊥

-- the units of its first part that have come
abbrev pub begun_of : {F : Type 0} → Option (Frame F) → List ℕ
begun_of None = []
begun_of (Some (frame.Start b)) = b
begun_of (Some (frame.Elements q)) = []
begun_of (Some (frame.Components q)) = []
begun_of (Some (frame.Bitmap p)) = []
begun_of (Some (frame.Additions q)) = []
begun_of (Some (frame.Chosen i)) = []
begun_of (Some (frame.Added i)) = []
begun_of (Some (frame.Octets q)) = []

-- it is put before the others
abbrev pub with_node : {F : Type 0} → Option (Frame F) → List (Frame F) → List (Frame F)
with_node None fs = fs
with_node (Some f) fs = f ∷ fs
