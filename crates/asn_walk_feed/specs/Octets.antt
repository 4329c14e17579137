-- How octets that stand in fragments go on where a reader of them was cut: those of an open type field, and the items
-- of a string, each of which the program holds as an octet.
use Rattle.std.specs.Prelude.{◌≡◌, ◌∷◌, ◌++◌, ℕ, List, [], Option, Some, None, ⊤}
use Rattle.asn_rules.specs.Chunks.{Chunk}
use Rattle.asn_rules.specs.Languages.{Spells, Short, Lawful, Inhabited, Map, Then}
use Rattle.asn_rules.specs.Stops.{Stops}
use Rattle.asn_rules.specs.declared.stop.Stop.{Stop}
use Rattle.asn_rules.specs.declared.stop.Stop.TheVariants as stop
use Rattle.asn_walk.specs.Ahead.{Ahead, Remaining, SomeAhead}
use Rattle.asn_walk.specs.Coding.{Coding}
use Rattle.asn_walk.proofs.Listing.{Appends}
use Rattle.asn_walk_feed.specs.Feeding.{IsBrief, Waits}
use Rattle.asn_walk_feed.specs.Items.{ItemsGoOn}
use Rattle.asn_walk_feed.specs.declared.frame.Elements.{Elements}
use Rattle.asn_walk_feed.specs.declared.frame.Frame.{Frame}
use Rattle.asn_walk_feed.specs.declared.frame.Frame.TheVariants as frame
use Rattle.asn_walk_feed.specs.declared.frame.ItemsStart.{ItemsStart}

-- ---- what a set of encoding rules says of them

-- what stands before the octets, up to the first length, where the first of them may stand, and an octet
pub record OctetCoding : Type 1 where
  pub start : List ℕ × Ahead → List Chunk → Type 0
  pub octet : ℕ → List Chunk → Type 0

-- those that stand there, and those that are ahead
abbrev pub all_octets : (List ℕ × Ahead) × List ℕ → List ℕ
all_octets p = p.0.0 ++ p.1

-- what stands before them, and then the octets that are ahead
abbrev pub OctetsOf : OctetCoding → List ℕ → List Chunk → Type 0
OctetsOf f = Map all_octets (Then f.start (λ p. Remaining f.octet p.1))

-- those that stand before the first length
abbrev pub FirstOf : OctetCoding → List ℕ → List Chunk → Type 0
FirstOf f vs cs = (a : Ahead) × f.start (vs, a) cs

-- none of them stands before the first length
abbrev pub no_first : Ahead → List ℕ × Ahead
no_first a = ([], a)

abbrev pub NoFirst : (Ahead → List Chunk → Type 0) → List ℕ × Ahead → List Chunk → Type 0
NoFirst L = Map no_first L

-- the same of what the program holds
abbrev pub first_octets : Option ℕ → List ℕ
first_octets None = []
first_octets (Some o) = o ∷ []

abbrev pub start_seen : {F : Type 0} → (F → Ahead) → ItemsStart F → List ℕ × Ahead
start_seen ahead s = (first_octets s.first, ahead s.fragments)

-- the laws of these parts
pub record OctetLaws (c : Coding) (f : OctetCoding) : Type 0 where
  pub start : Lawful f.start
  pub ahead : (p : List ℕ × Ahead) (cs : List Chunk) → f.start p cs → SomeAhead p.1
  pub octet : Lawful f.octet
  pub some : Inhabited f.octet
  pub brief_start : IsBrief c f.start
  pub brief_octet : IsBrief c f.octet

-- this many of them are taken from the units, and are put after those that were there
abbrev pub TakesRow : Coding → (ℕ → List Chunk → Type 0) → ℕ → List ℕ → List ℕ → List ℕ → List ℕ → Type 0
TakesRow c L n before after old new = Appends c.ruling.fielding L n before after (c.to_units old) (c.to_units new)

-- ---- octets that are read so far

-- what has come of an octet
abbrev pub OctetTook : {F : Type 0} → Coding → OctetCoding → List ℕ → List (Frame F) → List ℕ → Type 0
OctetTook c f b fs come = (fs ≡ []) × Waits c f.octet b come

-- the octets go on
abbrev pub OctetsGoOn : {F : Type 0} → Coding → OctetCoding → (F → Ahead) → (F → Type 0) → Elements F ℕ → List ℕ
    → List ℕ → Type 0
OctetsGoOn {F} c f ahead between q all units =
    ItemsGoOn {F = F} c ahead between (FirstOf f) f.octet (OctetsOf f) (λ o. o) (OctetTook c f) q [] all
    units

-- what is answered of octets, read so far: all of them
abbrev pub ReadsOctetsOn : {F : Type 0} → Coding → OctetCoding → (F → Ahead) → (F → Type 0) → Elements F ℕ → List ℕ
    → List ℕ → List ℕ → Type 0
ReadsOctetsOn c f ahead between q octets old new =
    (all : List ℕ) → OctetsGoOn c f ahead between q all (c.to_units old)
    → Spells c.ruling.fielding (OctetsOf f) octets all (c.to_units new)

-- why there are none
abbrev pub StopsOctetsOn : {F : Type 0} → Coding → OctetCoding → (F → Ahead) → (F → Type 0) → Elements F ℕ → List ℕ
    → Stop → Type 0
StopsOctetsOn c f ahead between q old why =
    (all : List ℕ) → OctetsGoOn c f ahead between q all (c.to_units old)
    → Stops c.ruling.fielding (OctetsOf f) all why

-- they are read so far then
abbrev pub OctetsGoOnTo : {F : Type 0} → Coding → OctetCoding → (F → Ahead) → (F → Type 0) → Elements F ℕ → List ℕ
    → Elements F ℕ → List ℕ → Type 0
OctetsGoOnTo c f ahead between q old p new =
    (all : List ℕ) → OctetsGoOn c f ahead between q all (c.to_units old)
    → OctetsGoOn c f ahead between p all (c.to_units new)

-- ---- the nodes

-- the units us are those that have come of the octets, of which these nodes have begun, and more are wanted
abbrev pub OctetsTook : {F : Type 0} → Coding → OctetCoding → (F → Ahead) → (F → Type 0) → List (Frame F) → List ℕ
    → Type 0
OctetsTook c f ahead between [] us = us ≡ []
OctetsTook c f ahead between (frame.Start b ∷ []) us = Waits c f.start b us
OctetsTook c f ahead between (frame.Octets q ∷ fs) us =
    (fs ≡ []) × Short c.ruling.fielding (OctetsOf f) us × OctetsGoOn c f ahead between q us []
OctetsTook c f ahead between (x ∷ fs) us = ⊥

-- where more units are wanted, the nodes tell which have come
abbrev pub KeepsOctets : {F : Type 0} → Coding → OctetCoding → (F → Ahead) → (F → Type 0) → List (Frame F) → List ℕ
    → Stop → Type 0
KeepsOctets c f ahead between fs us (stop.Refused left why) = ⊤
KeepsOctets c f ahead between fs us stop.Short = OctetsTook c f ahead between fs us
KeepsOctets c f ahead between fs us stop.Memory = ⊤

-- what is answered of octets, of which these nodes had begun: all of them
abbrev pub ReadsOctetsFrom : {F : Type 0} → Coding → OctetCoding → (F → Ahead) → (F → Type 0) → List (Frame F) → List ℕ
    → List ℕ → List ℕ → Type 0
ReadsOctetsFrom c f ahead between fs octets old new = (us : List ℕ) → OctetsTook c f ahead between fs us
    → Spells c.ruling.fielding (OctetsOf f) octets (us ++ c.to_units old) (c.to_units new)

-- why there are none
abbrev pub StopsOctetsFrom : {F : Type 0} → Coding → OctetCoding → (F → Ahead) → (F → Type 0) → List (Frame F) → List ℕ
    → Stop → Type 0
StopsOctetsFrom c f ahead between fs old why = (us : List ℕ) → OctetsTook c f ahead between fs us
    → Stops c.ruling.fielding (OctetsOf f) (us ++ c.to_units old) why

-- where more units are wanted, these nodes have begun then
abbrev pub KeepsOctetsFrom : {F : Type 0} → Coding → OctetCoding → (F → Ahead) → (F → Type 0) → List (Frame F)
    → List (Frame F) → List ℕ → Stop → Type 0
KeepsOctetsFrom c f ahead between fs gs old why = (us : List ℕ) → OctetsTook c f ahead between fs us
    → KeepsOctets c f ahead between gs (us ++ c.to_units old) why

-- the octets are read, of which these nodes had begun: the one node has all of them
abbrev pub HasRead : {F : Type 0} → Coding → OctetCoding → (F → Ahead) → (F → Type 0) → List (Frame F) → List (Frame F)
    → List ℕ → List ℕ → Type 0
HasRead {F} c f ahead between fs gs old new =
    (q : Elements F ℕ) × (gs ≡ frame.Octets q ∷ []) × ReadsOctetsFrom c f ahead between fs q.elements.items old new

-- the octets go on that this node has
abbrev pub NodeGoesOn : {F : Type 0} → Coding → OctetCoding → (F → Ahead) → (F → Type 0) → Frame F → List ℕ → List ℕ
    → Type 0
NodeGoesOn c f ahead between (frame.Octets q) all units = OctetsGoOn c f ahead between q all units
NodeGoesOn c f ahead between x all units = ⊥

-- they are read, and the node has all of them
abbrev pub NodeHasRead : {F : Type 0} → Coding → OctetCoding → (F → Ahead) → (F → Type 0) → Frame F → Frame F → List ℕ
    → List ℕ → Type 0
NodeHasRead {F} c f ahead between x (frame.Octets q) old new =
    (all : List ℕ) → NodeGoesOn c f ahead between x all (c.to_units old)
    → Spells c.ruling.fielding (OctetsOf f) q.elements.items all (c.to_units new)
NodeHasRead c f ahead between x y old new = ⊥

-- why there are none, read on from this node
abbrev pub StopsNode : {F : Type 0} → Coding → OctetCoding → (F → Ahead) → (F → Type 0) → Frame F → List ℕ → Stop → Type 0
StopsNode c f ahead between x old why =
    (all : List ℕ) → NodeGoesOn c f ahead between x all (c.to_units old) → Stops c.ruling.fielding (OctetsOf f) all why
