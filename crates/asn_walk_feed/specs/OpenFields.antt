-- How an open type field goes on where a reader of it was cut: by its octets, of which the last is the end of the value
-- that they hold.
use Rattle.std.specs.Prelude.{◌≡◌, ◌++◌, ℕ, List, length, ⊤}
use Rattle.asn_rules.specs.Chunks.{open_field}
use Rattle.asn_rules.specs.Forks.{Same}
use Rattle.asn_rules.specs.Frames.{Frame as FieldOf}
use Rattle.asn_rules.specs.Languages.{Spells}
use Rattle.asn_rules.specs.Stops.{Stops}
use Rattle.asn_rules.specs.declared.stop.Stop.{Stop}
use Rattle.asn_rules.specs.declared.stop.Stop.TheVariants as stop
use Rattle.asn_values.specs.Shape.{Shape}
use Rattle.asn_values.specs.Datum.{Datum}
use Rattle.asn_walk.specs.Ahead.{Ahead}
use Rattle.asn_walk.specs.Coding.{Coding, OpenOf}
use Rattle.asn_walk_feed.specs.Octets.{OctetCoding, OctetsOf, OctetLaws, OctetsTook}
use Rattle.asn_walk_feed.specs.declared.frame.Frame.{Frame}

-- what a set of encoding rules says of open type fields and of the types of strings, as octets that stand in fragments
pub record FieldCoding : Type 1 where
  pub open_type : OctetCoding
  pub string : Shape → OctetCoding

-- the laws of open type fields
pub record FieldLaws (c : Coding) (f : FieldCoding) : Type 0 where
  pub octets : OctetLaws c f.open_type
  -- an open type field is such octets
  pub same : Same (OctetsOf f.open_type) (FieldOf c.ruling.fielding open_field)

-- ---- the field

-- the value that the octets hold
abbrev pub ReadsFieldOn : {F : Type 0} → Coding → FieldCoding → (F → Ahead) → (F → Type 0) → List (Frame F) → Shape
    → Datum → List ℕ → List ℕ → Type 0
ReadsFieldOn c f ahead between fs t v old new = (us : List ℕ) → OctetsTook c f.open_type ahead between fs us
    → Spells c.ruling.fielding (OpenOf c t) v (us ++ c.to_units old) (c.to_units new)

abbrev pub StopsFieldOn : {F : Type 0} → Coding → FieldCoding → (F → Ahead) → (F → Type 0) → List (Frame F) → Shape
    → List ℕ → Stop → Type 0
StopsFieldOn c f ahead between fs t old why = (us : List ℕ) → OctetsTook c f.open_type ahead between fs us
    → Stops c.ruling.fielding (OpenOf c t) (us ++ c.to_units old) why

-- ---- the value that all octets hold

-- in front of whatever units these octets stand as an open type field, a reader of it reads the value
abbrev pub HoldsValue : Coding → Shape → List ℕ → Datum → Type 0
HoldsValue c t octets v = (us r : List ℕ) → Spells c.ruling.fielding (FieldOf c.ruling.fielding open_field) octets us r
    → Spells c.ruling.fielding (OpenOf c t) v us r

-- or stops, where this many units follow
abbrev pub HoldsNone : Coding → Shape → List ℕ → ℕ → Stop → Type 0
HoldsNone c t octets left why = (us r : List ℕ)
    → Spells c.ruling.fielding (FieldOf c.ruling.fielding open_field) octets us r → length r ≡ left
    → Stops c.ruling.fielding (OpenOf c t) us why

-- it stops after the field
abbrev pub StopsAfter : ℕ → Stop → Type 0
StopsAfter left (stop.Refused n why) = n ≡ left
StopsAfter left stop.Short = ⊥
StopsAfter left stop.Memory = ⊤
