-- What the levels of a message cost: the content of an open type field is a level of its own, whose units are taken once
-- more; those of the field pay for them.
use Rattle.std.specs.Prelude.{◌≡◌, ◌≤◌, ◌+◌, ◌*◌, ℕ, List, [], ◌∷◌, length}
use Rattle.asn_walk.specs.Ahead.{Ahead}
use Rattle.asn_walk.specs.Coding.{Coding}
use Rattle.asn_walk_feed.specs.Octets.{OctetsTook}
use Rattle.asn_walk_feed.specs.OpenFields.{FieldCoding}
use Rattle.asn_walk_feed.specs.declared.frame.Frame.{Frame}
use Rattle.asn_walk_feed.specs.declared.frame.Frame.TheVariants as frame

-- so many units have come of an open type field, of which these nodes have begun
abbrev pub FieldUnits : {F : Type 0} → Coding → FieldCoding → (F → Ahead) → (F → Type 0) → List (Frame F) → ℕ → Type 0
FieldUnits c fc ahead between fs n = (us : List ℕ) × OctetsTook c fc.open_type ahead between fs us × (length us ≡ n)

-- so many units have come of the open type field in which the innermost of these nodes of a value lies; none where it
-- lies in none
abbrev pub OpenUnits : {F : Type 0} → Coding → FieldCoding → (F → Ahead) → (F → Type 0) → List (Frame F) → ℕ → Type 0
OpenUnits c fc ahead between [] n = n ≡ 0
OpenUnits c fc ahead between (frame.Start b ∷ fs) n = n ≡ 0
OpenUnits c fc ahead between (frame.Bitmap p ∷ fs) n = n ≡ 0
OpenUnits c fc ahead between (frame.Octets q ∷ fs) n = n ≡ 0
OpenUnits c fc ahead between (frame.Elements q ∷ fs) n = OpenUnits c fc ahead between fs n
OpenUnits c fc ahead between (frame.Components q ∷ fs) n = OpenUnits c fc ahead between fs n
OpenUnits c fc ahead between (frame.Chosen i ∷ fs) n = OpenUnits c fc ahead between fs n
OpenUnits c fc ahead between (frame.Additions q ∷ fs) n = FieldUnits c fc ahead between fs n
OpenUnits c fc ahead between (frame.Added i ∷ fs) n = FieldUnits c fc ahead between fs n

-- where levels lie at most k deep inside one another, k units inside are paid for by each unit of the piece that was
-- taken, and by each that had come of the field that was open; those of the field that is open now pay later
pub record Pays (c : Coding) (k before inside : ℕ) (units : List ℕ) (inside' : ℕ) (units' : List ℕ) (Open : ℕ → Type 0)
    : Type 0 where
  pub still : ℕ
  pub is_open : Open still
  pub cost : inside' + k * (still + length (c.to_units units')) ≤ inside + k * (before + length (c.to_units units))

-- that is so for a type of which levels lie so deep, whatever had come of the field that was open
pub record Costs (c : Coding) (Old New : ℕ → Type 0) (depth inside : ℕ) (units : List ℕ) (inside' : ℕ)
    (units' : List ℕ) : Type 0 where
  pub pays : (k before : ℕ) → depth ≤ k → Old before → Pays c k before inside units inside' units' New
