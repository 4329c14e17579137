-- How a CHOICE goes on where a reader of it was cut.
use Rattle.std.specs.Prelude.{◌≡◌, ◌⊎◌, ℕ, zero, suc, List, ◌++◌, Option}
use Rattle.std.specs.Global.{Vec}
use Rattle.asn_values.specs.declared.types.Alt.{Alt}
use Rattle.asn_values.specs.declared.types.AsnType.{AsnType}
use Rattle.asn_values.specs.declared.types.AsnType as asn_type
use Rattle.asn_values.specs.Shape.{Shape, Alternatives, no_alternatives, one_of, MoreAlternatives, count}
use Rattle.asn_rules.specs.Languages.{Spells}
use Rattle.asn_walk.specs.Coding.{Coding, IndexOf, added_alternatives}

-- the type is a CHOICE of these alternatives
pub record IsChoiceOf (t : AsnType) (root : List Alt) (ext : Option (Vec Alt)) : Type 0 where
  pub alternatives : Vec Alt
  pub is : t ≡ asn_type.Choice alternatives ext
  pub root_is : root ≡ alternatives.items

-- the units that have come of the alternative with this index; Value says it of a value of its type
abbrev pub AlternativeTook : (Shape → List ℕ → Type 0) → Alternatives → ℕ → List ℕ → Type 0
AlternativeTook Value no_alternatives i us = ⊥
AlternativeTook Value (one_of name t alts) zero us = Value t us
AlternativeTook Value (one_of name t alts) (suc i) us = AlternativeTook Value alts i us

-- the CHOICE goes on: what tells the alternative, with this index in the root or among the additions, stands in front
-- of the units that have come of its value, or of the open type field of that, and of the units that are left; and P
-- holds of those that have come
pub record ChoiceGoesOn (c : Coding) (root : Alternatives) (more : MoreAlternatives) (i : ℕ ⊎ ℕ) (P : List ℕ → Type 0)
    (all units : List ℕ) : Type 0 where
  pub come : List ℕ
  pub index : Spells c.ruling.fielding (IndexOf c (count root) (added_alternatives more)) i all (come ++ units)
  pub inner : P come
