-- A table of types whose values have octets that are encodings of types of the same table.
use Rattle.std.specs.Prelude.{◌≤◌, ℕ, zero, suc, List, [], length, slice_get, Option, Some, None}
use Rattle.std.specs.List.{AllByRecursion}
use Rattle.asn_values.specs.Datum.{Datum}
use Rattle.asn_values.specs.Shape.{Shape}
use Rattle.asn_rules.specs.Answer.{Ruling, max_octets}
use Rattle.asn_constraints.specs.Constraints.{Constraint}
use Rattle.asn_constrained.specs.Under.{IsEncodingUnder}
use Rattle.asn_contents.specs.Contents.{Contents, Content, places_in}

-- a type of a table, its constraint, and where its values have contents
pub record TableType : Type 0 where
  pub shape : Shape
  pub constraint : Constraint
  pub contents : Contents

-- the type at a position, counted from 0
abbrev pub type_in : List TableType → Option ℕ → Option TableType
type_in T None = None
type_in T (Some k) = slice_get T k

-- the octets are the encoding of the value d under the constraint, of at most max_octets
abbrev pub IsContent : Ruling → TableType → Datum → List ℕ → Type 0
IsContent r e d os = (length os ≤ max_octets) × IsEncodingUnder r e.shape e.constraint d os

-- all these octets meet a test, which is given the position of their type
abbrev pub AllMeet : (Option ℕ → List ℕ → Type 0) → List Content → Type 0
AllMeet Test xs = AllByRecursion (λ x. Test x.type x.octets) xs

-- the octets are an encoding of the type, if there is one, and those in its value meet the test
abbrev pub HoldsValue : Ruling → (Option ℕ → List ℕ → Type 0) → Option TableType → List ℕ → Type 0
HoldsValue r Test None os = ⊥
HoldsValue r Test (Some e) os = (d : Datum) × IsContent r e d os × AllMeet Test (places_in e.contents [] d)

-- The octets are an encoding of the type at this position, and so are those in its value, of their types, where
-- contents lie in at most so many contents. Contents may be as long as what holds them: their length is no such bound.
unfoldable pub Within : Ruling → List TableType → ℕ → Option ℕ → List ℕ → Type 0
Within r T zero k os = ⊥
Within r T (suc n) k os = HoldsValue r (Within r T n) (type_in T k) os

-- the octets in a value are the encodings that they have to be, in at most so many contents
abbrev pub MeetWithin : Ruling → List TableType → ℕ → Contents → Datum → Type 0
MeetWithin r T n c d = AllMeet (Within r T n) (places_in c [] d)

-- in however many
abbrev pub MeetContents : Ruling → List TableType → Contents → Datum → Type 0
MeetContents r T c d = (n : ℕ) × MeetWithin r T n c d
