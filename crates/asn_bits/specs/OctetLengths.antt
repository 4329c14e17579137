-- The length of content octet by octet (X.696, "length determinant").
use Rattle.std.specs.Prelude.{◌≡◌, nat_lt, true, false, ◌+◌, ◌-◌, ◌^◌, ◌<◌, ◌≤◌, ℕ, Option, List, [], ◌∷◌, ◌++◌, ⊤}
use Rattle.asn_bits.specs.Lengths.{octet_length}
use Rattle.asn_bits.specs.Numbers.{octets}
use Rattle.asn_bits.specs.declared.number_field.FieldState.{FieldState}
use Rattle.asn_bits.specs.declared.number_field.FieldState.TheVariants as state
use Rattle.asn_bits.specs.declared.octet_lengths.OctetState.{OctetState}
use Rattle.asn_bits.specs.declared.octet_lengths.OctetState.TheVariants as place

-- the length of n begins with these octets
pub record StartsOctets (n : ℕ) (os : List ℕ) : Type 0 where
  pub more : List ℕ
  pub split : octet_length n ≡ os ++ more

-- that of some count of the set
pub record BeginsLength (S : ℕ → Type 0) (os : List ℕ) : Type 0 where
  pub count : ℕ
  pub member : S count
  pub starts : StartsOctets count os

-- that of some count of the set goes on after them
pub record GoesOn (S : ℕ → Type 0) (os : List ℕ) : Type 0 where
  pub count : ℕ
  pub member : S count
  pub next : ℕ
  pub more : List ℕ
  pub split : octet_length count ≡ os ++ next ∷ more

-- what is to be said of the octets
abbrev pub TellsOctets : (ℕ → Type 0) → List ℕ → FieldState → Type 0
TellsOctets S os state.Alive = GoesOn S os × ((n : ℕ) → S n → octet_length n ≡ os → ⊥)
TellsOctets S os (state.Number n) = S n × (octet_length n ≡ os)
TellsOctets S os state.Dead = BeginsLength S os → ⊥

-- the counts that may be told, and the octets given
pub record BegunOctets : Type 0 where
  pub counts : List (ℕ × Option ℕ)
  pub given : List ℕ

-- one octet more is given, but for one with which no length goes on
abbrev pub TakesOctet : BegunOctets → ℕ → FieldState → BegunOctets → Type 0
TakesOctet old o state.Alive new = new ≡ record { counts = old.counts; given = old.given ++ o ∷ [] }
TakesOctet old o (state.Number n) new = new ≡ record { counts = old.counts; given = old.given ++ o ∷ [] }
TakesOctet old o state.Dead new = new ≡ old

-- ---- where a reader stands

-- the octets given
abbrev pub state_octets : OctetState → List ℕ
state_octets place.Start = []
state_octets (place.Short n) = n ∷ []
state_octets (place.Long count prefix left) = (128 + count) ∷ octets (count - left) prefix

-- they are such
abbrev pub IsOctetState : OctetState → Type 0
IsOctetState place.Start = ⊤
IsOctetState (place.Short n) = n < 128
IsOctetState (place.Long count prefix left) =
    (1 ≤ count) × (count ≤ 4) × (left ≤ count) × (prefix < 256 ^ (count - left))

-- all octets of the length are given
abbrev pub IsWholeLength : OctetState → Type 0
IsWholeLength place.Start = ⊥
IsWholeLength (place.Short n) = ⊤
IsWholeLength (place.Long count prefix left) = left ≡ 0

-- the least length that has this many octets after the first one
abbrev pub least_long : ℕ → ℕ
least_long count = elim (nat_lt count 2) [ true ↦ 128 | false ↦ 256 ^ (count - 1) ]
