-- The numbers of items of an ENUMERATED in OER.
use Rattle.std.specs.Prelude.{◌≡◌, ◌++◌, ℕ, ℤ, List, IsFalse, ⊤}
use Rattle.asn_values.specs.Profile.{is_not_32_bits}
use Rattle.asn_oer.specs.Oer.{item_number}
use Rattle.asn_newer.specs.declared.halt.Halt.{Halt}
use Rattle.asn_newer.specs.declared.halt.Halt.TheVariants as halt

-- the octets begin with those of a number of 32 signed bits, and the rest follows
pub record IsItemNumber (z : ℤ) (octets rest : List ℕ) : Type 0 where
  pub narrow : IsFalse (is_not_32_bits z)
  pub split : octets ≡ item_number z ++ rest

-- no number stands there
abbrev pub NoItemNumber : List ℕ → Type 0
NoItemNumber octets = (z : ℤ) (rest : List ℕ) → IsItemNumber z octets rest → ⊥

-- what a reader of one that halts says of the octets: where they are refused, none begins with them
abbrev pub TellsItemNumber : List ℕ → Halt → Type 0
TellsItemNumber octets halt.Memory = ⊤
TellsItemNumber octets halt.Short = NoItemNumber octets
TellsItemNumber octets _ = (after : List ℕ) → NoItemNumber (octets ++ after)
