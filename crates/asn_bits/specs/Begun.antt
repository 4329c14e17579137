-- Numbers of a set of which some bits are given, and numbers in front of others.
use Rattle.std.specs.Prelude.{◌≡◌, ◌<◌, ◌^◌, ℕ, List, ◌++◌, length, ⊤}
use Rattle.asn_bits.specs.Sets.{InSet, Among}
use Rattle.asn_bits.specs.declared.number_field.FieldState.{FieldState}
use Rattle.asn_bits.specs.declared.number_field.FieldState.TheVariants as state

-- some number of the set, in k bits, begins with these
pub record Begins (k : ℕ) (S : ℕ → Type 0) (given : List ℕ) : Type 0 where
  pub number : ℕ
  pub more : List ℕ
  pub spelt : InSet k S number (given ++ more)

-- a number of the intervals in this many bits, and those of them that are given
pub record BegunField : Type 0 where
  pub numbers : List (ℕ × ℕ)
  pub width : ℕ
  pub given : List ℕ

-- a number that is told has 64 bits at most
abbrev pub IsWord : FieldState → Type 0
IsWord state.Alive = ⊤
IsWord (state.Number n) = n < 2 ^ 64
IsWord state.Dead = ⊤

-- what is to be said of the number
abbrev pub Tells : BegunField → FieldState → Type 0
Tells f state.Alive = (length f.given < f.width) × Begins f.width (λ n. Among f.numbers n) f.given
Tells f (state.Number n) = InSet f.width (λ m. Among f.numbers m) n f.given
Tells f state.Dead = Begins f.width (λ n. Among f.numbers n) f.given → ⊥

-- a number of the set stands in the first k of these bits, before the others
pub record StandsFirst (k : ℕ) (S : ℕ → Type 0) (n : ℕ) (us rest : List ℕ) : Type 0 where
  pub number : List ℕ
  pub spelt : InSet k S n number
  pub split : us ≡ number ++ rest
