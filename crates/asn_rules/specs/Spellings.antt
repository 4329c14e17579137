-- Languages in which each value that fits has one spelling, given by a function.
use Rattle.std.specs.Prelude.{◌≡◌, ◌⊎◌, List, ◌∷◌}
use mathlib.Core.Logic.{inl, inr}
use Rattle.asn_rules.specs.Chunks.{Chunk, one}

-- the value fits, and these chunks are its spelling
pub record SpelledBy {V : Type 0} (P : V → Type 0) (code : V → List Chunk) (v : V) (cs : List Chunk) : Type 0 where
  pub fits : P v
  pub same : cs ≡ code v

-- of two sorts of value, what each has to fit and how each is spelt, told by a bit in front
abbrev pub FitsEither : {A B : Type 0} → (A → Type 0) → (B → Type 0) → A ⊎ B → Type 0
FitsEither P Q (inl a) = P a
FitsEither P Q (inr b) = Q b

abbrev pub either_code : {A B : Type 0} → (A → List Chunk) → (B → List Chunk) → A ⊎ B → List Chunk
either_code f g (inl a) = one 0 ∷ f a
either_code f g (inr b) = one 1 ∷ g b
