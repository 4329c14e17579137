-- Languages that are one of two, told by a bit in front, and languages that are the same.
use Rattle.std.specs.Prelude.{◌≡◌, ◌⊎◌, ℕ, List, ◌∷◌}
use mathlib.Core.Logic.{inl, inr}
use Rattle.asn_rules.specs.Chunks.{Chunk, one}

-- the unit u, and then a spelling of the language, whose value is seen through f
pub record Branch {A V : Type 0} (u : ℕ) (f : A → V) (L : A → List Chunk → Type 0) (v : V) (cs : List Chunk)
    : Type 0 where
  pub value : A
  pub rest : List Chunk
  pub spelt : L value rest
  pub seen : v ≡ f value
  pub same : cs ≡ one u ∷ rest

-- 0 and then the first language, or 1 and then the second
pub record Fork {A B : Type 0} (X : A → List Chunk → Type 0) (Y : B → List Chunk → Type 0) (v : A ⊎ B) (cs : List Chunk)
    : Type 0 where
  pub side : Branch 0 inl X v cs ⊎ Branch 1 inr Y v cs

-- two languages of the same spellings
pub record Same {V : Type 0} (L M : V → List Chunk → Type 0) : Type 0 where
  pub to : (v : V) (cs : List Chunk) → L v cs → M v cs
  pub from : (v : V) (cs : List Chunk) → M v cs → L v cs
