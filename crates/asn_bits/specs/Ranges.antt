-- Sets of counts as unions of intervals, some without an end, and what a reader of lengths tests.
use Rattle.std.specs.Prelude.{◌≡◌, ◌+◌, ◌<◌, ◌≤◌, ◌⊎◌, ℕ, Bool, true, Option, Some, None, List, [], ◌∷◌, ⊤}

-- at or below the end, if there is one
abbrev pub AtMost : ℕ → Option ℕ → Type 0
AtMost n None = ⊤
AtMost n (Some high) = n ≤ high

-- some number of the set is at or above the one and at or below the other
pub record SomeIn (S : ℕ → Type 0) (low : ℕ) (high : Option ℕ) : Type 0 where
  pub number : ℕ
  pub member : S number
  pub least : low ≤ number
  pub most : AtMost number high

-- one of the intervals has the number
abbrev pub Spanned : List (ℕ × Option ℕ) → ℕ → Type 0
Spanned [] n = ⊥
Spanned (i ∷ is) n = ((i.0 ≤ n) × AtMost n i.1) ⊎ Spanned is n

-- the intervals from low to high and from a to b have a number in common
abbrev pub Meet : ℕ → Option ℕ → ℕ → Option ℕ → Type 0
Meet low high a b = AtMost low high × AtMost low b × AtMost a high × AtMost a b

-- one of the intervals has a number of the range: what a reader tests
abbrev pub Reaches : List (ℕ × Option ℕ) → ℕ → Option ℕ → Type 0
Reaches [] a b = ⊥
Reaches (i ∷ is) a b = Meet i.0 i.1 a b ⊎ Reaches is a b

-- the counts of what is left where this many items have been read; closed: the last fragment had fewer than 4 blocks
pub record At (S : ℕ → Type 0) (so_far : ℕ) (closed : Bool) (n : ℕ) : Type 0 where
  pub member : S (so_far + n)
  pub largest : closed ≡ true → n < 16384
