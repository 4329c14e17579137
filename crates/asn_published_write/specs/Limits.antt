-- How large a type of the profile may be.
use Rattle.std.specs.Prelude.{ℕ, ◌≤◌}

-- types inside one another, with the type itself
abbrev pub most_nodes : ℕ
most_nodes = 100000

-- levels of types inside one another, a SEQUENCE OF counting two
abbrev pub most_levels : ℕ
most_levels = 64

-- a type with so many nodes and levels is one of the profile
abbrev pub IsWithin : ℕ → ℕ → Type 0
IsWithin nodes levels = (nodes ≤ most_nodes) × (levels ≤ most_levels)
