-- Paths to the parts of a JSON value, as text.
use Rattle.std.specs.Prelude.{ℕ, List, [], ◌∷◌, ◌++◌, map, codes, decimal}

-- the node itself
abbrev pub here : List (List ℕ)
here = [] ∷ []

-- the step to the member with this name, and to the element at this index
abbrev pub to_member : List ℕ → List ℕ
to_member name = codes "." ++ name

abbrev pub to_element : ℕ → List ℕ
to_element i = codes "[" ++ (decimal i ++ codes "]")

-- the paths of a part: the step to the part, and then each of its own paths
abbrev pub below : List ℕ → List (List ℕ) → List (List ℕ)
below step paths = map (λ path. step ++ path) paths
