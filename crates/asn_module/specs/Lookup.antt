-- Names and their indexes.
use Rattle.std.specs.Prelude.{◌≡◌, ℕ, suc, true, false, List, [], ◌∷◌, map, Option, Some, None, MatchOption}
use Rattle.std.specs.Prelude.{string_bytes, bytes_eq, if◌then◌else◌, String}
use denote.Ref.{Bor}
use Rattle.std.specs.HashMap.{HashMap, get_by, get_by_text}
use Rattle.asn_values.specs.Profile.{has_twice}
use Rattle.asn_notation.specs.Tree.{Assignment}
use Rattle.asn_module.specs.declared.known.Named.{Named}

-- the index of the first of these names that is this one, where the first has index i; None where none is
abbrev pub index_from : ℕ → List ℕ → List (List ℕ) → Option ℕ
index_from i name [] = None
index_from i name (n ∷ ns) = if bytes_eq n name then Some i else index_from (suc i) name ns

-- the map gives the index of each name, and none of what is no name
abbrev pub Finds : {S : Type 0} → HashMap (Bor (List ℕ)) ℕ S → List (List ℕ) → Type 0
Finds index names = (q : List ℕ) → get_by (λ k. bytes_eq q k.now) index ≡ index_from 0 q names

-- the same of a map that has the names as texts of its own
abbrev pub FindsText : {Y S : Type 0} → HashMap (String Y) ℕ S → List (List ℕ) → Type 0
FindsText index names = (q : List ℕ) → get_by_text index q ≡ index_from 0 q names

-- None exactly where one of the names stands twice
abbrev pub IsNoneIfTwice : {A : Type 0} → List (List ℕ) → Option A → Type 0
IsNoneIfTwice names o = MatchOption o (has_twice bytes_eq names ≡ true) (λ _. has_twice bytes_eq names ≡ false)

abbrev pub names_in : List Named → List (List ℕ)
names_in ns = map (λ n. string_bytes n.name) ns

-- the names that are assigned
abbrev pub assigned_names : List Assignment → List (List ℕ)
assigned_names all = map (λ a. a.name) all
