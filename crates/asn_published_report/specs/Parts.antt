-- Of which types a type is made.
use Rattle.std.specs.Prelude.{◌≡◌, ◌<◌, ◌++◌, ◌⊎◌, ℕ, Bool, true, false, List, [], Contains, MatchOption, Option, bytes_eq, get_or, length, map, position, slice_set, string_bytes}
use Rattle.asn_published_types.specs.declared.report.Status.{Status}
use Rattle.asn_published_types.specs.declared.report.Status.TheVariants as status
use Rattle.asn_published_types.specs.declared.report.TypeReport.{TypeReport}

-- the types that the type at an index refers to
abbrev pub uses_of : List TypeReport → ℕ → List ℕ
uses_of types i = get_or (map (λ t. t.uses.items) types) i []

-- the type at an index is made of itself, and of what those refer to of which it is made
pub data IsPart (types : List TypeReport) (whole : ℕ) : ℕ → Type 0 where
  itself : IsPart types whole whole
  further : (j k : ℕ) → IsPart types whole j → Contains (uses_of types j) k → IsPart types whole k

-- exactly these types of the report are marked
pub record AreParts (types : List TypeReport) (whole : ℕ) (marks : List Bool) : Type 0 where
  pub sound : (k : ℕ) → get_or marks k false ≡ true → IsPart types whole k
  pub complete : (k : ℕ) → k < length types → IsPart types whole k → get_or marks k false ≡ true

-- the first type of a name
abbrev pub type_named : List TypeReport → List ℕ → Option ℕ
type_named types name = position (λ t. bytes_eq (string_bytes t.name) name) types

-- the status of the type at an index, refused where there is none
abbrev pub status_at : List TypeReport → ℕ → Status
status_at types i = get_or (map (λ t. t.status) types) i status.Refused

-- the types of which that one is made are marked, and none where there is no type of the name
abbrev pub IsWay : List TypeReport → List ℕ → List Bool → Type 0
IsWay types name marks = MatchOption (type_named types name) (marks ≡ []) (λ i. AreParts types i marks)

-- the type at an index was marked, or that the report has none; or it is marked now, and those that it refers to are to be
-- looked at too
abbrev pub Visited : List TypeReport → ℕ → List Bool → List ℕ → List Bool → List ℕ → Type 0
Visited types at marks todo marked later = ((get_or marks at true ≡ true) × (marked ≡ marks) × (later ≡ todo))
    ⊎ ((get_or marks at true ≡ false) × (marked ≡ slice_set marks at true) × (later ≡ todo ++ uses_of types at))
