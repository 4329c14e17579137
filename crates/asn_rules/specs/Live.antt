-- Which lists of units an encoding may still follow.
use Rattle.std.specs.Prelude.{◌≡◌, ◌≤◌, ◌<◌, ◌⊎◌, ℕ, List, [], ◌∷◌, ◌++◌, length, take, drop, ⊤}
use Rattle.std.specs.List.{AllByRecursion}
use Rattle.asn_values.specs.Datum.{Datum}
use Rattle.asn_values.specs.Shape.{Shape}
use Rattle.asn_values.specs.Fits.{Fits, max_len}
use Rattle.asn_rules.specs.Chunks.{Kind, open_field, utf8_field, rest_of, Chunk, one, sealed, field_units, flat, SealedField, fields}

-- ---- beginnings

-- y is x followed by something, or x
abbrev pub Begins : List ℕ → List ℕ → Type 0
Begins x y = (rest : List ℕ) × (y ≡ x ++ rest)

-- y is x followed by at least one unit
abbrev pub BeginsProperly : List ℕ → List ℕ → Type 0
BeginsProperly x y = (u : ℕ) × (rest : List ℕ) × (y ≡ x ++ u ∷ rest)

-- ---- what a sealed field may hold

-- how a set of encoding rules spells the sealed field of a content, and the fewest octets that such a
-- field of each kind has
pub record Fielding : Type 0 where
  pub spelled : List ℕ → List ℕ
  pub shortest : Kind → ℕ

-- octets of a length that the kind may have; of a field that was read in part, one that so begins
abbrev pub IsContent : Fielding → Kind → List ℕ → Type 0
IsContent r open_field c = (r.shortest open_field ≤ length c) × (length c ≤ max_len) × AllByRecursion (λ o. o < 256) c
IsContent r utf8_field c = (r.shortest utf8_field ≤ length c) × (length c ≤ max_len) × AllByRecursion (λ o. o < 256) c
IsContent r (rest_of k us) c = IsContent r k c × BeginsProperly us (field_units r.spelled k c)

-- h is a proper beginning of a sealed field of that kind, of any content
abbrev pub Free : Fielding → Kind → List ℕ → Type 0
Free r k h = (c : List ℕ) × IsContent r k c × BeginsProperly h (field_units r.spelled k c)

-- the content is no longer than an open field may be; a UTF8String never is
abbrev pub Bounded : Kind → List ℕ → Type 0
Bounded open_field c = length c ≤ max_len
Bounded utf8_field c = ⊤
Bounded (rest_of k us) c = Bounded k c

-- ---- by units and fields

-- an open field that starts before the end of the units is short enough
abbrev pub BoundedBefore : ℕ → SealedField → Type 0
BoundedBefore end f = f.start < end → Bounded f.kind f.content

-- b equals the units o up to the start of the field f, and goes on as a beginning of such a field
abbrev pub Inside : Fielding → List ℕ → List ℕ → SealedField → Type 0
Inside r o b f = (f.start ≤ length b) × (take f.start b ≡ take f.start o) × Free r f.kind (drop f.start b)

-- Here holds of one of the fields, and Earlier of those before it
abbrev pub SomeWithEarlier : (SealedField → Type 0) → (SealedField → Type 0) → List SealedField → Type 0
SomeWithEarlier Earlier Here [] = ⊥
SomeWithEarlier Earlier Here (f ∷ fs) = Here f ⊎ (Earlier f × SomeWithEarlier Earlier Here fs)

-- the encoding of these chunks may follow b: b begins it, or equals it up to one of its sealed fields
abbrev pub GoesOn : Fielding → List Chunk → List ℕ → Type 0
GoesOn r cs b =
    let o = flat r.spelled cs in
    let fs = fields r.spelled cs in
    (Begins b o × AllByRecursion (BoundedBefore (length b)) fs)
    ⊎ SomeWithEarlier (λ f. Bounded f.kind f.content) (Inside r o b) fs

-- ---- the same, chunk by chunk

abbrev pub Front : Fielding → List Chunk → List ℕ → Type 0
Front r [] [] = ⊤
Front r [] (u ∷ us) = ⊥
Front r (one x ∷ cs) [] = ⊤
Front r (one x ∷ cs) (u ∷ us) = (u ≡ x) × Front r cs us
Front r (sealed k c ∷ cs) us =
    Free r k us
    ⊎ ((rest : List ℕ) × (us ≡ field_units r.spelled k c ++ rest) × Bounded k c × Front r cs rest)

-- ---- live

-- the encoding of some value of the type may follow b
abbrev pub Live : Fielding → (Shape → Datum → List Chunk) → Shape → List ℕ → Type 0
Live r whole t b = (v : Datum) × Fits t v × GoesOn r (whole t v) b

abbrev pub LiveByChunks : Fielding → (Shape → Datum → List Chunk) → Shape → List ℕ → Type 0
LiveByChunks r whole t b = (v : Datum) × Fits t v × Front r (whole t v) b

-- the position of a refusal, counted from 1: the first unit after which b is not live
abbrev pub Place : (List ℕ → Type 0) → List ℕ → ℕ → Type 0
Place IsLive b k = (k ≤ length b) × (IsLive (take k b) → ⊥) × ((j : ℕ) → j < k → IsLive (take j b))
