-- What a session keeps of the octets that it took: the content so far of the sealed field that is open.
use Rattle.std.specs.Prelude.{◌≡◌, ◌⊎◌, ℕ, List, [], ◌∷◌, ◌++◌}
use Rattle.asn_values.specs.Datum.{Datum}
use Rattle.asn_values.specs.Shape.{Shape}
use Rattle.asn_values.specs.Fits.{Fits}
use Rattle.asn_rules.specs.Answer.{Ruling}
use Rattle.asn_rules.specs.Chunks.{Kind, Chunk, one, sealed, field_units}
use Rattle.asn_rules.specs.Live.{Begins, BeginsProperly, Fielding, IsContent, Free}
use Rattle.asn_rules.specs.Sessions.{Past, waiting, stopped, over}

-- the units us have come of a sealed field of the kind, and more are wanted; each content whose field they begin begins
-- with the octets os, and of what follows these in it no octet is told yet
pub record ContentSoFar (r : Fielding) (k : Kind) (us os : List ℕ) : Type 0 where
  pub begun : Free r k us
  pub told : (c : List ℕ) → IsContent r k c → BeginsProperly us (field_units r.spelled k c) → Begins os c
  pub all : (o : ℕ) → ((c : List ℕ) → IsContent r k c → BeginsProperly us (field_units r.spelled k c)
      → Begins (os ++ o ∷ []) c) → ⊥

-- the units end in a sealed field of these chunks, of whose content the octets os have come; or in none, and os is empty
abbrev pub EndsIn : Fielding → List Chunk → List ℕ → List ℕ → Type 0
EndsIn r cs [] os = os ≡ []
EndsIn r [] (u ∷ us) os = ⊥
EndsIn r (one x ∷ cs) (u ∷ us) os = (x ≡ u) × EndsIn r cs us os
EndsIn r (sealed k c ∷ cs) (u ∷ us) os =
    ContentSoFar r k (u ∷ us) os
    ⊎ ((rest : List ℕ) × (u ∷ us ≡ field_units r.spelled k c ++ rest) × EndsIn r cs rest os)

-- of units that the encoding of some value of the type may follow
abbrev pub KeptOf : Ruling → Shape → List ℕ → List ℕ → Type 0
KeptOf r t us os = (v : Datum) × Fits t v × EndsIn r.fielding (r.whole t v) us os

-- of a session with this past; at its end it keeps none
abbrev pub Kept : Ruling → Shape → Past → List ℕ → Type 0
Kept r t (waiting s) os = KeptOf r t (r.units s) os
Kept r t (stopped s fault) os = os ≡ []
Kept r t (over s) os = os ≡ []

-- whatever the type and the past of a session, it keeps these octets
abbrev pub Keeps : {Q : Type 0} → Ruling → (Q → Shape → Past → Type 0) → Q → List ℕ → Type 0
Keeps r took q os = (t : Shape) (past : Past) → took q t past → Kept r t past os
