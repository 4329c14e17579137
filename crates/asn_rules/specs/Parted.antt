-- Where two spellings part.
use Rattle.std.specs.Prelude.{◌≡◌, ◌≢◌, ◌⊎◌, List, ◌∷◌}
use Rattle.asn_values.specs.Datum.{Datum}
use Rattle.asn_values.specs.Shape.{Shape}
use Rattle.asn_values.specs.Fits.{Fits}
use Rattle.asn_values.specs.Profile.{InProfile}
use Rattle.asn_rules.specs.Chunks.{Chunk, one, sealed}

-- the spellings part at a unit, or at the contents of two sealed fields of one kind at one position
abbrev pub Parted : List Chunk → List Chunk → Type 0
Parted (one a ∷ xs) (one b ∷ ys) = (a ≢ b) ⊎ ((a ≡ b) × Parted xs ys)
Parted (sealed k c ∷ xs) (sealed l d ∷ ys) = (k ≡ l) × ((c ≢ d) ⊎ ((c ≡ d) × Parted xs ys))
Parted _ _ = ⊥

-- two spellings are one, of one value, or they part, and are of two values
abbrev pub SpellingsPart : (Shape → Datum → List Chunk) → Type 0
SpellingsPart code = (t : Shape) (v w : Datum) → InProfile t → Fits t v → Fits t w
    → ((v ≡ w) × (code t v ≡ code t w)) ⊎ ((v ≢ w) × Parted (code t v) (code t w))
