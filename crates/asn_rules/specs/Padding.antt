-- Units that are given, and those that fill up a spelling, as the zeros of a complete encoding in PER.
use Rattle.std.specs.Prelude.{◌≡◌, ◌<◌, ℕ, List, length, ⊤}
use Rattle.std.specs.List.{AllByRecursion}
use Rattle.asn_bits.specs.Numbers.{unpacked}
use Rattle.asn_rules.specs.Chunks.{Chunk, flat}
use Rattle.asn_rules.specs.Live.{Fielding}
use Rattle.asn_rules.specs.Languages.{Then, Map, Plain, Whole}

-- these units, and no value
pub record AreUnits (zs : List ℕ) (v : ⊤) (us : List ℕ) : Type 0 where
  pub same : us ≡ zs

abbrev pub Fixed : List ℕ → ⊤ → List Chunk → Type 0
Fixed zs = Plain (AreUnits zs)

-- what fills up a spelling of the value, which units `fill` gives for its length follow it
pub record Fills {A : Type 0} (R : Fielding) (fill : ℕ → List ℕ) (L : A → List Chunk → Type 0) (a : A) (v : ⊤)
    (cs : List Chunk) : Type 0 where
  pub chunks : List Chunk
  pub spelt : L a chunks
  pub filling : Fixed (fill (length (flat R.spelled chunks))) v cs

abbrev pub first_of : {A B : Type 0} → A × B → A
first_of p = p.0

-- a spelling, and what fills it up
abbrev pub Padded : {A : Type 0} → Fielding → (ℕ → List ℕ) → (A → List Chunk → Type 0) → A → List Chunk → Type 0
Padded R fill L = Map first_of (Then L (Fills R fill L))

-- octets whose bits are a whole encoding
pub record WholeOctets {A : Type 0} (R : Fielding) (L : A → List Chunk → Type 0) (a : A) (os : List ℕ) : Type 0 where
  pub octets : AllByRecursion (λ o. o < 256) os
  pub whole : Whole R L a (unpacked os)
