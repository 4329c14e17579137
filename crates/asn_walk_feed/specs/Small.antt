-- Rows of numbers: types whose values have few units. An element of such a type is read as one part, and waits, without a
-- node of its own, while its units begin one.
use Rattle.std.specs.Prelude.{◌≡◌, ◌≤◌, ◌-◌, ◌*◌, ◌^◌, ◌⊎◌, ◌<ℤ◌, ◌≤ℤ◌, ℕ, ℤ, pos, negsuc, false, List, [], ◌∷◌, ◌++◌, length, Some, None, ⊤}
use Rattle.asn_values.specs.Datum.{Datum}
use Rattle.asn_values.specs.Profile.{InProfile}
use Rattle.asn_values.specs.Shape.{Range, Shape, boolean, integer, sequence, Fields, no_fields, field, must, closed}
use Rattle.asn_rules.specs.Chunks.{Chunk, ones}
use Rattle.asn_rules.specs.Languages.{IsLive}
use Rattle.asn_rules.specs.Listed.{Spelt, Listed}
use Rattle.asn_walk.specs.Coding.{Coding}

-- the integers from low to high are two at least, and numbers of n octets: from zero on, or in two's complement
abbrev pub AreNumbers : ℕ → ℤ → ℤ → Type 0
AreNumbers n low high = (low <ℤ high) × (((pos 0 ≤ℤ low) × (high <ℤ pos (2 ^ (8 * n))))
    ⊎ ((negsuc (2 ^ (8 * n - 1) - 1) ≤ℤ low) × (high <ℤ pos (2 ^ (8 * n - 1)))))

-- a range of such integers, without an extension mark
pub record IsNumber (n : ℕ) (r : Range) : Type 0 where
  pub size : (n ≡ 1) ⊎ ((n ≡ 2) ⊎ ((n ≡ 4) ⊎ (n ≡ 8)))
  pub low : ℤ
  pub high : ℤ
  pub is : r ≡ record { low = Some low; high = Some high; extensible = false }
  pub numbers : AreNumbers n low high

-- the values of the type have a unit at least, and n octets at most
abbrev pub IsNarrow : ℕ → Shape → Type 0
IsNarrow n boolean = n ≡ 1
IsNarrow n (integer r) = IsNumber n r
IsNarrow n _ = ⊥

-- components of such types, always present, of so many octets at most together
abbrev pub AreNarrow : ℕ → Fields → Type 0
AreNarrow room no_fields = ⊤
AreNarrow room (field name must t fs) = (n : ℕ) × (n ≤ room) × IsNarrow n t × AreNarrow (room - n) fs
AreNarrow room _ = ⊥

-- a SEQUENCE of these, without an extension mark, of at most fifteen octets
abbrev pub IsSmall : Shape → Type 0
IsSmall (sequence root closed) = AreNarrow 15 root
IsSmall _ = ⊥

-- ---- what a set of encoding rules says

-- plain units, at least m and at most n
pub record HasUnits (m n : ℕ) (cs : List Chunk) : Type 0 where
  pub units : List ℕ
  pub same : cs ≡ ones units
  pub least : m ≤ length units
  pub most : length units ≤ n

pub record RowLaws (c : Coding) : Type 0 where
  -- how many units bits are
  pub count : (bs : List ℕ) → c.at_unit bs → length bs * c.octet_units ≡ 8 * length (c.to_units bs)
  -- those of bits, and those of the bits after them
  pub joined : (bs more : List ℕ) → c.at_unit bs → c.at_unit (bs ++ more)
      → c.at_unit more × (c.to_units (bs ++ more) ≡ c.to_units bs ++ c.to_units more)
  pub narrow : (n : ℕ) (t : Shape) → IsNarrow n t → InProfile t → (v : Datum) (cs : List Chunk)
      → Spelt c.code None t v cs → HasUnits 1 (c.octet_units * n) cs
  -- nothing stands before components that have no presence bit
  pub preamble : length (c.preamble []) ≡ 0

-- ---- what is asked of units that wait

-- units in front of others, which are so many bits, begin components of which more is wanted
abbrev pub EndIn : Coding → Fields → ℕ → List ℕ → Type 0
EndIn c root filling units = (us more : List ℕ) → units ≡ us ++ more → 8 * length more ≡ filling * c.octet_units
    → (t : ℕ) × IsLive c.ruling.fielding (Listed c.code root []) (us ++ t ∷ [])
