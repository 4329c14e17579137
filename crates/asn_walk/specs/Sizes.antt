-- The counts that a size leaves, and how one is told in octets.
use Rattle.std.specs.Prelude.{◌≡◌, ℕ, true, false, None, List}
use Rattle.asn_bits.specs.Numbers.{packed}
use Rattle.asn_values.specs.Fits.{FitsLength}
use Rattle.asn_values.specs.Profile.{is_fixed_size}
use Rattle.asn_values.specs.Shape.{SizeRange}
use Rattle.asn_rules.specs.Chunks.{Chunk}
use Rattle.asn_rules.specs.Fields.{OctetLength, OneOctet, octet_fields}
use Rattle.asn_rules.specs.Languages.{Nothing, Row, Spells}
use Rattle.asn_rules.specs.NumberSets.{Admits}
use Rattle.asn_rules.specs.declared.number_reader.NumberSet.{NumberSet}

-- the numbers of the set are the counts that the size leaves, and there is one
pub record AreCounts (s : SizeRange) (t : NumberSet) : Type 0 where
  pub there : (n : ℕ) → Admits t n → FitsLength s n
  pub back : (n : ℕ) → FitsLength s n → Admits t n
  pub some : Admits t t.low
  pub none_excluded : t.excluded ≡ None

-- how many items there are: as many as the size says, or, where it leaves more than one count, one that stands there
abbrev pub Count : SizeRange → ℕ → List Chunk → Type 0
Count s = elim (is_fixed_size s) [ true ↦ Nothing s.low | false ↦ OctetLength (FitsLength s) ]

-- the first octets are a count, as the size has it, and then as many octets, which are these
pub record ReadsSized (s : SizeRange) (os old new : List ℕ) : Type 0 where
  pub count : ℕ
  pub between : List ℕ
  pub told : Spells octet_fields (Count s) count (packed old) between
  pub octets : Spells octet_fields (Row OneOctet count) os between (packed new)
