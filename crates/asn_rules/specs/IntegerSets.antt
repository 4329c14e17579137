-- The integers of a range, but for one that may be left out, as sets of numbers and of offsets.
use Rattle.std.specs.Prelude.{◌≡◌, ℕ, ℤ, pos, negsuc, false, Option, Some, None, ⊤}
use Rattle.std.specs.Option.{option_map}
use Rattle.asn_values.specs.Datum.{number}
use Rattle.asn_values.specs.Fits.{FitsNumber}
use Rattle.asn_values.specs.Shape.{Range}
use Rattle.asn_rules.specs.Listed.{IsOther}
use Rattle.asn_rules.specs.NumberSets.{Admits}
use Rattle.asn_rules.specs.OffsetSets.{HasInteger}
use Rattle.asn_rules.specs.declared.number_reader.NumberSet.{NumberSet}
use Rattle.asn_rules.specs.declared.signed_reader.OffsetSet.{OffsetSet}

-- the number where it is not negative
abbrev pub magnitude_of : ℤ → ℕ
magnitude_of (pos n) = n
magnitude_of (negsuc n) = 0

-- a range without an extension mark
abbrev pub unmarked : Option ℤ → Option ℤ → Range
unmarked low high = record { low = low; high = high; extensible = false }

-- an integer that may be left out of a range is one of it, and the range has no extension mark
abbrev pub IsWithin : Range → Option ℤ → Type 0
IsWithin b None = ⊤
IsWithin b (Some d) = FitsNumber b d × (b.extensible ≡ false)

-- an integer of the range, and not the one that is left out
abbrev pub IsOneBut : Option ℤ → Range → ℤ → Type 0
IsOneBut e b z = FitsNumber b z × IsOther (option_map number e) (number z)

-- the numbers of the set are those integers
pub record AreNumbersBut (e : Option ℤ) (b : Range) (s : NumberSet) : Type 0 where
  pub there : (n : ℕ) → Admits s n → IsOneBut e b (pos n)
  pub back : (z : ℤ) → IsOneBut e b z → (n : ℕ) × Admits s n × (z ≡ pos n)

-- the offsets are those of the integers of a set
pub record AreOffsets (s : OffsetSet) (S : ℤ → Type 0) : Type 0 where
  pub there : (z : ℤ) → HasInteger s z → S z
  pub back : (z : ℤ) → S z → HasInteger s z

-- the offsets of the set are those of these integers
abbrev pub AreOffsetsBut : Option ℤ → Range → OffsetSet → Type 0
AreOffsetsBut e b s = AreOffsets s (λ z. IsOneBut e b z)
