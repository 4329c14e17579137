-- What readers of whole octets read from the bits of a cursor, and where they stop.
use Rattle.std.specs.Prelude.{◌≡◌, ◌≤◌, ◌<◌, ◌-◌, ◌^◌, ◌/◌, ◌%◌, ◌+◌, ℕ, ℤ, List, ◌++◌, length, None}
use Rattle.asn_bits.specs.Numbers.{bits, packed}
use Rattle.asn_bits.specs.Sets.{InDigits, Among}
use Rattle.asn_rules.specs.Chunks.{Chunk, ones}
use Rattle.asn_rules.specs.Counted.{Counted, number_of, Least, signed_number, LeastSigned}
use Rattle.asn_rules.specs.Fields.{octet_fields}
use Rattle.asn_rules.specs.Filled.{filled_bits}
use Rattle.asn_rules.specs.OffsetSets.{HasInteger, StandsFor}
use Rattle.asn_rules.specs.Languages.{Spells, Then, Map, Plain}
use Rattle.asn_rules.specs.NumberSets.{Admits, NumberIn}
use Rattle.asn_rules.specs.Spellings.{SpelledBy}
use Rattle.asn_rules.specs.Stops.{Stops}
use Rattle.asn_rules.specs.declared.number_reader.NumberSet.{NumberSet}
use Rattle.asn_rules.specs.declared.signed_reader.OffsetSet.{OffsetSet}
use Rattle.asn_rules.specs.declared.stop.Stop.{Stop}
use Rattle.asn_rules.specs.declared.stop.Stop.TheVariants as stop

-- the bits are those of octets
abbrev pub AtOctet : List ℕ → Type 0
AtOctet us = length us % 8 ≡ 0

-- the first octets are a spelling of the value, and the others follow it
abbrev pub ReadsOctets : {V : Type 0} → (V → List Chunk → Type 0) → V → List ℕ → List ℕ → Type 0
ReadsOctets L v old new = Spells octet_fields L v (packed old) (packed new)

-- a reader of the language stops at these octets
abbrev pub StopsAtOctets : {V : Type 0} → (V → List Chunk → Type 0) → List ℕ → Stop → Type 0
StopsAtOctets L old why = Stops octet_fields L (packed old) why

-- what a reader of bits says, where octets are counted
abbrev pub counted_in_octets : Stop → Stop
counted_in_octets (stop.Refused left why) = stop.Refused (left / 8) why
counted_in_octets stop.Short = stop.Short
counted_in_octets stop.Memory = stop.Memory

-- a number of the set in k octets
abbrev pub OctetsIn : ℕ → NumberSet → ℕ → List Chunk → Type 0
OctetsIn k s = Plain (InDigits 256 k (λ n. Admits s n))

-- a number of the intervals in k octets
abbrev pub OctetsAmong : ℕ → List (ℕ × ℕ) → ℕ → List Chunk → Type 0
OctetsAmong k is = Plain (InDigits 256 k (λ n. Among is n))

-- the numbers of the second set are those of the first that need this count of octets
pub record AreWithCount (s : NumberSet) (count : ℕ) (t : NumberSet) : Type 0 where
  pub there : (n : ℕ) → Admits t n → Least (λ m. Admits s m) count n
  pub back : (n : ℕ) → Least (λ m. Admits s m) count n → Admits t n

-- the same numbers, and both ends are some of them
pub record AreTrimmed (s t : NumberSet) : Type 0 where
  pub there : (n : ℕ) → Admits s n → Admits t n
  pub back : (n : ℕ) → Admits t n → Admits s n
  pub low : Admits t t.low
  pub high : Admits t t.high

-- a number of the set in the fewest octets after their count ("encoding of integer types")
abbrev pub CountedIn : NumberSet → ℕ → List Chunk → Type 0
CountedIn s = Map number_of (Counted 256 1 (Least (λ m. Admits s m)))

-- a number up to a in k bits, a number from low on in n bits, and zeros that fill up the last octet
abbrev pub FilledFields : ℕ → ℕ → ℕ → ℕ → ℕ × ℕ → List Chunk → Type 0
FilledFields k a n low =
    SpelledBy (λ p. (p.0 ≤ a) × (low ≤ p.1) × (p.1 < 2 ^ n)) (λ p. ones (filled_bits (bits k p.0 ++ bits n p.1)))

-- the numbers from low to high
abbrev pub from_to : ℕ → ℕ → NumberSet
from_to low high = record { low = low; high = high; excluded = None }

-- the numbers without the zeros after them
abbrev pub numbers_told : ℕ × (ℕ × ℕ) → ℕ × ℕ
numbers_told p = (p.0, p.1.0)

-- the same in bits
abbrev pub FilledBits : ℕ → ℕ → ℕ → ℕ → ℕ × ℕ → List Chunk → Type 0
FilledBits k a n low =
    Map numbers_told (Then (NumberIn k (from_to 0 a))
    (λ _. Then (NumberIn n (from_to low (2 ^ n - 1))) (λ _. NumberIn ((8 - (k + n) % 8) % 8) (from_to 0 0))))

-- an integer of the set in the fewest octets of two's complement after their count ("encoding of integer types")
abbrev pub CountedSignedIn : OffsetSet → ℤ → List Chunk → Type 0
CountedSignedIn s = Map signed_number (Counted 256 1 (LeastSigned (λ z. HasInteger s z)))

-- an integer of the set in `count` octets of two's complement ("encoding of integer types")
abbrev pub SignedOctetsIn : ℕ → OffsetSet → ℤ → List Chunk → Type 0
SignedOctetsIn count s = Map (λ n. signed_number (count, n)) (Plain (InDigits 256 count (StandsFor s count)))
