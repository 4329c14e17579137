-- Integers by how far they lie above the lowest one of the profile, and their spellings in two's complement.
use Rattle.std.specs.Prelude.{◌≡◌, ◌≤◌, ◌<◌, ◌+◌, ◌-◌, ◌*◌, ◌^◌, ◌⊎◌, ◌≤ℤ◌, ◌+ℤ◌, ℕ, ℤ, pos, true, false, nat_lt, List, Result, IfOk}
use Rattle.asn_values.specs.Fits.{lowest_integer, highest_integer, offset_of_zero, integer_count}
use Rattle.asn_bits.specs.Numbers.{above}
use Rattle.asn_bits.specs.Sets.{Among, InDigits}
use Rattle.asn_rules.specs.Chunks.{Chunk}
use Rattle.asn_rules.specs.Counted.{Counted, SomeOf, LeastSigned, signed_number}
use Rattle.asn_rules.specs.Languages.{Spells, Map, Plain}
use Rattle.asn_rules.specs.Live.{Fielding}
use Rattle.asn_rules.specs.declared.stop.Stop.{Stop}
use Rattle.asn_rules.specs.declared.signed_reader.OffsetSet.{OffsetSet}

-- one of the offsets
abbrev pub HasOffset : OffsetSet → ℕ → Type 0
HasOffset s w = (w < s.end) × (((s.start ≤ w) × (w < s.below)) ⊎ (s.from ≤ w))

-- an integer of the profile at one of the offsets
abbrev pub HasInteger : OffsetSet → ℤ → Type 0
HasInteger s z = (lowest_integer ≤ℤ z) × (z ≤ℤ highest_integer) × HasOffset s (above lowest_integer z)

-- the offsets begin with that of the lowest integer and end with that of the highest, or they lack one number at most
-- and begin with the former, or have those of all greater integers of 64 bits in two's complement
abbrev pub IsOpen : OffsetSet → Type 0
IsOpen s = (s.end ≤ integer_count)
    × (((s.start ≡ 0) × (s.end ≡ integer_count))
    ⊎ ((s.from ≤ s.below + 1) × ((s.start ≡ 0) ⊎ (offset_of_zero + 2 ^ 63 ≤ s.end))))

-- an integer of the set in the fewest octets of two's complement after their count (X.691, "unconstrained whole
-- number")
abbrev pub UnconstrainedIn : OffsetSet → ℤ → List Chunk → Type 0
UnconstrainedIn s = Map signed_number (Counted 2 8 (LeastSigned (λ z. HasInteger s z)))

-- the number in `count` octets of two's complement stands for an integer of the set
pub record StandsFor (s : OffsetSet) (count n : ℕ) : Type 0 where
  pub member : HasInteger s (signed_number (count, n))
  pub fits : n < 256 ^ count

-- an integer of the set in `count` octets of two's complement
abbrev pub SignedIn : ℕ → OffsetSet → ℤ → List Chunk → Type 0
SignedIn count s = Map (λ n. signed_number (count, n)) (Plain (InDigits 2 (8 * count) (StandsFor s count)))

-- a value that is given is the offset of an integer, whose spelling stands in front of the units
abbrev pub ReadsOffset : (ℤ → List Chunk → Type 0) → Result ℕ Stop → List ℕ → List ℕ → Type 0
ReadsOffset L result old new = (R : Fielding) → IfOk result (λ w. Spells R L (lowest_integer +ℤ pos w) old new)

-- some integer of the set needs this count of octets
abbrev pub NeedsCount : OffsetSet → ℕ → Type 0
NeedsCount s count = SomeOf (LeastSigned (λ z. HasInteger s z)) count

-- the least magnitude that an octet less cannot hold beside the sign
abbrev pub least_magnitude_of : ℕ → ℕ
least_magnitude_of count = elim (nat_lt 1 count) [ true ↦ 2 ^ (8 * (count - 1) - 1) | false ↦ 0 ]

-- n is an offset from the first to before the end, less that of 0 and raised by `up`
abbrev pub IsRaised : ℕ → ℕ → ℕ → ℕ → Type 0
IsRaised first end up n = (first + up ≤ n + offset_of_zero) × (n + offset_of_zero < end + up)

-- the old numbers, and the offsets from the first to before the end, each less that of 0 and raised by `up`
pub record AreShifted (old new : List (ℕ × ℕ)) (s : OffsetSet) (first end up : ℕ) : Type 0 where
  pub there : (n : ℕ) → Among new n
      → Among old n
      ⊎ ((first + up ≤ n + offset_of_zero) × (n + offset_of_zero < end + up) × HasOffset s (n + offset_of_zero - up))
  pub kept : (n : ℕ) → Among old n → Among new n
  pub added : (n : ℕ) → first + up ≤ n + offset_of_zero → n + offset_of_zero < end + up
      → HasOffset s (n + offset_of_zero - up) → Among new n

-- the numbers of the intervals stand for the integers of the set in this count of octets
pub record AreStanding (s : OffsetSet) (count : ℕ) (is : List (ℕ × ℕ)) : Type 0 where
  pub there : (n : ℕ) → StandsFor s count n → Among is n
  pub back : (n : ℕ) → Among is n → StandsFor s count n

-- the numbers of the intervals are those that need this count of octets of two's complement
pub record AreSigned (s : OffsetSet) (count : ℕ) (is : List (ℕ × ℕ)) : Type 0 where
  pub there : (n : ℕ) → LeastSigned (λ z. HasInteger s z) count n → Among is n
  pub back : (n : ℕ) → Among is n → LeastSigned (λ z. HasInteger s z) count n
