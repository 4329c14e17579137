-- Which numbers a reader of numbers admits, and their spellings in bits.
use Rattle.std.specs.Prelude.{◌≢◌, ◌≤◌, ◌-◌, ◌^◌, ◌==◌, ◌&&◌, ℕ, true, false, nat_lt, List, Option, Some, None, ⊤}
use Rattle.asn_bits.specs.Begun.{StandsFirst}
use Rattle.asn_bits.specs.Numbers.{octet_count}
use Rattle.asn_bits.specs.Sets.{Among, InSet}
use Rattle.asn_rules.specs.Chunks.{Chunk}
use Rattle.asn_rules.specs.Counted.{Counted, Least, number_of}
use Rattle.asn_rules.specs.Languages.{Map, Plain}
use Rattle.asn_rules.specs.declared.number_reader.NumberSet.{NumberSet}

-- another number than the one that is excluded, where one is
abbrev pub IsNot : Option ℕ → ℕ → Type 0
IsNot None n = ⊤
IsNot (Some x) n = n ≢ x

-- the numbers from the low one to the high one, but for the one that is excluded
abbrev pub Admits : NumberSet → ℕ → Type 0
Admits s n = (s.low ≤ n) × (n ≤ s.high) × IsNot s.excluded n

-- they are those of the intervals
pub record AreAmong (s : NumberSet) (is : List (ℕ × ℕ)) : Type 0 where
  pub there : (n : ℕ) → Admits s n → Among is n
  pub back : (n : ℕ) → Among is n → Admits s n

-- the numbers from the one to the other, but for the one that is excluded; they may have any count of bits
abbrev pub between_but : ℕ → ℕ → Option ℕ → NumberSet
between_but low high excluded = record { low = low; high = high; excluded = excluded }

-- the numbers from 0 to the high one, but for the one that is excluded
abbrev pub up_to : ℕ → Option ℕ → NumberSet
up_to high excluded = between_but 0 high excluded

-- ---- in a fixed count of bits

-- a number of the set in k bits
abbrev pub NumberIn : ℕ → NumberSet → ℕ → List Chunk → Type 0
NumberIn k s = Plain (InSet k (λ m. Admits s m))

-- a number of the intervals in k bits
abbrev pub NumberAmong : ℕ → List (ℕ × ℕ) → ℕ → List Chunk → Type 0
NumberAmong k is = Plain (InSet k (λ m. Among is m))

-- no number of the set in k bits is a prefix of the units
abbrev pub NoneStandsFirst : ℕ → NumberSet → List ℕ → Type 0
NoneStandsFirst k s us = (n : ℕ) (rest : List ℕ) → StandsFirst k (λ m. Admits s m) n us rest → ⊥

-- ---- in the fewest octets

-- a number of the set in the fewest octets after their count (X.691, "semi-constrained whole number")
abbrev pub SemiConstrainedIn : NumberSet → ℕ → List Chunk → Type 0
SemiConstrainedIn s = Map number_of (Counted 2 8 (Least (λ m. Admits s m)))

-- the least number that needs this count of octets
abbrev pub least_of : ℕ → ℕ
least_of count = elim (nat_lt 1 count) [ true ↦ 256 ^ (count - 1) | false ↦ 0 ]

-- the highest count of octets that a number from 0 to the high one needs: one less where the high one is
-- excluded and is the only one with its count
abbrev pub highest_count_of : ℕ → Option ℕ → ℕ
highest_count_of high None = octet_count high
highest_count_of high (Some x) =
    elim (x == high && high == least_of (octet_count high)) [ true ↦ octet_count high - 1 | false ↦ octet_count high ]
