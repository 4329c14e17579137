-- Octets as items of a list, in either unit, and octets after their length in octets (X.696, "length
-- determinant").
use Rattle.std.specs.Prelude.{◌≡◌, ◌-◌, ◌<◌, ◌≤◌, ◌⊎◌, ◌++◌, ℕ, true, false, List, length, nat_lt}
use Rattle.asn_bits.specs.Lengths.{octet_length}
use Rattle.asn_bits.specs.Numbers.{octet_count}
use Rattle.asn_rules.specs.Chunks.{Chunk}
use Rattle.asn_rules.specs.Languages.{Then, Map, Nothing, Row, Plain}
use Rattle.asn_rules.specs.Live.{Fielding}
use Rattle.asn_bits.specs.Sets.{InDigits, InSet}

-- an octet, in eight bits
abbrev pub Octet : ℕ → List Chunk → Type 0
Octet = Plain (InSet 8 (λ n. n < 256))

-- an octet, as one unit
abbrev pub OneOctet : ℕ → List Chunk → Type 0
OneOctet = Plain (InDigits 256 1 (λ n. n < 256))

-- ---- lengths in octets

-- the lengths of the set that k octets after the first one hold, and no fewer
pub record LongLength (S : ℕ → Type 0) (k n : ℕ) : Type 0 where
  pub member : S n
  pub large : 128 ≤ n
  pub count : octet_count n ≡ k

-- some length of the set has k octets after the first one
pub record SomeLong (S : ℕ → Type 0) (k : ℕ) : Type 0 where
  pub few : k < 128
  pub number : ℕ
  pub length : LongLength S k number

-- the first octet of a length: the length, or 128 and the count of the octets after it
abbrev pub FirstOctet : (ℕ → Type 0) → ℕ → Type 0
FirstOctet S b = ((b < 128) × S b) ⊎ ((128 ≤ b) × SomeLong S (b - 128))

-- what follows the first octet
abbrev pub AfterFirst : (ℕ → Type 0) → ℕ → ℕ → List Chunk → Type 0
AfterFirst S b =
    elim (nat_lt b 128) [ true ↦ Nothing b | false ↦ Plain (InDigits 256 (b - 128) (LongLength S (b - 128))) ]

abbrev pub length_told : ℕ × ℕ → ℕ
length_told p = p.1

-- a length of the set
abbrev pub OctetLength : (ℕ → Type 0) → ℕ → List Chunk → Type 0
OctetLength S = Map length_told (Then (Plain (InDigits 256 1 (FirstOctet S))) (AfterFirst S))

abbrev pub octets_told : ℕ × List ℕ → List ℕ
octets_told p = p.1

-- octets of a count of the set, after it
abbrev pub OctetsAfterLength : (ℕ → Type 0) → List ℕ → List Chunk → Type 0
OctetsAfterLength S = Map octets_told (Then (OctetLength S) (λ n. Row OneOctet n))

-- ---- sealed fields in octets

-- the length of the content in octets, and the content (X.696, "length determinant")
abbrev pub spelled : List ℕ → List ℕ
spelled content = octet_length (length content) ++ content

-- a sealed field of either kind is so spelt, and may have no content
abbrev pub octet_fields : Fielding
octet_fields = record { spelled = spelled; shortest = λ k. 0 }
