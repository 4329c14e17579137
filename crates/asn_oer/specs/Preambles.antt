-- Bits that are filled up to octets with zeros, as the preamble of a SEQUENCE and the bitmap of its additions in
-- Canonical OER (X.696): one number in as many octets as they fill.
use Rattle.std.specs.Prelude.{◌≡◌, ◌+◌, ◌/◌, ◌%◌, ◌^◌, ◌≤◌, ◌<◌, ℕ, suc, List}
use Rattle.asn_values.specs.Shape.{Fields, no_fields, field, MoreFields, closed, marked}
use Rattle.asn_rules.specs.Chunks.{Chunk}
use Rattle.asn_rules.specs.Languages.{Then, Map, Plain}
use Rattle.asn_bits.specs.Sets.{InDigits}
use Rattle.asn_rules.specs.Listed.{bitmap_length}
use Rattle.asn_rules.specs.Fields.{OctetLength}
use Rattle.asn_rules.specs.Filled.{filled_octets, unused_bits}

-- a number of the set before u zero bits
pub record BeforeZeros (u : ℕ) (S : ℕ → Type 0) (x : ℕ) : Type 0 where
  pub zeros : x % 2 ^ u ≡ 0
  pub member : S (x / 2 ^ u)

-- the number without the zeros after it
abbrev pub without_zeros : ℕ → ℕ → ℕ
without_zeros n x = x / 2 ^ unused_bits n

-- the numbers of the set in n bits, filled up to octets with zeros
abbrev pub FilledNumbers : ℕ → (ℕ → Type 0) → ℕ → List Chunk → Type 0
FilledNumbers n S = Map (without_zeros n) (Plain (InDigits 256 (filled_octets n) (BeforeZeros (unused_bits n) S)))

-- ---- the preamble ("encoding of sequence types", preamble)

-- how many bits are before the presence bits: the extension bit, where there is a mark
abbrev pub extension_count : MoreFields → ℕ
extension_count closed = 0
extension_count (marked fs) = 1

-- how many of these may be 1: none where there are no additions
abbrev pub extending_count : MoreFields → ℕ
extending_count closed = 0
extending_count (marked no_fields) = 0
extending_count (marked (field name demand t fs)) = 1

-- the preamble as a number: the extension bit, and the presence bits
abbrev pub Preamble : Fields → MoreFields → ℕ → List Chunk → Type 0
Preamble root more =
    FilledNumbers (extension_count more + bitmap_length root) (λ m. m < 2 ^ (extending_count more + bitmap_length root))

-- ---- the bitmap of the additions ("encoding of sequence types", extension addition presence bitmap)

-- the numbers that n bits hold, but for 0
abbrev pub SomeBits : ℕ → ℕ → Type 0
SomeBits n m = (1 ≤ m) × (m < 2 ^ n)

-- the bits without what stands before them
abbrev pub bitmap_told : ℕ × (ℕ × ℕ) → ℕ
bitmap_told p = p.1.1

-- a BIT STRING of n bits, of which some are 1: the length, the number of unused bits and the bits
abbrev pub Bitmap : ℕ → ℕ → List Chunk → Type 0
Bitmap n =
    Map bitmap_told (Then (OctetLength (λ l. l ≡ suc (filled_octets n)))
    (λ _. Then (Plain (InDigits 256 1 (λ u. u ≡ unused_bits n))) (λ _. FilledNumbers n (SomeBits n))))
