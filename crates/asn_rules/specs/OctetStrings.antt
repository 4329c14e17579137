-- Characters and bits in whole octets.
use Rattle.std.specs.Prelude.{◌≡◌, ◌+◌, ◌-◌, ◌*◌, ◌/◌, ◌%◌, ◌^◌, ◌≤◌, ◌<◌, ℕ, zero, suc, Bool, true, false, List, ◌++◌, map, length, take, get_or, IsTrue}
use Rattle.std.specs.List.{AllByRecursion}
use Rattle.asn_values.specs.Shape.{Alphabet}
use Rattle.asn_values.specs.Fits.{is_of_kind}
use Rattle.asn_bits.specs.Numbers.{unpacked}
use Rattle.asn_bits.specs.Sets.{InDigits}
use Rattle.asn_rules.specs.Chunks.{Chunk}
use Rattle.asn_rules.specs.Fields.{OneOctet, OctetLength}
use Rattle.asn_rules.specs.Filled.{filled_octets}
use Rattle.asn_rules.specs.Languages.{Then, Map, Row, Plain}

-- ---- characters

-- a character, as one octet
abbrev pub Character : Alphabet → ℕ → List Chunk → Type 0
Character k = Plain (InDigits 256 1 (λ c. IsTrue (is_of_kind k c)))

-- this many octets in front are characters of the kind, and the next one, where there is one, is none
pub record IsValidCount (k : Alphabet) (os : List ℕ) (n : ℕ) : Type 0 where
  pub within : n ≤ length os
  pub valid : AllByRecursion (λ c. IsTrue (is_of_kind k c)) (take n os)
  pub other : n < length os → is_of_kind k (get_or os n 0) ≡ false

-- ---- bits (X.696, "encoding of bit string types")

-- the octet that r bits are in, before zeros
abbrev pub EndOctet : ℕ → ℕ → List Chunk → Type 0
EndOctet r = Plain (InDigits 256 1 (λ o. (o < 256) × (o % 2 ^ (8 - r) ≡ 0)))

-- a bit is a truth value
abbrev pub is_one : ℕ → Bool
is_one zero = false
is_one (suc b) = true

-- the first n bits of octets
abbrev pub bits_told : ℕ → List ℕ × List ℕ → List Bool
bits_told n p = map is_one (take n (unpacked (p.0 ++ p.1)))

-- n bits: the octets that they fill, and, where some are left, an octet of those before zeros
abbrev pub PackedBits : ℕ → List Bool → List Chunk → Type 0
PackedBits n = Map (bits_told n) (Then (Row OneOctet (n / 8)) (λ _. Row (EndOctet (n % 8)) ((n % 8 + 7) / 8)))

-- the length of some bits, of a count of the set: an octet for the unused ones, and those that the bits fill
pub record BitsLength (S : ℕ → Type 0) (l : ℕ) : Type 0 where
  pub count : ℕ
  pub member : S count
  pub same : l ≡ suc (filled_octets count)

-- how many bits of the octets are unused, where those that are left are a count of the set
pub record UnusedBits (S : ℕ → Type 0) (l u : ℕ) : Type 0 where
  pub few : u < 8
  pub left : u ≤ 8 * (l - 1)
  pub member : S (8 * (l - 1) - u)

-- the bits without what stands before them
abbrev pub last_told : ℕ × (ℕ × List Bool) → List Bool
last_told p = p.1.1

-- bits of a count of the set: a length, the number of unused bits, and the bits
abbrev pub VariableBits : (ℕ → Type 0) → List Bool → List Chunk → Type 0
VariableBits S = Map last_told
    (Then (OctetLength (BitsLength S))
    (λ l. Then (Plain (InDigits 256 1 (UnusedBits S l))) (λ u. PackedBits (8 * (l - 1) - u))))
