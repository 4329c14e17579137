-- What encodings of BOOLEAN, NULL, INTEGER and ENUMERATED consist of in Canonical OER (X.696).
use Rattle.std.specs.Prelude.{◌≡◌, ◌-◌, ◌^◌, ◌<◌, ◌≤◌, ◌⊎◌, ◌&&◌, ℕ, suc, ℤ, pos, negsuc, Bool, true, false, List, [], ◌∷◌, Option, Some, None, length, nat_lt}
use Rattle.std.specs.Int.RustNames.{int_le, int_lt}
use Rattle.asn_values.specs.Datum.{Datum, truth, nothing, number, item}
use Rattle.asn_values.specs.Shape.{Range, Label}
use Rattle.asn_values.specs.Fits.{FitsNumber, highest_number}
use Rattle.asn_values.specs.Profile.{int_eq}
use Rattle.asn_rules.specs.Chunks.{Chunk}
use Rattle.asn_rules.specs.Components.{number_at}
use Rattle.asn_rules.specs.Languages.{Then, Map, Nothing, Plain}
use Rattle.asn_bits.specs.Sets.{InDigits, Between, Among}
use Rattle.asn_rules.specs.Counted.{SomeOf, Counted, number_of, Least, signed_number, LeastSigned}
use Rattle.asn_rules.specs.IntegerSets.{magnitude_of}
use Rattle.asn_oer.specs.Oer.{unsigned_octets, signed_size}

-- ---- BOOLEAN and NULL

-- 0 is FALSE, and any other octet TRUE
abbrev pub truth_told : ℕ → Datum
truth_told n = truth (nat_lt 0 n)

-- the octet 0 or the octet 255 ("encoding of boolean types")
abbrev pub Booleans : Datum → List Chunk → Type 0
Booleans = Map truth_told (Plain (InDigits 256 1 (Among ((0, 0) ∷ (255, 255) ∷ []))))

-- no octets ("encoding of null types")
abbrev pub Nulls : Datum → List Chunk → Type 0
Nulls = Nothing nothing

-- ---- INTEGER ("encoding of integer types")

-- the numbers from low to high in k octets
abbrev pub FixedUnsigned : ℕ → ℕ → ℕ → ℤ → List Chunk → Type 0
FixedUnsigned k low high = Map (λ n. pos n) (Plain (InDigits 256 k (Between low high)))

-- the numbers from low to high after the count of their octets, the fewest
abbrev pub CountedUnsigned : ℕ → ℕ → ℤ → List Chunk → Type 0
CountedUnsigned low high = Map (λ n. pos n) (Map number_of (Counted 256 1 (Least (Between low high))))

-- what the k octets hold that stand in two's complement for the integers from low to high
abbrev pub residues : ℕ → ℤ → ℤ → List (ℕ × ℕ)
residues k (pos low) (pos high) = (low, high) ∷ []
residues k (pos low) (negsuc high) = []
residues k (negsuc low) (pos high) = (0, high) ∷ (256 ^ k - 1 - low, 256 ^ k - 1) ∷ []
residues k (negsuc low) (negsuc high) = (256 ^ k - 1 - low, 256 ^ k - 1 - high) ∷ []

-- the integers from low to high in k octets of two's complement
abbrev pub FixedSigned : ℕ → ℤ → ℤ → ℤ → List Chunk → Type 0
FixedSigned k low high = Map (λ n. signed_number (k, n)) (Plain (InDigits 256 k (Among (residues k low high))))

-- the integers of the set after the count of their octets of two's complement, the fewest
abbrev pub CountedSigned : (ℤ → Type 0) → ℤ → List Chunk → Type 0
CountedSigned S = Map signed_number (Counted 256 1 (LeastSigned S))

-- in a fixed number of octets, where there is one
abbrev pub UnsignedIn : Option ℕ → ℕ → ℕ → ℤ → List Chunk → Type 0
UnsignedIn (Some k) low high = FixedUnsigned k low high
UnsignedIn None low high = CountedUnsigned low high

-- likewise in two's complement
abbrev pub SignedIn : Range → Option ℕ → ℤ → ℤ → ℤ → List Chunk → Type 0
SignedIn b (Some k) low high = FixedSigned k low high
SignedIn b None low high = CountedSigned (FitsNumber b)

-- the integers of the range b, by its bounds: unsigned where the low one is not negative
abbrev pub BoundedIntegers : Range → Option ℤ → Option ℤ → ℤ → List Chunk → Type 0
BoundedIntegers b (Some (pos low)) (Some high) = UnsignedIn (unsigned_octets high) low (magnitude_of high)
BoundedIntegers b (Some (pos low)) None = CountedUnsigned low highest_number
BoundedIntegers b (Some (negsuc low)) (Some high) = SignedIn b (signed_size (negsuc low) high) (negsuc low) high
BoundedIntegers b (Some (negsuc low)) None = CountedSigned (FitsNumber b)
BoundedIntegers b None high = CountedSigned (FitsNumber b)

-- the integers of the range; an extensible one counts as none
abbrev pub Integers : Range → Datum → List Chunk → Type 0
Integers b =
    Map number (elim b.extensible [ true ↦ CountedSigned (FitsNumber b) | false ↦ BoundedIntegers b b.low b.high ])

-- ---- ENUMERATED ("encoding of enumerated types")

-- the number is that of an item
pub record IsNumberOf (labels : List Label) (z : ℤ) : Type 0 where
  pub place : ℕ
  pub here : place < length labels
  pub same : z ≡ number_at labels place

-- the position of the first item with the number
abbrev pub place_of : List Label → ℤ → ℕ
place_of [] z = 0
place_of (l ∷ labels) z = elim (int_eq z l.number) [ true ↦ 0 | false ↦ suc (place_of labels z) ]

-- a number from 0 to 127, which is one octet
abbrev pub is_short : ℤ → Bool
is_short z = int_le (pos 0) z && int_lt z (pos 128)

-- the numbers of the set that are not
abbrev pub LongOnes : (ℤ → Type 0) → ℤ → Type 0
LongOnes S z = S z × (is_short z ≡ false)

-- the first octet: a number of the set from 0 to 127, or 128 and the count of the octets of another
abbrev pub ItemOctet : (ℤ → Type 0) → ℕ → Type 0
ItemOctet S b = ((b < 128) × S (pos b)) ⊎ ((128 ≤ b) × SomeOf (LeastSigned (LongOnes S)) (b - 128))

-- after it nothing, or those octets, in two's complement
abbrev pub AfterItemOctet : (ℤ → Type 0) → ℕ → ℤ → List Chunk → Type 0
AfterItemOctet S b =
    elim (nat_lt b 128) [
      | true ↦ Nothing (pos b)
      | false ↦ Map (λ n. signed_number (b - 128, n))
          (Plain (InDigits 256 (b - 128) (LeastSigned (LongOnes S) (b - 128))))
    ]

-- the number without its first octet
abbrev pub number_told : ℕ × ℤ → ℤ
number_told p = p.1

-- the numbers of the set as those of items
abbrev pub ItemNumbers : (ℤ → Type 0) → ℤ → List Chunk → Type 0
ItemNumbers S = Map number_told (Then (Plain (InDigits 256 1 (ItemOctet S))) (AfterItemOctet S))

-- the item with the number
abbrev pub item_told : List Label → ℤ → Datum
item_told labels z = item (place_of labels z)

-- the items, by their numbers
abbrev pub Items : List Label → Datum → List Chunk → Type 0
Items labels = Map (item_told labels) (ItemNumbers (IsNumberOf labels))
