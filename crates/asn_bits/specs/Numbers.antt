-- Numbers as bits and as octets.
use Rattle.std.specs.Prelude.{◌+◌, ◌-◌, ◌*◌, ◌/◌, ◌%◌, ◌^◌, ◌==◌, ℕ, zero, suc, ℤ, pos, negsuc, Bool, true, false, List, [], ◌∷◌, ◌++◌, replicate, nat_le, nat_lt}
use Rattle.asn_limits.specs.Limits.{highest_integer}

-- ---- a given number of digits

-- the last k digits of n in a base, the highest first
abbrev pub digits : ℕ → ℕ → ℕ → List ℕ
digits base zero n = []
digits base (suc k) n = (n / base ^ k) % base ∷ digits base k n

-- n in k bits (X.691, "non-negative-binary-integer encoding")
abbrev pub bits : ℕ → ℕ → List ℕ
bits k n = digits 2 k n

-- n in k octets
abbrev pub octets : ℕ → ℕ → List ℕ
octets k n = digits 256 k n

-- ---- the fewest digits

-- the least k, from start on, that passes the test, where one of the next few does
abbrev pub least_from : (ℕ → Bool) → ℕ → ℕ → ℕ
least_from test zero start = start
least_from test (suc few) start = elim (test start) [ true ↦ start | false ↦ least_from test few (suc start) ]

-- how many bits tell r values apart: the least k with r ≤ 2 ^ k (X.691, "constrained whole number")
abbrev pub width : ℕ → ℕ
width r = least_from (λ k. nat_le r (2 ^ k)) r 0

-- how many octets n needs, at least one
abbrev pub octet_count : ℕ → ℕ
octet_count n = least_from (λ k. nat_lt n (256 ^ k)) n 1

-- n in the fewest octets, at least one
abbrev pub least : ℕ → List ℕ
least n = octets (octet_count n) n

-- ---- two's complement

-- n of n, and n of -(n + 1): what has to fit beside the sign bit
abbrev pub magnitude : ℤ → ℕ
magnitude (pos n) = n
magnitude (negsuc n) = n

-- z in k octets of two's complement
abbrev pub signed_octets : ℕ → ℤ → List ℕ
signed_octets k (pos n) = octets k n
signed_octets k (negsuc n) = octets k (256 ^ k - 1 - n)

-- how many octets z needs, at least one
abbrev pub signed_octet_count : ℤ → ℕ
signed_octet_count z = least_from (λ k. nat_lt (magnitude z) (2 ^ (8 * k - 1))) (magnitude z) 1

-- the most octets that an integer of the profile needs
abbrev pub most_signed_octets : ℕ
most_signed_octets = signed_octet_count highest_integer

-- z in the fewest octets of two's complement, at least one
abbrev pub least_signed : ℤ → List ℕ
least_signed z = signed_octets (signed_octet_count z) z

-- how far z lies above low
abbrev pub above : ℤ → ℤ → ℕ
above (pos low) (pos n) = n - low
above (negsuc low) (pos n) = n + suc low
above (negsuc low) (negsuc n) = low - n
above (pos low) (negsuc n) = 0

-- ---- base 128 (X.696, the tag of a CHOICE)

-- n in base 128 before the octets last; turns is at least the number of octets that this needs
abbrev pub base_128_before : ℕ → ℕ → List ℕ → List ℕ
base_128_before zero n last = last
base_128_before (suc turns) n last =
    elim (n == 0) [ true ↦ last | false ↦ base_128_before turns (n / 128) ((128 + n % 128) ∷ last) ]

-- n in the fewest octets of base 128, the high bit set on all but the last
abbrev pub base_128 : ℕ → List ℕ
base_128 n = base_128_before n (n / 128) (n % 128 ∷ [])

-- ---- bits and octets

-- the zeros that fill octets after n bits
abbrev pub padding : ℕ → List ℕ
padding n = replicate ((8 - n % 8) % 8) 0

-- the octets of bits that fill octets
abbrev pub packed : List ℕ → List ℕ
packed (a ∷ b ∷ c ∷ d ∷ e ∷ f ∷ g ∷ h ∷ rest) =
    (128 * a + 64 * b + 32 * c + 16 * d + 8 * e + 4 * f + 2 * g + h) ∷ packed rest
packed _ = []

-- the bits of octets
abbrev pub unpacked : List ℕ → List ℕ
unpacked [] = []
unpacked (o ∷ os) = bits 8 o ++ unpacked os
