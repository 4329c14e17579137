-- The spellings of the simple types in OER, and what stands in front of the others, are octets and not too many.
use Rattle.std.proofs.Common.{◌≡◌, ◌≤◌, ◌<◌, ◌+◌, ◌-◌, ◌*◌, ◌^◌, ℕ, ℤ, pos, negsuc, ◌≤ℤ◌, Bool, true, false, ◌&&◌, List, ◌∷◌, length, Option, Some, None, inl, inr, refl, sym, subst, arith, length-append}
use Rattle.std.proofs.lemmas.Bool.{ltb-true, and_parts}
use Rattle.std.proofs.lemmas.Int.{ints}
use Rattle.std.specs.Int.RustNames.{int_le, int_lt}
use Rattle.asn_values.specs.Shape.{Range, SizeRange}
use Rattle.asn_values.specs.Fits.{FitsNumber, lowest_integer, highest_integer, max_len}
use Rattle.asn_values.specs.Profile.{is_fixed_size}
use Rattle.asn_bits.specs.Numbers.{octets, octet_count, least, least_signed, signed_octets, signed_octet_count, magnitude, padding}
use Rattle.asn_bits.proofs.Octets.{all_signed, octet_count_below, length-least_signed, signed_count_below}
use Rattle.asn_bits.proofs.FilledBits.{AreBits, length-padding, length-packed, filled_up, filled_up_fills, filled_up_octets}
use Rattle.asn_rules.specs.Laws.{AreOctets}
use Rattle.asn_rules.specs.Fields.{spelled}
use Rattle.asn_rules.specs.Filled.{filled_bits}
use Rattle.asn_rules.specs.IntegerSets.{magnitude_of}
use Rattle.asn_oer.specs.Oer.{counted, counted_signed, unsigned_octets, unsigned_in, signed_size, signed_in, ranged, whole_number, variable_bits, bit_octets, sized_octets, item_number, tag}
use Rattle.asn_oer.proofs.Law.Integers.{unsigned_cases, signed_cases}
use Rattle.asn_oer.proofs.Law.TagForms.{few_tag_octets, tag_octets}
use Rattle.asn_oer.proofs.Encodings.Spelt.{room, room_first, Short, short_more, octets_short, few_octets, short_spelled}

-- a content of at most 2 ^ 29 octets with its length
spelled_short : (n : ℕ) (c : List ℕ) → n ≤ 536870912 → Short n c → Short (2 * n + 2) (spelled c)
spelled_short n c h p = short_spelled n 1 c (omega (arith, room_first)) (omega arith) p

-- ---- INTEGER

-- the integers of the profile, beside their sign
pub in_64_bits : (z : ℤ) → lowest_integer ≤ℤ z → z ≤ℤ highest_integer → magnitude z < 18446744073709551616
in_64_bits (pos n) p q = omega (arith, ints)
in_64_bits (negsuc n) p q = omega (arith, ints)

-- a number from 0 is its magnitude
magnitude_below : (z : ℤ) (n : ℕ) → magnitude z < n → magnitude_of z < n
magnitude_below (pos k) n h = h
magnitude_below (negsuc k) n h = omega arith

-- a number in k octets of two's complement
signed_octets_short : (k : ℕ) (z : ℤ) → Short k (signed_octets k z)
signed_octets_short k (pos n) = octets_short k n
signed_octets_short k (negsuc n) = octets_short k (256 ^ k - 1 - n)

-- a length and the fewest octets
counted_short : (z : ℤ) → magnitude z < 18446744073709551616 → Short 20 (counted z)
counted_short z h =
    let l : magnitude_of z < 18446744073709551616 = magnitude_below z 18446744073709551616 h in
    let c : octet_count (magnitude_of z) ≤ 8 = octet_count_below (magnitude_of z) 8 (omega arith) (omega arith) in
    spelled_short 9 (least (magnitude_of z)) (omega arith) (short_more (octet_count (magnitude_of z)) 9 (least (magnitude_of z)) (omega arith) (octets_short (octet_count (magnitude_of z)) (magnitude_of z)))

-- a length and the fewest octets of two's complement
counted_signed_short : (z : ℤ) → magnitude z < 18446744073709551616 → Short 20 (counted_signed z)
counted_signed_short z h =
    let c : signed_octet_count z ≤ 9 = signed_count_below z 9 (omega arith) (omega arith) in
    spelled_short 9 (least_signed z) (omega arith) (short_more (signed_octet_count z) 9 (least_signed z) c (signed_octets_short (signed_octet_count z) z))

-- a number from 0 up to a bound
unsigned_short : (u z : ℤ) → magnitude z < 18446744073709551616 → Short 20 (unsigned_in (unsigned_octets u) z)
unsigned_short u z h =
    elim (unsigned_cases u) [
      | inl k ↦ subst (λ o. Short 20 (unsigned_in o z)) (sym k.1) (short_more k.0 20 (octets k.0 (magnitude_of z)) (few k.0 k.3) (octets_short k.0 (magnitude_of z)))
      | inr k ↦ subst (λ o. Short 20 (unsigned_in o z)) (sym k) (counted_short z h)
    ]
  where
    few : (k : ℕ) → k ≤ 8 → k ≤ 20
    few k h = omega arith

-- a number between bounds of which the low one is negative
signed_short : (l u z : ℤ) → magnitude z < 18446744073709551616 → Short 20 (signed_in (signed_size l u) z)
signed_short l u z h =
    elim (signed_cases l u) [
      | inl k ↦ subst (λ o. Short 20 (signed_in o z)) (sym k.2) (short_more k.0 20 (signed_octets k.0 z) (few k.0 k.4) (signed_octets_short k.0 z))
      | inr k ↦ subst (λ o. Short 20 (signed_in o z)) (sym k) (counted_signed_short z h)
    ]
  where
    few : (k : ℕ) → k ≤ 8 → k ≤ 20
    few k h = omega arith

-- a number between bounds, of which either may be missing
ranged_short : (low high : Option ℤ) (z : ℤ) → magnitude z < 18446744073709551616 → Short 20 (ranged low high z)
ranged_short (Some (pos l)) (Some u) z h = unsigned_short u z h
ranged_short (Some (pos l)) None z h = counted_short z h
ranged_short (Some (negsuc l)) (Some u) z h = signed_short (negsuc l) u z h
ranged_short (Some (negsuc l)) None z h = counted_signed_short z h
ranged_short None high z h = counted_signed_short z h

-- an INTEGER
pub number_short : (b : Range) (z : ℤ) → FitsNumber b z → Short 20 (whole_number b z)
number_short b z f = go b.extensible
  where
    inside : magnitude z < 18446744073709551616
    inside = in_64_bits z f.0 f.1

    go : (m : Bool) → Short 20 (elim m [ true ↦ counted_signed z | false ↦ ranged b.low b.high z ])
    go true = counted_signed_short z inside
    go false = ranged_short b.low b.high z inside

-- ---- ENUMERATED

-- a number of 0 to 127 is an octet
magnitude_small : (z : ℤ) → int_le (pos 0) z ≡ true → int_lt z (pos 128) ≡ true → magnitude_of z < 256
magnitude_small (pos n) p q = omega (arith, ltb-true n 128 q)
magnitude_small (negsuc n) p q = omega arith

-- an item
pub item_short : (z : ℤ) → magnitude z < 2147483648 → Short 5 (item_number z)
item_short z h = go (int_le (pos 0) z && int_lt z (pos 128)) refl
  where
    go : (b : Bool) → (int_le (pos 0) z && int_lt z (pos 128)) ≡ b → Short 5 (item_number z)
    go true e = let w = and_parts _ _ e in rw (e, item_number) (record { octets = (magnitude_small z w.0 w.1, tt); most = omega arith })
    go false e =
        let c : signed_octet_count z ≤ 4 = signed_count_below z 4 (omega arith) (omega arith) in
        let k : 128 + length (least_signed z) < 256 = omega (arith, length-least_signed z) in
        rw (e, item_number) (record { octets = (k, all_signed z); most = omega (arith, length-least_signed z) })

-- ---- bits

-- bits filled up to octets
filled_short : (bs : List ℕ) → AreBits bs → Short (length bs + 7) (filled_bits bs)
filled_short bs h = record {
  octets = filled_up_octets bs h;
  most = omega (arith, length-packed (filled_up bs) (filled_up_fills bs), length-append bs (padding (length bs)), length-padding (length bs));
}

-- bits with their length
pub variable_short : (n : ℕ) (bs : List ℕ) → n ≤ 268435456 → length bs ≤ n → AreBits bs → Short (2 * n + 18) (variable_bits bs)
variable_short n bs l m h =
    let p = filled_short bs h in
    let a = p.most in
    short_more (2 * (n + 8) + 2) (2 * n + 18) (variable_bits bs) (omega arith)
    (spelled_short (n + 8) (length (padding (length bs)) ∷ filled_bits bs) (omega arith) (record { octets = (omega (arith, length-padding (length bs)), p.octets); most = omega arith }))

-- a BIT STRING
pub bits_short : (z : SizeRange) (bs : List ℕ) → length bs ≤ max_len → AreBits bs → Short 2147483648 (bit_octets z bs)
bits_short z bs l h = go (is_fixed_size z)
  where
    go : (b : Bool) → Short 2147483648 (elim b [ true ↦ filled_bits bs | false ↦ variable_bits bs ])
    go true = short_more (length bs + 7) 2147483648 (filled_bits bs) (omega arith) (filled_short bs h)
    go false = short_more (2 * max_len + 18) 2147483648 (variable_bits bs) (omega arith) (variable_short max_len bs (omega arith) l h)

-- the bits in front of a SEQUENCE of at most 64 components
pub preamble_short : (bs : List ℕ) → length bs ≤ 65 → AreBits bs → Short 72 (filled_bits bs)
preamble_short bs l h = short_more (length bs + 7) 72 (filled_bits bs) (omega arith) (filled_short bs h)

-- ---- octets and characters

-- octets of a content that is not too long
pub content_short : (os : List ℕ) → length os ≤ max_len → AreOctets os → Short 2147483648 (spelled os)
content_short os l h = short_more (2 * max_len + 2) 2147483648 (spelled os) (omega arith) (spelled_short max_len os (omega arith) (record { octets = h; most = l }))

-- an OCTET STRING or a restricted character string
pub sized_short : (z : SizeRange) (os : List ℕ) → length os ≤ max_len → AreOctets os → Short 2147483648 (sized_octets z os)
sized_short z os l h = go (is_fixed_size z)
  where
    go : (b : Bool) → Short 2147483648 (elim b [ true ↦ os | false ↦ spelled os ])
    go true = record { octets = h; most = omega arith }
    go false = content_short os l h

-- ---- quantities and tags

-- how many elements there are
pub quantity_short : (n : ℕ) → n ≤ max_len → Short 536870914 (spelled (least n))
quantity_short n h =
    let few = few_octets n in
    spelled_short 268435456 (least n) (omega arith) (short_more (octet_count n) 268435456 (least n) (omega arith) (octets_short (octet_count n) n))

-- a tag
pub tag_short : (t : ℕ) → t < 16384 → Short 3 (tag t)
tag_short t h = record { octets = tag_octets t h; most = few_tag_octets t h }
