-- Worked numbers, lengths and packings. Each is worked out from the rule that its section names.
use Rattle.std.specs.Prelude.{◌≡◌, pos, negsuc, [], ◌∷◌, ◌++◌, replicate, refl}
use Rattle.asn_bits.specs.Numbers.{bits, octets, width, octet_count, least, signed_octets, least_signed, above, base_128, padding, packed, unpacked}
use Rattle.asn_bits.specs.Lengths.{last_length, fragment, lengths, general, general_octets, octet_length}

-- ---- digits

six_in_four_bits : bits 4 6 ≡ 0 ∷ 1 ∷ 1 ∷ 0 ∷ []
six_in_four_bits = refl

six_in_no_bits : bits 0 6 ≡ []
six_in_no_bits = refl

300_in_two_octets : octets 2 300 ≡ 1 ∷ 44 ∷ []
300_in_two_octets = refl

-- ---- the fewest bits that tell this many numbers apart

width_of_one : width 1 ≡ 0
width_of_one = refl

width_of_two : width 2 ≡ 1
width_of_two = refl

width_of_three : width 3 ≡ 2
width_of_three = refl

width_of_six : width 6 ≡ 3
width_of_six = refl

width_of_eight : width 8 ≡ 3
width_of_eight = refl

width_of_nine : width 9 ≡ 4
width_of_nine = refl

width_of_65536 : width 65536 ≡ 16
width_of_65536 = refl

-- 2 ^ 64
width_of_all_64_bit_integers : width 18446744073709551616 ≡ 64
width_of_all_64_bit_integers = refl

-- 2 ^ 64 + 1
width_of_one_more : width 18446744073709551617 ≡ 65
width_of_one_more = refl

-- ---- the fewest octets, of numbers that are not negative

least_of_0 : least 0 ≡ 0 ∷ []
least_of_0 = refl

least_of_255 : least 255 ≡ 255 ∷ []
least_of_255 = refl

least_of_256 : least 256 ≡ 1 ∷ 0 ∷ []
least_of_256 = refl

least_of_65535 : least 65535 ≡ 255 ∷ 255 ∷ []
least_of_65535 = refl

least_of_65536 : least 65536 ≡ 1 ∷ 0 ∷ 0 ∷ []
least_of_65536 = refl

-- 2 ^ 64 - 1
octets_of_64_bits : octet_count 18446744073709551615 ≡ 8
octets_of_64_bits = refl

-- ---- two's complement

minus_1_in_two_octets : signed_octets 2 (negsuc 0) ≡ 255 ∷ 255 ∷ []
minus_1_in_two_octets = refl

minus_129_in_four_octets : signed_octets 4 (negsuc 128) ≡ 255 ∷ 255 ∷ 255 ∷ 127 ∷ []
minus_129_in_four_octets = refl

least_signed_of_0 : least_signed (pos 0) ≡ 0 ∷ []
least_signed_of_0 = refl

least_signed_of_127 : least_signed (pos 127) ≡ 127 ∷ []
least_signed_of_127 = refl

least_signed_of_128 : least_signed (pos 128) ≡ 0 ∷ 128 ∷ []
least_signed_of_128 = refl

least_signed_of_minus_1 : least_signed (negsuc 0) ≡ 255 ∷ []
least_signed_of_minus_1 = refl

least_signed_of_minus_128 : least_signed (negsuc 127) ≡ 128 ∷ []
least_signed_of_minus_128 = refl

least_signed_of_minus_129 : least_signed (negsuc 128) ≡ 255 ∷ 127 ∷ []
least_signed_of_minus_129 = refl

-- 2 ^ 64 - 1, and the sign in an octet before it
least_signed_of_64_ones : least_signed (pos 18446744073709551615) ≡ 0 ∷ replicate 8 255
least_signed_of_64_ones = refl

-- -(2 ^ 63)
least_signed_of_the_lowest : least_signed (negsuc 9223372036854775807) ≡ 128 ∷ replicate 7 0
least_signed_of_the_lowest = refl

-- ---- how far a number lies above a bound

above_zero : above (pos 3) (pos 10) ≡ 7
above_zero = refl

above_a_negative_bound : above (negsuc 4) (pos 10) ≡ 15
above_a_negative_bound = refl

above_with_both_negative : above (negsuc 4) (negsuc 1) ≡ 3
above_with_both_negative = refl

-- ---- base 128: the high bit on all octets but the last

base_128_of_63 : base_128 63 ≡ 63 ∷ []
base_128_of_63 = refl

base_128_of_127 : base_128 127 ≡ 127 ∷ []
base_128_of_127 = refl

-- 128 = 1 * 128 + 0
base_128_of_128 : base_128 128 ≡ 129 ∷ 0 ∷ []
base_128_of_128 = refl

-- 300 = 2 * 128 + 44
base_128_of_300 : base_128 300 ≡ 130 ∷ 44 ∷ []
base_128_of_300 = refl

-- 16384 = 128 * 128
base_128_of_16384 : base_128 16384 ≡ 129 ∷ 128 ∷ 0 ∷ []
base_128_of_16384 = refl

-- ---- bits and octets

no_padding_after_eight_bits : padding 8 ≡ []
no_padding_after_eight_bits = refl

seven_after_nine_bits : padding 9 ≡ replicate 7 0
seven_after_nine_bits = refl

eight_bits_are_an_octet : packed (1 ∷ 0 ∷ 1 ∷ 0 ∷ 1 ∷ 0 ∷ 1 ∷ 1 ∷ []) ≡ 171 ∷ []
eight_bits_are_an_octet = refl

an_octet_is_eight_bits : unpacked (171 ∷ []) ≡ 1 ∷ 0 ∷ 1 ∷ 0 ∷ 1 ∷ 0 ∷ 1 ∷ 1 ∷ []
an_octet_is_eight_bits = refl

-- ---- general lengths (X.691)

-- 0 and 0000011
length_of_3 : (last_length 3).bits ≡ 0 ∷ 0 ∷ 0 ∷ 0 ∷ 0 ∷ 0 ∷ 1 ∷ 1 ∷ []
length_of_3 = refl

-- 0 and 1111111
length_of_127 : (last_length 127).bits ≡ 0 ∷ replicate 7 1
length_of_127 = refl

-- 1 0 and 00000010000000
length_of_128 : (last_length 128).bits ≡ 1 ∷ 0 ∷ replicate 6 0 ++ 1 ∷ replicate 7 0
length_of_128 = refl

-- 1 0 and 11111111111111
length_of_16383 : (last_length 16383).bits ≡ 1 ∷ 0 ∷ replicate 14 1
length_of_16383 = refl

-- 1 1 and 000100
length_of_a_largest_fragment : (fragment 4).bits ≡ 1 ∷ 1 ∷ 0 ∷ 0 ∷ 0 ∷ 1 ∷ 0 ∷ 0 ∷ []
length_of_a_largest_fragment = refl

-- four times 16384
items_of_a_largest_fragment : (fragment 4).items ≡ 65536
items_of_a_largest_fragment = refl

none_has_a_length : lengths 0 ≡ last_length 0 ∷ []
none_has_a_length = refl

16383_items_are_no_fragments : lengths 16383 ≡ last_length 16383 ∷ []
16383_items_are_no_fragments = refl

16384_items_are_a_fragment_and_none : lengths 16384 ≡ fragment 1 ∷ last_length 0 ∷ []
16384_items_are_a_fragment_and_none = refl

16385_items_are_a_fragment_and_one : lengths 16385 ≡ fragment 1 ∷ last_length 1 ∷ []
16385_items_are_a_fragment_and_one = refl

-- 40000 = 2 * 16384 + 7232
40000_items : lengths 40000 ≡ fragment 2 ∷ last_length 7232 ∷ []
40000_items = refl

65535_items : lengths 65535 ≡ fragment 3 ∷ last_length 16383 ∷ []
65535_items = refl

65536_items_are_one_fragment : lengths 65536 ≡ fragment 4 ∷ last_length 0 ∷ []
65536_items_are_one_fragment = refl

81919_items : lengths 81919 ≡ fragment 4 ∷ last_length 16383 ∷ []
81919_items = refl

-- the larger fragment comes first
81920_items : lengths 81920 ≡ fragment 4 ∷ fragment 1 ∷ last_length 0 ∷ []
81920_items = refl

131072_items : lengths 131072 ≡ fragment 4 ∷ fragment 4 ∷ last_length 0 ∷ []
131072_items = refl

-- 0 and 0000010, then the items
two_items_of_a_bit : general (λ b. b) ((1 ∷ []) ∷ (0 ∷ []) ∷ []) ≡ 0 ∷ 0 ∷ 0 ∷ 0 ∷ 0 ∷ 0 ∷ 1 ∷ 0 ∷ 1 ∷ 0 ∷ []
two_items_of_a_bit = refl

-- 0 and 0000001, then 10101011
one_octet_with_its_length : packed (general_octets (λ b. b) (171 ∷ [])) ≡ 1 ∷ 171 ∷ []
one_octet_with_its_length = refl

-- ---- lengths of octets in OER (X.696)

octet_length_of_0 : octet_length 0 ≡ 0 ∷ []
octet_length_of_0 = refl

octet_length_of_127 : octet_length 127 ≡ 127 ∷ []
octet_length_of_127 = refl

octet_length_of_128 : octet_length 128 ≡ 129 ∷ 128 ∷ []
octet_length_of_128 = refl

octet_length_of_255 : octet_length 255 ≡ 129 ∷ 255 ∷ []
octet_length_of_255 = refl

octet_length_of_256 : octet_length 256 ≡ 130 ∷ 1 ∷ 0 ∷ []
octet_length_of_256 = refl

octet_length_of_16384 : octet_length 16384 ≡ 130 ∷ 64 ∷ 0 ∷ []
octet_length_of_16384 = refl

octet_length_of_65536 : octet_length 65536 ≡ 131 ∷ 1 ∷ 0 ∷ 0 ∷ []
octet_length_of_65536 = refl

-- 2 ^ 28 - 1, the most octets of a message
octet_length_of_the_longest : octet_length 268435455 ≡ 132 ∷ 15 ∷ 255 ∷ 255 ∷ 255 ∷ []
octet_length_of_the_longest = refl
