-- Worked encodings of BOOLEAN, NULL, INTEGER and ENUMERATED in Canonical OER (X.696).
use Rattle.std.specs.Prelude.{◌≡◌, pos, negsuc, true, false, [], ◌∷◌, refl, codes}
use Rattle.asn_values.specs.Datum.{truth, nothing, number, item}
use Rattle.asn_values.specs.Shape.{boolean, null, integer, enumerated, closed_labels}
use Rattle.asn_values.specs.ExampleTypes.{hex, between, number_from, number_to, any_number, between_or_more, label, colours, unsorted_enumeration, many_items}
use Rattle.asn_oer.specs.Oer.{oer_octets}

-- ---- BOOLEAN and NULL

boolean_true : oer_octets boolean (truth true) ≡ hex "FF"
boolean_true = refl

boolean_false : oer_octets boolean (truth false) ≡ hex "00"
boolean_false = refl

null_has_no_octets : oer_octets null nothing ≡ []
null_has_no_octets = refl

-- ---- INTEGER between bounds, the low one not negative: 1, 2, 4 or 8 unsigned octets

a_bound_of_255_has_one_octet : oer_octets (integer (between (pos 0) (pos 255))) (number (pos 255)) ≡ hex "FF"
a_bound_of_255_has_one_octet = refl

a_bound_of_255_has_one_octet_for_zero_too : oer_octets (integer (between (pos 0) (pos 255))) (number (pos 0)) ≡ hex "00"
a_bound_of_255_has_one_octet_for_zero_too = refl

-- INTEGER (5..10)
the_number_itself_and_not_above_the_bound : oer_octets (integer (between (pos 5) (pos 10))) (number (pos 7)) ≡ hex "07"
the_number_itself_and_not_above_the_bound = refl

-- INTEGER (5..5)
one_number_has_its_octet : oer_octets (integer (between (pos 5) (pos 5))) (number (pos 5)) ≡ hex "05"
one_number_has_its_octet = refl

a_bound_of_256_has_two_octets : oer_octets (integer (between (pos 0) (pos 256))) (number (pos 256)) ≡ hex "01 00"
a_bound_of_256_has_two_octets = refl

a_bound_of_256_has_two_octets_for_zero_too :
    oer_octets (integer (between (pos 0) (pos 256))) (number (pos 0)) ≡ hex "00 00"
a_bound_of_256_has_two_octets_for_zero_too = refl

a_bound_of_65535_has_two_octets : oer_octets (integer (between (pos 0) (pos 65535))) (number (pos 65535)) ≡ hex "FF FF"
a_bound_of_65535_has_two_octets = refl

a_bound_of_65536_has_four_octets :
    oer_octets (integer (between (pos 0) (pos 65536))) (number (pos 65536)) ≡ hex "00 01 00 00"
a_bound_of_65536_has_four_octets = refl

-- 2^32 - 1
a_bound_of_32_bits_has_four_octets :
    oer_octets (integer (between (pos 0) (pos 4294967295))) (number (pos 4294967295)) ≡ hex "FF FF FF FF"
a_bound_of_32_bits_has_four_octets = refl

-- 2^32
a_bound_past_32_bits_has_eight_octets :
    oer_octets (integer (between (pos 0) (pos 4294967296))) (number (pos 4294967296)) ≡ hex "00 00 00 01 00 00 00 00"
a_bound_past_32_bits_has_eight_octets = refl

-- 2^63 - 1
the_greatest_bound_of_the_profile_has_eight_octets :
    oer_octets (integer (between (pos 0) (pos 9223372036854775807))) (number (pos 9223372036854775807))
    ≡ hex "7F FF FF FF FF FF FF FF"
the_greatest_bound_of_the_profile_has_eight_octets = refl

-- 2^64 - 1, the highest integer of the profile
a_bound_of_64_bits_has_eight_octets :
    oer_octets (integer (between (pos 0) (pos 18446744073709551615))) (number (pos 18446744073709551615))
    ≡ hex "FF FF FF FF FF FF FF FF"
a_bound_of_64_bits_has_eight_octets = refl

-- ---- INTEGER between bounds, the low one negative: 1, 2, 4 or 8 octets of two's complement

eight_signed_bits_have_one_octet_least :
    oer_octets (integer (between (negsuc 127) (pos 127))) (number (negsuc 127)) ≡ hex "80"
eight_signed_bits_have_one_octet_least = refl

eight_signed_bits_have_one_octet_greatest :
    oer_octets (integer (between (negsuc 127) (pos 127))) (number (pos 127)) ≡ hex "7F"
eight_signed_bits_have_one_octet_greatest = refl

-- 2^16 - 129 = 65407
a_low_bound_past_eight_bits_has_two_octets :
    oer_octets (integer (between (negsuc 128) (pos 0))) (number (negsuc 128)) ≡ hex "FF 7F"
a_low_bound_past_eight_bits_has_two_octets = refl

a_high_bound_past_eight_bits_has_two_octets :
    oer_octets (integer (between (negsuc 0) (pos 128))) (number (pos 128)) ≡ hex "00 80"
a_high_bound_past_eight_bits_has_two_octets = refl

-- INTEGER (-1..254)
two_octets_below_zero : oer_octets (integer (between (negsuc 0) (pos 254))) (number (negsuc 0)) ≡ hex "FF FF"
two_octets_below_zero = refl

-- INTEGER (-1..254)
two_octets_above_zero : oer_octets (integer (between (negsuc 0) (pos 254))) (number (pos 254)) ≡ hex "00 FE"
two_octets_above_zero = refl

sixteen_signed_bits_have_two_octets_least :
    oer_octets (integer (between (negsuc 32767) (pos 32767))) (number (negsuc 32767)) ≡ hex "80 00"
sixteen_signed_bits_have_two_octets_least = refl

sixteen_signed_bits_have_two_octets_greatest :
    oer_octets (integer (between (negsuc 32767) (pos 32767))) (number (pos 32767)) ≡ hex "7F FF"
sixteen_signed_bits_have_two_octets_greatest = refl

-- 2^32 - 32769
a_low_bound_past_sixteen_bits_has_four_octets :
    oer_octets (integer (between (negsuc 32768) (pos 0))) (number (negsuc 32768)) ≡ hex "FF FF 7F FF"
a_low_bound_past_sixteen_bits_has_four_octets = refl

a_high_bound_past_sixteen_bits_has_four_octets :
    oer_octets (integer (between (negsuc 0) (pos 32768))) (number (pos 32768)) ≡ hex "00 00 80 00"
a_high_bound_past_sixteen_bits_has_four_octets = refl

-- -2^31
thirty_two_signed_bits_have_four_octets_least :
    oer_octets (integer (between (negsuc 2147483647) (pos 2147483647))) (number (negsuc 2147483647)) ≡ hex "80 00 00 00"
thirty_two_signed_bits_have_four_octets_least = refl

-- 2^31 - 1
thirty_two_signed_bits_have_four_octets_greatest :
    oer_octets (integer (between (negsuc 2147483647) (pos 2147483647))) (number (pos 2147483647)) ≡ hex "7F FF FF FF"
thirty_two_signed_bits_have_four_octets_greatest = refl

-- -2^31 - 1
a_low_bound_past_32_bits_has_eight_octets :
    oer_octets (integer (between (negsuc 2147483648) (pos 0))) (number (negsuc 2147483648))
    ≡ hex "FF FF FF FF 7F FF FF FF"
a_low_bound_past_32_bits_has_eight_octets = refl

-- 2^31
a_high_bound_past_32_signed_bits_has_eight_octets :
    oer_octets (integer (between (negsuc 0) (pos 2147483648))) (number (pos 2147483648)) ≡ hex "00 00 00 00 80 00 00 00"
a_high_bound_past_32_signed_bits_has_eight_octets = refl

-- -2^63
sixty_four_signed_bits_have_eight_octets_least :
    oer_octets (integer (between (negsuc 9223372036854775807) (pos 9223372036854775807)))
    (number (negsuc 9223372036854775807))
    ≡ hex "80 00 00 00 00 00 00 00"
sixty_four_signed_bits_have_eight_octets_least = refl

sixty_four_signed_bits_have_eight_octets_below_zero :
    oer_octets (integer (between (negsuc 9223372036854775807) (pos 9223372036854775807))) (number (negsuc 0))
    ≡ hex "FF FF FF FF FF FF FF FF"
sixty_four_signed_bits_have_eight_octets_below_zero = refl

-- 2^63 - 1
sixty_four_signed_bits_have_eight_octets_greatest :
    oer_octets (integer (between (negsuc 9223372036854775807) (pos 9223372036854775807)))
    (number (pos 9223372036854775807))
    ≡ hex "7F FF FF FF FF FF FF FF"
sixty_four_signed_bits_have_eight_octets_greatest = refl

-- INTEGER (-2^63..2^64-1), all integers of the profile
more_than_64_signed_bits_have_a_length_least :
    oer_octets (integer (between (negsuc 9223372036854775807) (pos 18446744073709551615)))
    (number (negsuc 9223372036854775807))
    ≡ hex "08 80 00 00 00 00 00 00 00"
more_than_64_signed_bits_have_a_length_least = refl

more_than_64_signed_bits_have_a_length_greatest :
    oer_octets (integer (between (negsuc 9223372036854775807) (pos 18446744073709551615)))
    (number (pos 18446744073709551615))
    ≡ hex "09 00 FF FF FF FF FF FF FF FF"
more_than_64_signed_bits_have_a_length_greatest = refl

-- ---- INTEGER with one bound or none: a length, and the fewest octets, unsigned only where the low bound is not
-- negative

-- INTEGER (10..MAX): the number itself
from_the_bound_itself : oer_octets (integer (number_from (pos 10))) (number (pos 10)) ≡ hex "01 0A"
from_the_bound_itself = refl

-- 266 = 256 + 10
from_a_bound_past_an_octet : oer_octets (integer (number_from (pos 10))) (number (pos 266)) ≡ hex "02 01 0A"
from_a_bound_past_an_octet = refl

from_zero_has_one_octet_for_zero : oer_octets (integer (number_from (pos 0))) (number (pos 0)) ≡ hex "01 00"
from_zero_has_one_octet_for_zero = refl

from_zero_has_no_sign_bit : oer_octets (integer (number_from (pos 0))) (number (pos 255)) ≡ hex "01 FF"
from_zero_has_no_sign_bit = refl

from_zero_past_an_octet : oer_octets (integer (number_from (pos 0))) (number (pos 256)) ≡ hex "02 01 00"
from_zero_past_an_octet = refl

-- 2^63 - 1
from_zero_greatest_of_the_profile :
    oer_octets (integer (number_from (pos 0))) (number (pos 9223372036854775807)) ≡ hex "08 7F FF FF FF FF FF FF FF"
from_zero_greatest_of_the_profile = refl

-- 2^64 - 1, the highest integer of the profile
from_zero_greatest_of_64_bits :
    oer_octets (integer (number_from (pos 0))) (number (pos 18446744073709551615)) ≡ hex "08 FF FF FF FF FF FF FF FF"
from_zero_greatest_of_64_bits = refl

-- INTEGER (-5..MAX): 2^8 - 5 = 251
from_a_negative_bound_below_zero : oer_octets (integer (number_from (negsuc 4))) (number (negsuc 4)) ≡ hex "01 FB"
from_a_negative_bound_below_zero = refl

from_a_negative_bound_in_one_octet : oer_octets (integer (number_from (negsuc 4))) (number (pos 127)) ≡ hex "01 7F"
from_a_negative_bound_in_one_octet = refl

from_a_negative_bound_with_a_sign_bit :
    oer_octets (integer (number_from (negsuc 4))) (number (pos 128)) ≡ hex "02 00 80"
from_a_negative_bound_with_a_sign_bit = refl

-- INTEGER (-9223372036854775808..MAX): 2^64 - 1, the highest integer of the profile
from_the_least_integer :
    oer_octets (integer (number_from (negsuc 9223372036854775807))) (number (pos 18446744073709551615))
    ≡ hex "09 00 FF FF FF FF FF FF FF FF"
from_the_least_integer = refl

-- INTEGER (MIN..5)
a_high_bound_alone_is_signed : oer_octets (integer (number_to (pos 5))) (number (pos 5)) ≡ hex "01 05"
a_high_bound_alone_is_signed = refl

-- 2^16 - 200 = 65336
a_high_bound_alone_below_zero : oer_octets (integer (number_to (pos 5))) (number (negsuc 199)) ≡ hex "02 FF 38"
a_high_bound_alone_below_zero = refl

-- INTEGER without bounds
zero_has_one_octet : oer_octets (integer any_number) (number (pos 0)) ≡ hex "01 00"
zero_has_one_octet = refl

127_has_one_octet : oer_octets (integer any_number) (number (pos 127)) ≡ hex "01 7F"
127_has_one_octet = refl

-- a sign bit of 0 is needed before 10000000
128_has_two_octets : oer_octets (integer any_number) (number (pos 128)) ≡ hex "02 00 80"
128_has_two_octets = refl

minus_128_has_one_octet : oer_octets (integer any_number) (number (negsuc 127)) ≡ hex "01 80"
minus_128_has_one_octet = refl

-- 2^16 - 129 = 65407
minus_129_has_two_octets : oer_octets (integer any_number) (number (negsuc 128)) ≡ hex "02 FF 7F"
minus_129_has_two_octets = refl

-- -2^63
the_least_integer :
    oer_octets (integer any_number) (number (negsuc 9223372036854775807)) ≡ hex "08 80 00 00 00 00 00 00 00"
the_least_integer = refl

-- 2^63 - 1
the_greatest_integer :
    oer_octets (integer any_number) (number (pos 9223372036854775807)) ≡ hex "08 7F FF FF FF FF FF FF FF"
the_greatest_integer = refl

-- past the integers of 64 bits with a sign
2_to_the_63_has_nine_octets :
    oer_octets (integer any_number) (number (pos 9223372036854775808)) ≡ hex "09 00 80 00 00 00 00 00 00 00"
2_to_the_63_has_nine_octets = refl

-- 2^64 - 1, the highest integer of the profile
the_greatest_of_64_bits_has_nine_octets :
    oer_octets (integer any_number) (number (pos 18446744073709551615)) ≡ hex "09 00 FF FF FF FF FF FF FF FF"
the_greatest_of_64_bits_has_nine_octets = refl

-- ---- INTEGER with an extension mark: as without bounds

-- INTEGER (0..7, ...)
in_the_root_of_a_marked_range : oer_octets (integer (between_or_more (pos 0) (pos 7))) (number (pos 5)) ≡ hex "01 05"
in_the_root_of_a_marked_range = refl

above_the_root_of_a_marked_range : oer_octets (integer (between_or_more (pos 0) (pos 7))) (number (pos 8)) ≡ hex "01 08"
above_the_root_of_a_marked_range = refl

below_the_root_of_a_marked_range :
    oer_octets (integer (between_or_more (pos 0) (pos 7))) (number (negsuc 0)) ≡ hex "01 FF"
below_the_root_of_a_marked_range = refl

-- INTEGER (0..255, ...)
a_marked_range_has_a_sign_bit :
    oer_octets (integer (between_or_more (pos 0) (pos 255))) (number (pos 255)) ≡ hex "02 00 FF"
a_marked_range_has_a_sign_bit = refl

-- ---- ENUMERATED: the number, in one octet from 0 to 127, else 128 + k and its k octets; no extension bit

-- colours green
an_item_of_the_root : oer_octets colours (item 1) ≡ hex "05"
an_item_of_the_root = refl

-- colours blue: 200 needs a sign bit of 0
an_item_past_127 : oer_octets colours (item 2) ≡ hex "82 00 C8"
an_item_past_127 = refl

-- colours grey: 300
an_addition : oer_octets colours (item 3) ≡ hex "82 01 2C"
an_addition = refl

127_is_the_last_in_one_octet :
    oer_octets (enumerated (label (codes "a") (pos 127) ∷ []) closed_labels) (item 0) ≡ hex "7F"
127_is_the_last_in_one_octet = refl

128_is_the_first_in_the_long_form :
    oer_octets (enumerated (label (codes "a") (pos 128) ∷ []) closed_labels) (item 0) ≡ hex "82 00 80"
128_is_the_first_in_the_long_form = refl

a_negative_number_is_in_the_long_form :
    oer_octets (enumerated (label (codes "a") (negsuc 0) ∷ []) closed_labels) (item 0) ≡ hex "81 FF"
a_negative_number_is_in_the_long_form = refl

minus_128_has_one_octet_after_its_count :
    oer_octets (enumerated (label (codes "a") (negsuc 127) ∷ []) closed_labels) (item 0) ≡ hex "81 80"
minus_128_has_one_octet_after_its_count = refl

minus_129_has_two_octets_after_their_count :
    oer_octets (enumerated (label (codes "a") (negsuc 128) ∷ []) closed_labels) (item 0) ≡ hex "82 FF 7F"
minus_129_has_two_octets_after_their_count = refl

-- 2^31 - 1
the_greatest_number_of_32_bits :
    oer_octets (enumerated (label (codes "a") (pos 2147483647) ∷ []) closed_labels) (item 0) ≡ hex "84 7F FF FF FF"
the_greatest_number_of_32_bits = refl

-- -2^31
the_least_number_of_32_bits :
    oer_octets (enumerated (label (codes "a") (negsuc 2147483647) ∷ []) closed_labels) (item 0) ≡ hex "84 80 00 00 00"
the_least_number_of_32_bits = refl

-- numbers 9, -9, 0 as written
numbers_as_written_first : oer_octets unsorted_enumeration (item 0) ≡ hex "09"
numbers_as_written_first = refl

-- 2^8 - 9 = 247
numbers_as_written_second : oer_octets unsorted_enumeration (item 1) ≡ hex "81 F7"
numbers_as_written_second = refl

numbers_as_written_third : oer_octets unsorted_enumeration (item 2) ≡ hex "00"
numbers_as_written_third = refl

-- number 0
the_root_before_many_additions : oer_octets many_items (item 0) ≡ hex "00"
the_root_before_many_additions = refl

-- number 65; past the additions of the profile
addition_64_of_many : oer_octets many_items (item 65) ≡ hex "41"
addition_64_of_many = refl

-- number 200; past the additions of the profile
addition_199_of_many : oer_octets many_items (item 200) ≡ hex "82 00 C8"
addition_199_of_many = refl
