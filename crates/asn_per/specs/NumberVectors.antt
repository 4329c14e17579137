-- Worked encodings of BOOLEAN, NULL, INTEGER and ENUMERATED in CANONICAL-PER UNALIGNED (X.691). A comment
-- spells the bits, from which the octets follow by filling with 0.
use Rattle.std.specs.Prelude.{◌≡◌, pos, negsuc, true, false, [], ◌∷◌, Some, None, refl, codes}
use Rattle.asn_values.specs.Datum.{truth, nothing, number, item}
use Rattle.asn_values.specs.Shape.{boolean, null, integer, enumerated, closed_labels, marked_labels}
use Rattle.asn_values.specs.ExampleTypes.{hex, between, number_from, number_to, any_number, between_or_more, label, labels_from, colours, unsorted_items, unsorted_enumeration, many_items}
use Rattle.asn_per.specs.Per.{per_octets}

-- ---- BOOLEAN and NULL

-- 1
boolean_true : per_octets boolean (truth true) ≡ hex "80"
boolean_true = refl

-- 0
boolean_false : per_octets boolean (truth false) ≡ hex "00"
boolean_false = refl

-- no bits, so one octet of 0
null_is_one_octet_as_a_message : per_octets null nothing ≡ hex "00"
null_is_one_octet_as_a_message = refl

-- ---- INTEGER between bounds: the number above the low bound, in the fewest bits that tell the range apart

-- INTEGER (5..5): no bits, so one octet of 0
one_number_has_no_bits : per_octets (integer (between (pos 5) (pos 5))) (number (pos 5)) ≡ hex "00"
one_number_has_no_bits = refl

-- INTEGER (0..1): 1
two_numbers_have_one_bit : per_octets (integer (between (pos 0) (pos 1))) (number (pos 1)) ≡ hex "80"
two_numbers_have_one_bit = refl

-- INTEGER (0..5): 101
six_numbers_have_three_bits : per_octets (integer (between (pos 0) (pos 5))) (number (pos 5)) ≡ hex "A0"
six_numbers_have_three_bits = refl

-- INTEGER (0..7): 101
eight_numbers_have_three_bits : per_octets (integer (between (pos 0) (pos 7))) (number (pos 5)) ≡ hex "A0"
eight_numbers_have_three_bits = refl

-- INTEGER (0..8): 1000
nine_numbers_have_four_bits : per_octets (integer (between (pos 0) (pos 8))) (number (pos 8)) ≡ hex "80"
nine_numbers_have_four_bits = refl

-- INTEGER (0..255): 11111111
an_octet_holds_256_numbers : per_octets (integer (between (pos 0) (pos 255))) (number (pos 255)) ≡ hex "FF"
an_octet_holds_256_numbers = refl

-- INTEGER (0..256): 100000000
257_numbers_have_nine_bits : per_octets (integer (between (pos 0) (pos 256))) (number (pos 256)) ≡ hex "80 00"
257_numbers_have_nine_bits = refl

-- INTEGER (-5..5), eleven numbers: 0000
the_low_bound_is_zero : per_octets (integer (between (negsuc 4) (pos 5))) (number (negsuc 4)) ≡ hex "00"
the_low_bound_is_zero = refl

-- INTEGER (-5..5): 5 lies 10 above -5, so 1010
the_high_bound_is_how_far_it_lies_above : per_octets (integer (between (negsuc 4) (pos 5))) (number (pos 5)) ≡ hex "A0"
the_high_bound_is_how_far_it_lies_above = refl

-- INTEGER (10..13), four numbers: 12 lies 2 above 10, so 10
a_low_bound_above_zero : per_octets (integer (between (pos 10) (pos 13))) (number (pos 12)) ≡ hex "80"
a_low_bound_above_zero = refl

-- INTEGER (-20..-13), eight numbers: -14 lies 6 above -20, so 110
a_range_of_negative_numbers : per_octets (integer (between (negsuc 19) (negsuc 12))) (number (negsuc 13)) ≡ hex "C0"
a_range_of_negative_numbers = refl

-- -1 lies 2^63 - 1 above -2^63: 0 and 63 bits of 1
all_integers_of_64_bits_below_zero :
    per_octets (integer (between (negsuc 9223372036854775807) (pos 9223372036854775807))) (number (negsuc 0))
    ≡ hex "7F FF FF FF FF FF FF FF"
all_integers_of_64_bits_below_zero = refl

-- 64 bits of 0
all_integers_of_64_bits_least :
    per_octets (integer (between (negsuc 9223372036854775807) (pos 9223372036854775807)))
    (number (negsuc 9223372036854775807))
    ≡ hex "00 00 00 00 00 00 00 00"
all_integers_of_64_bits_least = refl

-- 64 bits of 1
all_integers_of_64_bits_greatest :
    per_octets (integer (between (negsuc 9223372036854775807) (pos 9223372036854775807)))
    (number (pos 9223372036854775807))
    ≡ hex "FF FF FF FF FF FF FF FF"
all_integers_of_64_bits_greatest = refl

-- 64 bits of 1: the highest integer of the profile
all_unsigned_integers_of_64_bits_greatest :
    per_octets (integer (between (pos 0) (pos 18446744073709551615))) (number (pos 18446744073709551615))
    ≡ hex "FF FF FF FF FF FF FF FF"
all_unsigned_integers_of_64_bits_greatest = refl

-- INTEGER (-2^63..2^64-1), all integers of the profile: 65 bits of 0
a_range_of_65_bits_least :
    per_octets (integer (between (negsuc 9223372036854775807) (pos 18446744073709551615)))
    (number (negsuc 9223372036854775807))
    ≡ hex "00 00 00 00 00 00 00 00 00"
a_range_of_65_bits_least = refl

-- 2^64 + 2^63 - 1, as 1, 0 and 63 bits of 1
a_range_of_65_bits_greatest :
    per_octets (integer (between (negsuc 9223372036854775807) (pos 18446744073709551615)))
    (number (pos 18446744073709551615))
    ≡ hex "BF FF FF FF FF FF FF FF 80"
a_range_of_65_bits_greatest = refl

-- ---- INTEGER with a low bound only: a length, and how far the number lies above the bound, in the fewest octets

-- INTEGER (10..MAX): 0 in one octet
from_the_bound_itself : per_octets (integer (number_from (pos 10))) (number (pos 10)) ≡ hex "01 00"
from_the_bound_itself = refl

-- 265 lies 255 above 10
from_a_bound_to_the_end_of_an_octet : per_octets (integer (number_from (pos 10))) (number (pos 265)) ≡ hex "01 FF"
from_a_bound_to_the_end_of_an_octet = refl

-- 266 lies 256 above 10
from_a_bound_past_an_octet : per_octets (integer (number_from (pos 10))) (number (pos 266)) ≡ hex "02 01 00"
from_a_bound_past_an_octet = refl

-- INTEGER (-5..MAX)
from_a_negative_bound : per_octets (integer (number_from (negsuc 4))) (number (negsuc 4)) ≡ hex "01 00"
from_a_negative_bound = refl

-- 250 lies 255 above -5
from_a_negative_bound_to_the_end_of_an_octet :
    per_octets (integer (number_from (negsuc 4))) (number (pos 250)) ≡ hex "01 FF"
from_a_negative_bound_to_the_end_of_an_octet = refl

-- 251 lies 256 above -5
from_a_negative_bound_past_an_octet : per_octets (integer (number_from (negsuc 4))) (number (pos 251)) ≡ hex "02 01 00"
from_a_negative_bound_past_an_octet = refl

-- -2 lies 3 above -5
from_a_negative_bound_still_below_zero : per_octets (integer (number_from (negsuc 4))) (number (negsuc 1)) ≡ hex "01 03"
from_a_negative_bound_still_below_zero = refl

-- INTEGER (0..MAX): 128 is 10000000
from_zero_has_no_sign_bit : per_octets (integer (number_from (pos 0))) (number (pos 128)) ≡ hex "01 80"
from_zero_has_no_sign_bit = refl

-- 2^63 - 1
from_zero_greatest_of_the_profile :
    per_octets (integer (number_from (pos 0))) (number (pos 9223372036854775807)) ≡ hex "08 7F FF FF FF FF FF FF FF"
from_zero_greatest_of_the_profile = refl

-- 2^64 - 1, the highest integer of the profile
from_zero_greatest_of_64_bits :
    per_octets (integer (number_from (pos 0))) (number (pos 18446744073709551615)) ≡ hex "08 FF FF FF FF FF FF FF FF"
from_zero_greatest_of_64_bits = refl

-- INTEGER (-9223372036854775808..MAX): 2^63 - 1 lies 2^64 - 1 above
from_the_least_integer :
    per_octets (integer (number_from (negsuc 9223372036854775807))) (number (pos 9223372036854775807))
    ≡ hex "08 FF FF FF FF FF FF FF FF"
from_the_least_integer = refl

-- 2^64 - 1, past the profile, lies 2^64 + 2^63 - 1 above
from_the_least_integer_in_nine_octets :
    per_octets (integer (number_from (negsuc 9223372036854775807))) (number (pos 18446744073709551615))
    ≡ hex "09 01 7F FF FF FF FF FF FF FF"
from_the_least_integer_in_nine_octets = refl

-- ---- INTEGER without a low bound: a length, and two's complement in the fewest octets

zero_has_one_octet : per_octets (integer any_number) (number (pos 0)) ≡ hex "01 00"
zero_has_one_octet = refl

-- 01111111
127_has_one_octet : per_octets (integer any_number) (number (pos 127)) ≡ hex "01 7F"
127_has_one_octet = refl

-- a sign bit of 0 is needed before 10000000
128_has_two_octets : per_octets (integer any_number) (number (pos 128)) ≡ hex "02 00 80"
128_has_two_octets = refl

-- 11111111
minus_1_has_one_octet : per_octets (integer any_number) (number (negsuc 0)) ≡ hex "01 FF"
minus_1_has_one_octet = refl

-- 10000000
minus_128_has_one_octet : per_octets (integer any_number) (number (negsuc 127)) ≡ hex "01 80"
minus_128_has_one_octet = refl

-- 2^16 - 129 = 65407
minus_129_has_two_octets : per_octets (integer any_number) (number (negsuc 128)) ≡ hex "02 FF 7F"
minus_129_has_two_octets = refl

32767_has_two_octets : per_octets (integer any_number) (number (pos 32767)) ≡ hex "02 7F FF"
32767_has_two_octets = refl

32768_has_three_octets : per_octets (integer any_number) (number (pos 32768)) ≡ hex "03 00 80 00"
32768_has_three_octets = refl

minus_32768_has_two_octets : per_octets (integer any_number) (number (negsuc 32767)) ≡ hex "02 80 00"
minus_32768_has_two_octets = refl

-- 2^24 - 32769 = 16744447
minus_32769_has_three_octets : per_octets (integer any_number) (number (negsuc 32768)) ≡ hex "03 FF 7F FF"
minus_32769_has_three_octets = refl

-- -2^63
the_least_integer :
    per_octets (integer any_number) (number (negsuc 9223372036854775807)) ≡ hex "08 80 00 00 00 00 00 00 00"
the_least_integer = refl

-- 2^63 - 1
the_greatest_integer :
    per_octets (integer any_number) (number (pos 9223372036854775807)) ≡ hex "08 7F FF FF FF FF FF FF FF"
the_greatest_integer = refl

-- past the integers of 64 bits with a sign
2_to_the_63_has_nine_octets :
    per_octets (integer any_number) (number (pos 9223372036854775808)) ≡ hex "09 00 80 00 00 00 00 00 00 00"
2_to_the_63_has_nine_octets = refl

-- 2^64 - 1, the highest integer of the profile
the_greatest_of_64_bits_has_nine_octets :
    per_octets (integer any_number) (number (pos 18446744073709551615)) ≡ hex "09 00 FF FF FF FF FF FF FF FF"
the_greatest_of_64_bits_has_nine_octets = refl

-- INTEGER (MIN..5): as without bounds
a_high_bound_alone_does_not_count : per_octets (integer (number_to (pos 5))) (number (pos 5)) ≡ hex "01 05"
a_high_bound_alone_does_not_count = refl

-- 2^16 - 200 = 65336
a_high_bound_alone_does_not_count_below_zero :
    per_octets (integer (number_to (pos 5))) (number (negsuc 199)) ≡ hex "02 FF 38"
a_high_bound_alone_does_not_count_below_zero = refl

-- ---- INTEGER with an extension mark: a bit, then the form of the root, or outside it that of an INTEGER without
-- bounds

-- INTEGER (0..7, ...): 0, then 101
in_the_root_of_a_marked_range : per_octets (integer (between_or_more (pos 0) (pos 7))) (number (pos 5)) ≡ hex "50"
in_the_root_of_a_marked_range = refl

-- 1, then 00000001 00001000
above_the_root_of_a_marked_range :
    per_octets (integer (between_or_more (pos 0) (pos 7))) (number (pos 8)) ≡ hex "80 84 00"
above_the_root_of_a_marked_range = refl

-- 1, then 00000001 11111111
below_the_root_of_a_marked_range :
    per_octets (integer (between_or_more (pos 0) (pos 7))) (number (negsuc 0)) ≡ hex "80 FF 80"
below_the_root_of_a_marked_range = refl

-- INTEGER (5, ...): 0, then no bits
the_only_number_of_a_marked_root : per_octets (integer (between_or_more (pos 5) (pos 5))) (number (pos 5)) ≡ hex "00"
the_only_number_of_a_marked_root = refl

-- 1, then 00000001 00000110
beside_the_only_number_of_a_marked_root :
    per_octets (integer (between_or_more (pos 5) (pos 5))) (number (pos 6)) ≡ hex "80 83 00"
beside_the_only_number_of_a_marked_root = refl

-- INTEGER (10..MAX, ...): 0, then 00000001 00000000
in_a_marked_half_open_range :
    per_octets (integer (record { low = Some (pos 10); high = None; extensible = true })) (number (pos 10))
    ≡ hex "00 80 00"
in_a_marked_half_open_range = refl

-- 1, then 00000001 00001001
below_a_marked_half_open_range :
    per_octets (integer (record { low = Some (pos 10); high = None; extensible = true })) (number (pos 9))
    ≡ hex "80 84 80"
below_a_marked_half_open_range = refl

-- INTEGER (MIN..5, ...): 0, then 00000001 00000101
in_a_marked_range_without_low_bound :
    per_octets (integer (record { low = None; high = Some (pos 5); extensible = true })) (number (pos 5))
    ≡ hex "00 82 80"
in_a_marked_range_without_low_bound = refl

-- 1, then 00000001 00000110
above_a_marked_range_without_low_bound :
    per_octets (integer (record { low = None; high = Some (pos 5); extensible = true })) (number (pos 6))
    ≡ hex "80 83 00"
above_a_marked_range_without_low_bound = refl

-- ---- ENUMERATED: the index among the root's items sorted by number; after a mark a bit, and for an addition its index
-- there

-- colours red: 0, then 00
first_of_three_after_a_mark : per_octets colours (item 0) ≡ hex "00"
first_of_three_after_a_mark = refl

-- colours green: 0, then 01
second_of_three_after_a_mark : per_octets colours (item 1) ≡ hex "20"
second_of_three_after_a_mark = refl

-- colours blue: 0, then 10
third_of_three_after_a_mark : per_octets colours (item 2) ≡ hex "40"
third_of_three_after_a_mark = refl

-- colours grey: 1, then 0 and 000000
the_first_addition : per_octets colours (item 3) ≡ hex "80"
the_first_addition = refl

-- numbers 9, -9, 0 as written: 9 is the third, 10
sorted_by_number_written_first : per_octets unsorted_enumeration (item 0) ≡ hex "80"
sorted_by_number_written_first = refl

-- -9 is the first, 00
sorted_by_number_written_second : per_octets unsorted_enumeration (item 1) ≡ hex "00"
sorted_by_number_written_second = refl

-- 0 is the second, 01
sorted_by_number_written_third : per_octets unsorted_enumeration (item 2) ≡ hex "40"
sorted_by_number_written_third = refl

-- the same items and a mark: 0, then 10
sorted_by_number_after_a_mark : per_octets (enumerated unsorted_items (marked_labels [])) (item 0) ≡ hex "40"
sorted_by_number_after_a_mark = refl

one_item_has_no_bits : per_octets (enumerated (label (codes "a") (pos 0) ∷ []) closed_labels) (item 0) ≡ hex "00"
one_item_has_no_bits = refl

-- 0, then no bits
one_item_after_a_mark : per_octets (enumerated (label (codes "a") (pos 0) ∷ []) (marked_labels [])) (item 0) ≡ hex "00"
one_item_after_a_mark = refl

-- 0, then 1
two_items_after_a_mark_without_additions :
    per_octets (enumerated (label (codes "a") (pos 0) ∷ label (codes "b") (pos 1) ∷ []) (marked_labels [])) (item 1)
    ≡ hex "40"
two_items_after_a_mark_without_additions = refl

-- 11111111
256_items_have_eight_bits : per_octets (enumerated (labels_from 0 256) closed_labels) (item 255) ≡ hex "FF"
256_items_have_eight_bits = refl

-- 0, then no bits
the_root_before_many_additions : per_octets many_items (item 0) ≡ hex "00"
the_root_before_many_additions = refl

-- 1, then 0 and 111111
addition_63_is_in_the_short_form : per_octets many_items (item 64) ≡ hex "BF"
addition_63_is_in_the_short_form = refl

-- 1, then 1 and 00000001 01000000; past the additions of the profile
addition_64_is_in_the_long_form : per_octets many_items (item 65) ≡ hex "C0 50 00"
addition_64_is_in_the_long_form = refl

-- 1, then 1 and 00000001 11000111; past the additions of the profile
addition_199_is_in_the_long_form : per_octets many_items (item 200) ≡ hex "C0 71 C0"
addition_199_is_in_the_long_form = refl
