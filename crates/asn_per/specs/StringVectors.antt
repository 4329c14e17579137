-- Worked encodings of the string types in CANONICAL-PER UNALIGNED (X.691). A comment spells the bits, from
-- which the octets follow by filling with 0.
use Rattle.std.specs.Prelude.{◌≡◌, ℕ, true, List, [], ◌∷◌, ◌++◌, map, length, take, drop, replicate, refl, codes}
use Rattle.std.proofs.Common.{ap, ◌∙◌}
use Rattle.std.proofs.lemmas.List.{length-map}
use Rattle.asn_values.specs.Datum.{bit_list, octet_list, characters, unicode}
use Rattle.asn_values.specs.Shape.{ia5, numeric, visible, bit_string, octet_string, restricted, utf8_string}
use Rattle.asn_values.specs.ExampleTypes.{hex, bits_of, exactly, size_between, size_from, any_size, size_between_or_more}
use Rattle.asn_bits.specs.Numbers.{bits, unpacked}
use Rattle.asn_bits.specs.Lengths.{joined, lengths, with_lengths}
use Rattle.asn_rules.specs.Chunks.{Chunk, one, ones}
use Rattle.asn_per.specs.Per.{per, per_octets}

-- ---- BIT STRING

-- 00000011, then 101
three_bits : per_octets (bit_string any_size) (bit_list (bits_of "101")) ≡ hex "03 A0"
three_bits = refl

-- 00000000
no_bits_at_all : per_octets (bit_string any_size) (bit_list (bits_of "")) ≡ hex "00"
no_bits_at_all = refl

-- SIZE (3): 101
bits_of_a_fixed_size_have_no_length : per_octets (bit_string (exactly 3)) (bit_list (bits_of "101")) ≡ hex "A0"
bits_of_a_fixed_size_have_no_length = refl

-- SIZE (0): no bits, so one octet of 0
a_bit_string_of_size_zero : per_octets (bit_string (exactly 0)) (bit_list (bits_of "")) ≡ hex "00"
a_bit_string_of_size_zero = refl

-- SIZE (0..3): the length 11, then 101
bits_of_a_bounded_size : per_octets (bit_string (size_between 0 3)) (bit_list (bits_of "101")) ≡ hex "E8"
bits_of_a_bounded_size = refl

-- SIZE (2..5): the length lies 1 above 2, so 01, then 110
bits_of_a_bounded_size_above_zero : per_octets (bit_string (size_between 2 5)) (bit_list (bits_of "110")) ≡ hex "70"
bits_of_a_bounded_size_above_zero = refl

-- SIZE (2..MAX): the length is 2 itself, 00000010, then 10
bits_of_a_size_from_two : per_octets (bit_string (size_from 2)) (bit_list (bits_of "10")) ≡ hex "02 80"
bits_of_a_size_from_two = refl

-- SIZE (1..2, ...): 0, the length 0, then 1
bits_inside_a_marked_size : per_octets (bit_string (size_between_or_more 1 2)) (bit_list (bits_of "1")) ≡ hex "20"
bits_inside_a_marked_size = refl

-- 1, then 00000011 and 101
bits_outside_a_marked_size : per_octets (bit_string (size_between_or_more 1 2)) (bit_list (bits_of "101")) ≡ hex "81 D0"
bits_outside_a_marked_size = refl

-- SIZE (3, ...): 0, then 101
bits_of_a_marked_fixed_size : per_octets (bit_string (size_between_or_more 3 3)) (bit_list (bits_of "101")) ≡ hex "50"
bits_of_a_marked_fixed_size = refl

-- ---- OCTET STRING

-- 00000001, then 10101011
one_octet : per_octets (octet_string any_size) (octet_list (hex "AB")) ≡ hex "01 AB"
one_octet = refl

-- 00000000
no_octets : per_octets (octet_string any_size) (octet_list []) ≡ hex "00"
no_octets = refl

-- SIZE (1): 10101011
octets_of_a_fixed_size_have_no_length : per_octets (octet_string (exactly 1)) (octet_list (hex "AB")) ≡ hex "AB"
octets_of_a_fixed_size_have_no_length = refl

-- SIZE (0..1): the length 1, then 10101011
octets_of_a_bounded_size : per_octets (octet_string (size_between 0 1)) (octet_list (hex "AB")) ≡ hex "D5 80"
octets_of_a_bounded_size = refl

-- SIZE (2..3, ...): 0, the length 0, then 10101011 11001101
octets_inside_a_marked_size :
    per_octets (octet_string (size_between_or_more 2 3)) (octet_list (hex "AB CD")) ≡ hex "2A F3 40"
octets_inside_a_marked_size = refl

-- 1, then 00000001 and 10101011
octets_below_a_marked_size :
    per_octets (octet_string (size_between_or_more 2 3)) (octet_list (hex "AB")) ≡ hex "80 D5 80"
octets_below_a_marked_size = refl

-- 1, then 00000000
no_octets_below_a_marked_size : per_octets (octet_string (size_between_or_more 2 3)) (octet_list []) ≡ hex "80 00"
no_octets_below_a_marked_size = refl

-- SIZE (0..65535): the length in 16 bits, then 10101011
octets_of_the_largest_bounded_size :
    per_octets (octet_string (size_between 0 65535)) (octet_list (hex "AB")) ≡ hex "00 01 AB"
octets_of_the_largest_bounded_size = refl

-- SIZE (0..65536): the general length in 8 bits, then 10101011
octets_of_a_size_to_65536 : per_octets (octet_string (size_between 0 65536)) (octet_list (hex "AB")) ≡ hex "01 AB"
octets_of_a_size_to_65536 = refl

-- SIZE (0..65536, ...): 0, then 00000001 and 10101011
octets_of_a_marked_size_to_65536 :
    per_octets (octet_string (size_between_or_more 0 65536)) (octet_list (hex "AB")) ≡ hex "00 D5 80"
octets_of_a_marked_size_to_65536 = refl

-- ---- IA5String and VisibleString: seven bits a character

-- 00000010, then 1001000 1101001
two_ia5_characters : per_octets (restricted ia5 any_size) (characters (codes "Hi")) ≡ hex "02 91 A4"
two_ia5_characters = refl

-- 00000000
no_characters : per_octets (restricted ia5 any_size) (characters (codes "")) ≡ hex "00"
no_characters = refl

-- SIZE (0..3, ...): 0, the length 01, then 1000001
ia5_inside_a_marked_size : per_octets (restricted ia5 (size_between_or_more 0 3)) (characters (codes "A")) ≡ hex "30 40"
ia5_inside_a_marked_size = refl

-- 1, then 00000100 and 1000001 1000010 1000011 1000100
ia5_outside_a_marked_size :
    per_octets (restricted ia5 (size_between_or_more 0 3)) (characters (codes "ABCD")) ≡ hex "82 41 85 0E 20"
ia5_outside_a_marked_size = refl

-- 0000000
the_first_ia5_character : per_octets (restricted ia5 (exactly 1)) (characters (0 ∷ [])) ≡ hex "00"
the_first_ia5_character = refl

-- 1111111
the_last_ia5_character : per_octets (restricted ia5 (exactly 1)) (characters (127 ∷ [])) ≡ hex "FE"
the_last_ia5_character = refl

-- 1111110
the_last_visible_character : per_octets (restricted visible (exactly 1)) (characters (codes "~")) ≡ hex "FC"
the_last_visible_character = refl

-- 0100000, its code and no index among the characters
the_first_visible_character : per_octets (restricted visible (exactly 1)) (characters (codes " ")) ≡ hex "40"
the_first_visible_character = refl

-- ---- NumericString: four bits a character

-- 0010 0011
two_digits : per_octets (restricted numeric (exactly 2)) (characters (codes "12")) ≡ hex "23"
two_digits = refl

-- 0000 1010
space_is_zero_and_nine_is_ten : per_octets (restricted numeric (exactly 2)) (characters (codes " 9")) ≡ hex "0A"
space_is_zero_and_nine_is_ten = refl

-- 0001
zero_is_one : per_octets (restricted numeric (exactly 1)) (characters (codes "0")) ≡ hex "10"
zero_is_one = refl

-- 00000010, then 0010 0011
digits_of_any_size : per_octets (restricted numeric any_size) (characters (codes "12")) ≡ hex "02 23"
digits_of_any_size = refl

-- SIZE (1..4): the length lies 0 above 1, so 00, then 1010
digits_of_a_bounded_size : per_octets (restricted numeric (size_between 1 4)) (characters (codes "9")) ≡ hex "28"
digits_of_a_bounded_size = refl

-- SIZE (2, ...): 0, then 0010 0011
digits_of_a_marked_fixed_size :
    per_octets (restricted numeric (size_between_or_more 2 2)) (characters (codes "12")) ≡ hex "11 80"
digits_of_a_marked_fixed_size = refl

-- ---- UTF8String: a length in octets, and the octets

-- U+00E9 is C3 A9
one_character_of_two_octets : per_octets utf8_string (unicode (hex "C3 A9")) ≡ hex "02 C3 A9"
one_character_of_two_octets = refl

a_text_without_characters : per_octets utf8_string (unicode []) ≡ hex "00"
a_text_without_characters = refl

-- 10 and 00000010000000
a_text_of_128_octets : per_octets utf8_string (unicode (replicate 128 0x61)) ≡ hex "80 80" ++ replicate 128 0x61
a_text_of_128_octets = refl

-- ---- general lengths: one octet below 128, two below 16384, then fragments of 16384 to 65536 items

-- 0 and 1111111
127_octets : per_octets (octet_string any_size) (octet_list (replicate 127 0xAB)) ≡ hex "7F" ++ replicate 127 0xAB
127_octets = refl

-- 10 and 00000010000000
128_octets : per_octets (octet_string any_size) (octet_list (replicate 128 0xAB)) ≡ hex "80 80" ++ replicate 128 0xAB
128_octets = refl

-- 10 and 11111111111111
16383_octets :
    per_octets (octet_string any_size) (octet_list (replicate 16383 0xAB)) ≡ hex "BF FF" ++ replicate 16383 0xAB
16383_octets = refl

-- 11 and 000001, then the length of none
16384_octets :
    per_octets (octet_string any_size) (octet_list (replicate 16384 0xAB))
    ≡ hex "C1" ++ (replicate 16384 0xAB ++ hex "00")
16384_octets = refl

-- 2048 octets of bits
16384_bits :
    per_octets (bit_string any_size) (bit_list (replicate 16384 true)) ≡ hex "C1" ++ (replicate 2048 0xFF ++ hex "00")
16384_bits = refl

-- 11 and 000001; then 0 and 0000001, and the last bit
16385_bits :
    per_octets (bit_string any_size) (bit_list (replicate 16385 true))
    ≡ hex "C1" ++ (replicate 2048 0xFF ++ hex "01 80")
16385_bits = refl

-- 11 and 000011 for 49152 bits; then 10 and 11111111111111 for 16383 bits
65535_bits :
    per_octets (bit_string any_size) (bit_list (replicate 65535 true))
    ≡ hex "C3" ++ (replicate 6144 0xFF ++ (hex "BF FF" ++ (replicate 2047 0xFF ++ hex "FE")))
65535_bits = refl

-- 11 and 000100, then the length of none
65536_bits :
    per_octets (bit_string any_size) (bit_list (replicate 65536 true)) ≡ hex "C4" ++ (replicate 8192 0xFF ++ hex "00")
65536_bits = refl

-- 11 and 000100 for 65536 bits; 11 and 000001 for 16384; then the length of none
81920_bits :
    per_octets (bit_string any_size) (bit_list (replicate 81920 true))
    ≡ hex "C4" ++ (replicate 8192 0xFF ++ (hex "C1" ++ (replicate 2048 0xFF ++ hex "00")))
81920_bits = refl

-- SIZE (20000..MAX): 11 and 000001, then 10 and 00111000100000 for 3616 bits
20000_bits_of_a_size_from_20000 :
    per_octets (bit_string (size_from 20000)) (bit_list (replicate 20000 true))
    ≡ hex "C1" ++ (replicate 2048 0xFF ++ (hex "8E 20" ++ replicate 452 0xFF))
20000_bits_of_a_size_from_20000 = refl

-- SIZE (16384): the bits alone
16384_bits_of_a_fixed_size_are_no_fragments :
    per_octets (bit_string (exactly 16384)) (bit_list (replicate 16384 true)) ≡ replicate 2048 0xFF
16384_bits_of_a_fixed_size_are_no_fragments = refl

-- SIZE (65536): a fragment, and the length of none
65536_bits_of_a_fixed_size :
    per_octets (bit_string (exactly 65536)) (bit_list (replicate 65536 true))
    ≡ hex "C4" ++ (replicate 8192 0xFF ++ hex "00")
65536_bits_of_a_fixed_size = refl

-- ---- octets in two fragments, whatever the octets are: 65536 of them, 16384, and then the length of none

-- the bits of octets, each an item
abbrev octet_items : List ℕ → List (List Chunk)
octet_items os = map (λ o. ones (bits 8 o)) os

-- SIZE (65536): 11 and 000100; 0 and 0000000
65536_octets_of_a_fixed_size : (os : List ℕ) → length os ≡ 65536
    → per (octet_string (exactly 65536)) (octet_list os)
    ≡ ones (unpacked (hex "C4")) ++ (joined (take 65536 (octet_items os)) ++ (ones (unpacked (hex "00")) ++ []))
65536_octets_of_a_fixed_size os e =
    ap (λ n. with_lengths one (lengths n) (octet_items os)) (length-map os (λ o. ones (bits 8 o)) ∙ e)

-- 11 and 000100; 11 and 000001; 0 and 0000000
81920_octets : (os : List ℕ) → length os ≡ 81920
    → per (octet_string any_size) (octet_list os)
    ≡ ones (unpacked (hex "C4")) ++ (joined (take 65536 (octet_items os))
    ++ (ones (unpacked (hex "C1")) ++ (joined (take 16384 (drop 65536 (octet_items os)))
    ++ (ones (unpacked (hex "00")) ++ []))))
81920_octets os e = ap (λ n. with_lengths one (lengths n) (octet_items os)) (length-map os (λ o. ones (bits 8 o)) ∙ e)
