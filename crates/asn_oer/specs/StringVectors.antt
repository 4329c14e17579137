-- Worked encodings of the string types in Canonical OER (X.696).
use Rattle.std.specs.Prelude.{◌≡◌, true, [], ◌++◌, replicate, refl, codes}
use Rattle.asn_values.specs.Datum.{bit_list, octet_list, characters, unicode}
use Rattle.asn_values.specs.Shape.{ia5, numeric, visible, bit_string, octet_string, restricted, utf8_string}
use Rattle.asn_values.specs.ExampleTypes.{hex, bits_of, exactly, size_between, any_size, size_between_or_more}
use Rattle.asn_oer.specs.Oer.{oer_octets}

-- ---- BIT STRING: the octets alone where the size is fixed, else a length, the number of unused bits and the octets

-- two octets follow; 5 bits unused; 101 and 00000
three_bits : oer_octets (bit_string any_size) (bit_list (bits_of "101")) ≡ hex "02 05 A0"
three_bits = refl

-- no bit unused
eight_bits : oer_octets (bit_string any_size) (bit_list (bits_of "10100101")) ≡ hex "02 00 A5"
eight_bits = refl

-- 7 bits unused; the ninth bit and 0000000
nine_bits : oer_octets (bit_string any_size) (bit_list (bits_of "101001011")) ≡ hex "03 07 A5 80"
nine_bits = refl

-- one octet follows, of no unused bits
no_bits_at_all : oer_octets (bit_string any_size) (bit_list (bits_of "")) ≡ hex "01 00"
no_bits_at_all = refl

-- SIZE (3)
three_bits_of_a_fixed_size : oer_octets (bit_string (exactly 3)) (bit_list (bits_of "101")) ≡ hex "A0"
three_bits_of_a_fixed_size = refl

-- SIZE (8)
eight_bits_of_a_fixed_size : oer_octets (bit_string (exactly 8)) (bit_list (bits_of "10100101")) ≡ hex "A5"
eight_bits_of_a_fixed_size = refl

-- SIZE (9)
nine_bits_of_a_fixed_size : oer_octets (bit_string (exactly 9)) (bit_list (bits_of "101001011")) ≡ hex "A5 80"
nine_bits_of_a_fixed_size = refl

-- SIZE (0)
no_bits_of_a_fixed_size : oer_octets (bit_string (exactly 0)) (bit_list (bits_of "")) ≡ []
no_bits_of_a_fixed_size = refl

-- SIZE (0..3)
bits_of_a_bounded_size : oer_octets (bit_string (size_between 0 3)) (bit_list (bits_of "101")) ≡ hex "02 05 A0"
bits_of_a_bounded_size = refl

-- SIZE (3, ...): not fixed
bits_of_a_marked_fixed_size :
    oer_octets (bit_string (size_between_or_more 3 3)) (bit_list (bits_of "101")) ≡ hex "02 05 A0"
bits_of_a_marked_fixed_size = refl

-- 127 octets and one before them: 128, so the length has a second octet
1016_bits : oer_octets (bit_string any_size) (bit_list (replicate 1016 true)) ≡ hex "81 80 00" ++ replicate 127 0xFF
1016_bits = refl

-- ---- OCTET STRING: the octets, after a length where the size is not fixed

one_octet : oer_octets (octet_string any_size) (octet_list (hex "AB")) ≡ hex "01 AB"
one_octet = refl

no_octets : oer_octets (octet_string any_size) (octet_list []) ≡ hex "00"
no_octets = refl

-- SIZE (1)
an_octet_of_a_fixed_size : oer_octets (octet_string (exactly 1)) (octet_list (hex "AB")) ≡ hex "AB"
an_octet_of_a_fixed_size = refl

-- SIZE (0)
no_octets_of_a_fixed_size : oer_octets (octet_string (exactly 0)) (octet_list []) ≡ []
no_octets_of_a_fixed_size = refl

-- SIZE (0..1)
octets_of_a_bounded_size : oer_octets (octet_string (size_between 0 1)) (octet_list (hex "AB")) ≡ hex "01 AB"
octets_of_a_bounded_size = refl

-- SIZE (1, ...): not fixed
octets_of_a_marked_fixed_size :
    oer_octets (octet_string (size_between_or_more 1 1)) (octet_list (hex "AB")) ≡ hex "01 AB"
octets_of_a_marked_fixed_size = refl

127_octets : oer_octets (octet_string any_size) (octet_list (replicate 127 0xAB)) ≡ hex "7F" ++ replicate 127 0xAB
127_octets = refl

128_octets : oer_octets (octet_string any_size) (octet_list (replicate 128 0xAB)) ≡ hex "81 80" ++ replicate 128 0xAB
128_octets = refl

255_octets : oer_octets (octet_string any_size) (octet_list (replicate 255 0xAB)) ≡ hex "81 FF" ++ replicate 255 0xAB
255_octets = refl

256_octets : oer_octets (octet_string any_size) (octet_list (replicate 256 0xAB)) ≡ hex "82 01 00" ++ replicate 256 0xAB
256_octets = refl

-- without fragments
16384_octets :
    oer_octets (octet_string any_size) (octet_list (replicate 16384 0xAB)) ≡ hex "82 40 00" ++ replicate 16384 0xAB
16384_octets = refl

65536_octets :
    oer_octets (octet_string any_size) (octet_list (replicate 65536 0xAB)) ≡ hex "83 01 00 00" ++ replicate 65536 0xAB
65536_octets = refl

-- SIZE (65536): the octets alone
65536_octets_of_a_fixed_size :
    oer_octets (octet_string (exactly 65536)) (octet_list (replicate 65536 0xAB)) ≡ replicate 65536 0xAB
65536_octets_of_a_fixed_size = refl

81920_octets :
    oer_octets (octet_string any_size) (octet_list (replicate 81920 0xAB)) ≡ hex "83 01 40 00" ++ replicate 81920 0xAB
81920_octets = refl

-- ---- IA5String, NumericString, VisibleString and UTF8String: an octet a code, after a length where the size is not
-- fixed

ia5_characters : oer_octets (restricted ia5 any_size) (characters (codes "Hi")) ≡ hex "02 48 69"
ia5_characters = refl

-- SIZE (2)
ia5_characters_of_a_fixed_size : oer_octets (restricted ia5 (exactly 2)) (characters (codes "Hi")) ≡ hex "48 69"
ia5_characters_of_a_fixed_size = refl

-- SIZE (0..3, ...)
ia5_characters_of_a_marked_size :
    oer_octets (restricted ia5 (size_between_or_more 0 3)) (characters (codes "ABCD")) ≡ hex "04 41 42 43 44"
ia5_characters_of_a_marked_size = refl

-- SIZE (2)
digits_of_a_fixed_size : oer_octets (restricted numeric (exactly 2)) (characters (codes "12")) ≡ hex "31 32"
digits_of_a_fixed_size = refl

space_and_digit : oer_octets (restricted numeric any_size) (characters (codes " 9")) ≡ hex "02 20 39"
space_and_digit = refl

-- SIZE (1)
a_visible_character : oer_octets (restricted visible (exactly 1)) (characters (codes "~")) ≡ hex "7E"
a_visible_character = refl

no_characters : oer_octets (restricted visible any_size) (characters (codes "")) ≡ hex "00"
no_characters = refl

-- U+00E9 is C3 A9
one_unicode_character_of_two_octets : oer_octets utf8_string (unicode (hex "C3 A9")) ≡ hex "02 C3 A9"
one_unicode_character_of_two_octets = refl

a_unicode_text_without_characters : oer_octets utf8_string (unicode []) ≡ hex "00"
a_unicode_text_without_characters = refl

a_unicode_text_of_128_octets : oer_octets utf8_string (unicode (replicate 128 0x61)) ≡ hex "81 80" ++ replicate 128 0x61
a_unicode_text_of_128_octets = refl
