-- Worked encodings of SEQUENCE, SEQUENCE OF and CHOICE in Canonical OER (X.696).
use Rattle.std.specs.Prelude.{◌≡◌, pos, negsuc, true, false, [], ◌∷◌, ◌++◌, replicate, Some, None, refl, codes, bytes_eq}
use Rattle.asn_values.specs.Datum.{truth, nothing, number, item, octet_list, characters, unicode, components, components_of, alternative}
use Rattle.asn_values.specs.Shape.{boolean, null, integer, octet_string, utf8_string, sequence, sequence_of, choice, no_fields, closed, marked, no_alternatives, one_of, marked_choice}
use Rattle.asn_values.specs.ExampleTypes.{hex, any_number, exactly, size_between, any_size, size_between_or_more, component, optional_component, optionals_of, entries, items, note_type, flag_type, marked_type, extended_type, twice_extended_type, null_addition_type, outer_type, extended_choice, colours, default_type, negative_default_type, false_default_type, many_alternatives}
use Rattle.asn_oer.specs.Oer.{oer_octets}

-- ---- SEQUENCE: a preamble of the presence bits, filled with 0 to octets, then the components

-- SEQUENCE { }: no preamble
no_components : oer_octets (sequence no_fields closed) (entries []) ≡ []
no_components = refl

-- SEQUENCE { b BOOLEAN }
no_preamble :
    oer_octets (sequence (component (codes "b") boolean no_fields) closed) (entries (Some (truth true) ∷ [])) ≡ hex "FF"
no_preamble = refl

-- preamble 00 and 000000
a_default_that_is_left_out :
    oer_octets note_type (entries (Some (number (pos 5)) ∷ Some (truth true) ∷ None ∷ [])) ≡ hex "00 05"
a_default_that_is_left_out = refl

-- preamble 01 and 000000
an_optional_component_that_is_present :
    oer_octets note_type (entries (Some (number (pos 5)) ∷ Some (truth true) ∷ Some (characters (codes "A")) ∷ []))
    ≡ hex "40 05 01 41"
an_optional_component_that_is_present = refl

-- preamble 01 and 000000
an_optional_flag_that_is_present :
    oer_octets flag_type (entries (Some (number (pos 5)) ∷ Some (truth true) ∷ Some (truth true) ∷ [])) ≡ hex "40 05 FF"
an_optional_flag_that_is_present = refl

-- preamble 11 and 000000
a_flag_beside_another_value_than_the_default :
    oer_octets flag_type (entries (Some (number (pos 7)) ∷ Some (truth false) ∷ Some (truth true) ∷ []))
    ≡ hex "C0 07 00 FF"
a_flag_beside_another_value_than_the_default = refl

-- preamble 10 and 000000
another_value_than_the_default :
    oer_octets flag_type (entries (Some (number (pos 5)) ∷ Some (truth false) ∷ None ∷ [])) ≡ hex "80 05 00"
another_value_than_the_default = refl

-- preamble 00 and 000000
defaults_of_integer_and_enumerated :
    oer_octets default_type (entries (Some (number (pos 2)) ∷ Some (item 1) ∷ [])) ≡ hex "00"
defaults_of_integer_and_enumerated = refl

-- preamble 10 and 000000
another_integer_than_the_default :
    oer_octets default_type (entries (Some (number (pos 1)) ∷ Some (item 1) ∷ [])) ≡ hex "80 01"
another_integer_than_the_default = refl

-- preamble 01 and 000000
another_item_than_the_default :
    oer_octets default_type (entries (Some (number (pos 2)) ∷ Some (item 0) ∷ [])) ≡ hex "40 00"
another_item_than_the_default = refl

-- INTEGER DEFAULT -5
a_negative_default : oer_octets negative_default_type (entries (Some (number (negsuc 4)) ∷ [])) ≡ hex "00"
a_negative_default = refl

five_is_not_the_default_minus_five :
    oer_octets negative_default_type (entries (Some (number (pos 5)) ∷ [])) ≡ hex "80 01 05"
five_is_not_the_default_minus_five = refl

-- BOOLEAN DEFAULT FALSE
the_default_false_left_out : oer_octets false_default_type (entries (Some (truth false) ∷ [])) ≡ hex "00"
the_default_false_left_out = refl

true_beside_the_default_false : oer_octets false_default_type (entries (Some (truth true) ∷ [])) ≡ hex "80 FF"
true_beside_the_default_false = refl

-- the last of eight present: 00000001
eight_presence_bits_fill_an_octet :
    oer_octets (sequence (optionals_of 8 boolean) closed) (entries (replicate 7 None ++ Some (truth true) ∷ []))
    ≡ hex "01 FF"
eight_presence_bits_fill_an_octet = refl

-- 0, 00000001 and 0000000
eight_presence_bits_and_a_mark_take_two_octets :
    oer_octets (sequence (optionals_of 8 boolean) (marked no_fields))
    (entries (replicate 7 None ++ Some (truth true) ∷ []))
    ≡ hex "00 80 FF"
eight_presence_bits_and_a_mark_take_two_octets = refl

-- SEQUENCE { e SEQUENCE { a BOOLEAN, ... }, b BOOLEAN }: only the inner one has a preamble
a_sequence_in_a_sequence :
    oer_octets (sequence (component (codes "e") marked_type (component (codes "b") boolean no_fields)) closed)
    (entries (Some (components (components_of (Some (truth true) ∷ []))) ∷ Some (truth true) ∷ []))
    ≡ hex "00 FF FF"
a_sequence_in_a_sequence = refl

-- ---- SEQUENCE with an extension mark: its bit opens the preamble; presence bits as a BIT STRING, then open fields

-- SEQUENCE { a BOOLEAN, ... }: preamble 0 and 0000000
a_mark_without_additions : oer_octets marked_type (entries (Some (truth true) ∷ [])) ≡ hex "00 FF"
a_mark_without_additions = refl

-- SEQUENCE { ... }
a_mark_without_components : oer_octets (sequence no_fields (marked no_fields)) (entries []) ≡ hex "00"
a_mark_without_components = refl

-- preamble 0 and 0000000
an_addition_that_is_absent : oer_octets extended_type (entries (Some (truth true) ∷ None ∷ [])) ≡ hex "00 FF"
an_addition_that_is_absent = refl

-- preamble 1; a; the bit 1 with 7 unused; one octet of b
an_addition_that_is_present :
    oer_octets extended_type (entries (Some (truth true) ∷ Some (number (pos 7)) ∷ [])) ≡ hex "80 FF 02 07 80 01 07"
an_addition_that_is_present = refl

-- an open field of no octets
an_addition_without_octets :
    oer_octets null_addition_type (entries (Some (truth true) ∷ Some (nothing) ∷ [])) ≡ hex "80 FF 02 07 80 00"
an_addition_without_octets = refl

-- the bits 01 with 6 unused; two octets of c
the_second_of_two_additions :
    oer_octets twice_extended_type (entries (Some (truth true) ∷ None ∷ Some (octet_list (hex "AB")) ∷ []))
    ≡ hex "80 FF 02 06 40 02 01 AB"
the_second_of_two_additions = refl

-- the bits 10 with 6 unused
the_first_of_two_additions :
    oer_octets twice_extended_type (entries (Some (truth true) ∷ Some (number (pos 7)) ∷ None ∷ []))
    ≡ hex "80 FF 02 06 80 01 07"
the_first_of_two_additions = refl

-- the bits 11 with 6 unused
both_additions :
    oer_octets twice_extended_type
    (entries (Some (truth true) ∷ Some (number (pos 7)) ∷ Some (octet_list (hex "AB")) ∷ []))
    ≡ hex "80 FF 02 06 C0 01 07 02 01 AB"
both_additions = refl

-- seven octets of b, which are those of the inner SEQUENCE; one octet of c
an_open_field_inside_an_open_field :
    oer_octets outer_type (
    entries (Some (truth true) ∷ Some (components (components_of (Some (truth true) ∷ Some (number (pos 7)) ∷ [])))
    ∷ Some (truth true) ∷ []))
    ≡ hex "80 FF 02 06 C0 07 80 FF 02 07 80 01 07 01 FF"
an_open_field_inside_an_open_field = refl

-- nine bits: three octets follow, 7 bits unused
the_ninth_of_nine_additions :
    oer_octets (sequence no_fields (marked (optionals_of 9 boolean)))
    (entries (replicate 8 None ++ Some (truth true) ∷ []))
    ≡ hex "80 03 07 00 80 01 FF"
the_ninth_of_nine_additions = refl

-- 64 bits: nine octets follow, none unused
the_last_of_64_additions :
    oer_octets (sequence no_fields (marked (optionals_of 64 boolean)))
    (entries (replicate 63 None ++ Some (truth true) ∷ []))
    ≡ hex "80 09 00 00 00 00 00 00 00 00 01 01 FF"
the_last_of_64_additions = refl

-- preamble 11 and 000000, a, the bit 1 with 7 unused, b
components_before_additions :
    oer_octets (sequence (optional_component (codes "a") boolean no_fields)
    (marked (optional_component (codes "b") boolean no_fields)))
    (entries (Some (truth true) ∷ Some (truth true) ∷ []))
    ≡ hex "C0 FF 02 07 80 01 FF"
components_before_additions = refl

-- ---- SEQUENCE OF: the quantity as INTEGER (0..MAX), whatever the size, then the elements

three_truth_values :
    oer_octets (sequence_of boolean any_size) (items (truth true ∷ truth false ∷ truth true ∷ []))
    ≡ hex "01 03 FF 00 FF"
three_truth_values = refl

no_elements : oer_octets (sequence_of boolean any_size) (items []) ≡ hex "01 00"
no_elements = refl

-- SIZE (2): the quantity stands there too
elements_of_a_fixed_size :
    oer_octets (sequence_of boolean (exactly 2)) (items (truth true ∷ truth true ∷ [])) ≡ hex "01 02 FF FF"
elements_of_a_fixed_size = refl

-- SIZE (2..3)
elements_of_a_bounded_size :
    oer_octets (sequence_of boolean (size_between 2 3)) (items (truth true ∷ truth true ∷ [])) ≡ hex "01 02 FF FF"
elements_of_a_bounded_size = refl

-- SIZE (1..2, ...)
elements_of_a_marked_size :
    oer_octets (sequence_of boolean (size_between_or_more 1 2)) (items (truth true ∷ truth true ∷ truth true ∷ []))
    ≡ hex "01 03 FF FF FF"
elements_of_a_marked_size = refl

255_elements :
    oer_octets (sequence_of boolean any_size) (items (replicate 255 (truth true))) ≡ hex "01 FF" ++ replicate 255 0xFF
255_elements = refl

256_elements :
    oer_octets (sequence_of boolean any_size) (items (replicate 256 (truth true)))
    ≡ hex "02 01 00" ++ replicate 256 0xFF
256_elements = refl

-- without fragments
16384_elements :
    oer_octets (sequence_of boolean any_size) (items (replicate 16384 (truth true)))
    ≡ hex "02 40 00" ++ replicate 16384 0xFF
16384_elements = refl

texts_in_a_list :
    oer_octets (sequence_of utf8_string any_size) (items (unicode (hex "C3 A9") ∷ unicode (hex "61") ∷ []))
    ≡ hex "01 02 02 C3 A9 01 61"
texts_in_a_list = refl

-- ---- CHOICE: the context-specific tag, then the value; an addition as an open field

-- 10 and 000000, and nothing for NULL
the_first_alternative : oer_octets extended_choice (alternative 0 nothing) ≡ hex "80"
the_first_alternative = refl

-- 10 and 000001
the_second_alternative : oer_octets extended_choice (alternative 1 (truth true)) ≡ hex "81 FF"
the_second_alternative = refl

-- 10 and 000010
the_third_alternative : oer_octets extended_choice (alternative 2 (number (pos 3))) ≡ hex "82 03"
the_third_alternative = refl

-- 10 and 000011; two octets
an_addition_of_a_choice : oer_octets extended_choice (alternative 3 (octet_list (hex "AB"))) ≡ hex "83 02 01 AB"
an_addition_of_a_choice = refl

-- 10 and 000001; seven octets
an_addition_with_additions_of_its_own :
    oer_octets (choice (one_of (codes "x") null no_alternatives)
    (marked_choice (one_of (codes "w") extended_type no_alternatives)))
    (alternative 1 (entries (Some (truth true) ∷ Some (number (pos 7)) ∷ [])))
    ≡ hex "81 07 80 FF 02 07 80 01 07"
an_addition_with_additions_of_its_own = refl

an_addition_of_128_octets :
    oer_octets extended_choice (alternative 3 (octet_list (replicate 127 0xAB)))
    ≡ hex "83 81 80 7F" ++ replicate 127 0xAB
an_addition_of_128_octets = refl

-- 10 and 111110
tag_62_is_one_octet : oer_octets many_alternatives (alternative 62 (truth true)) ≡ hex "BE FF"
tag_62_is_one_octet = refl

-- 10 and 111111, then 0 0111111; past the alternatives of the profile, as are all below
tag_63_is_two_octets : oer_octets many_alternatives (alternative 63 (truth true)) ≡ hex "BF 3F FF"
tag_63_is_two_octets = refl

-- 0 1100011
tag_99_is_two_octets : oer_octets many_alternatives (alternative 99 (truth true)) ≡ hex "BF 63 FF"
tag_99_is_two_octets = refl

-- 0 1100100; an open field
tag_100_of_the_first_addition : oer_octets many_alternatives (alternative 100 (truth true)) ≡ hex "BF 64 01 FF"
tag_100_of_the_first_addition = refl

-- 0 1111111; an open field
tag_127_is_two_octets : oer_octets many_alternatives (alternative 127 (truth true)) ≡ hex "BF 7F 01 FF"
tag_127_is_two_octets = refl

-- 128 = 1 * 128 + 0: 1 0000001, 0 0000000
tag_128_is_three_octets : oer_octets many_alternatives (alternative 128 (truth true)) ≡ hex "BF 81 00 01 FF"
tag_128_is_three_octets = refl

-- 163 = 1 * 128 + 35
tag_163_is_three_octets : oer_octets many_alternatives (alternative 163 (truth true)) ≡ hex "BF 81 23 01 FF"
tag_163_is_three_octets = refl

-- 164 = 1 * 128 + 36
tag_164_is_three_octets : oer_octets many_alternatives (alternative 164 (truth true)) ≡ hex "BF 81 24 01 FF"
tag_164_is_three_octets = refl

-- 199 = 1 * 128 + 71
tag_199_is_three_octets : oer_octets many_alternatives (alternative 199 (truth true)) ≡ hex "BF 81 47 01 FF"
tag_199_is_three_octets = refl

-- ---- octets that a reader might take for a value, and that are not its encoding

a_default_is_not_written_out :
    bytes_eq (oer_octets note_type (entries (Some (number (pos 5)) ∷ Some (truth true) ∷ None ∷ []))) (hex "80 05 FF")
    ≡ false
a_default_is_not_written_out = refl

a_length_has_the_shortest_form :
    bytes_eq (oer_octets (octet_string any_size) (octet_list (hex "AB"))) (hex "81 01 AB") ≡ false
a_length_has_the_shortest_form = refl

a_number_has_the_fewest_octets : bytes_eq (oer_octets (integer any_number) (number (pos 5))) (hex "02 00 05") ≡ false
a_number_has_the_fewest_octets = refl

a_quantity_has_the_fewest_octets :
    bytes_eq (oer_octets (sequence_of boolean any_size) (items (truth true ∷ []))) (hex "02 00 01 FF") ≡ false
a_quantity_has_the_fewest_octets = refl

an_extension_bit_wants_an_addition :
    bytes_eq (oer_octets marked_type (entries (Some (truth true) ∷ []))) (hex "80 FF") ≡ false
an_extension_bit_wants_an_addition = refl

additions_that_are_all_absent_are_not_listed :
    bytes_eq (oer_octets extended_type (entries (Some (truth true) ∷ None ∷ []))) (hex "80 FF 02 07 00") ≡ false
additions_that_are_all_absent_are_not_listed = refl

true_is_no_other_octet_than_ff : bytes_eq (oer_octets boolean (truth true)) (hex "01") ≡ false
true_is_no_other_octet_than_ff = refl

a_short_number_is_not_in_the_long_form : bytes_eq (oer_octets colours (item 1)) (hex "81 05") ≡ false
a_short_number_is_not_in_the_long_form = refl

a_short_tag_is_not_in_the_long_form :
    bytes_eq (oer_octets many_alternatives (alternative 62 (truth true))) (hex "BF 3E FF") ≡ false
a_short_tag_is_not_in_the_long_form = refl
