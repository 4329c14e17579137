-- Worked encodings of SEQUENCE, SEQUENCE OF and CHOICE in CANONICAL-PER UNALIGNED (X.691). A comment spells the
-- bits, from which the octets follow by filling with 0.
use Rattle.std.specs.Prelude.{◌≡◌, pos, negsuc, true, false, [], ◌∷◌, ◌++◌, replicate, Some, None, refl, codes, bytes_eq}
use Rattle.asn_values.specs.Datum.{truth, nothing, number, item, octet_list, characters, unicode, components, components_of, alternative}
use Rattle.asn_values.specs.Shape.{boolean, null, integer, octet_string, utf8_string, sequence, sequence_of, choice, no_fields, closed, marked, no_alternatives, one_of, closed_choice, marked_choice}
use Rattle.asn_values.specs.ExampleTypes.{hex, any_number, between_or_more, exactly, size_between, any_size, size_between_or_more, component, optional_component, optionals_of, entries, items, note_type, flag_type, marked_type, extended_type, twice_extended_type, null_addition_type, outer_type, extended_choice, closed_choice_type, default_type, negative_default_type, false_default_type, many_alternatives}
use Rattle.asn_per.specs.Per.{per_octets}

-- ---- SEQUENCE: a presence bit for each component that is OPTIONAL or has a DEFAULT, then the components

-- SEQUENCE { }: no bits, so one octet of 0
no_components : per_octets (sequence no_fields closed) (entries []) ≡ hex "00"
no_components = refl

-- 0 0, then 101
a_default_that_is_left_out :
    per_octets note_type (entries (Some (number (pos 5)) ∷ Some (truth true) ∷ None ∷ [])) ≡ hex "28"
a_default_that_is_left_out = refl

-- 0 1, then 101, the length 01 and 1000001
an_optional_component_that_is_present :
    per_octets note_type (entries (Some (number (pos 5)) ∷ Some (truth true) ∷ Some (characters (codes "A")) ∷ []))
    ≡ hex "6B 04"
an_optional_component_that_is_present = refl

-- 0 1, then 101 and 1
an_optional_flag_that_is_present :
    per_octets flag_type (entries (Some (number (pos 5)) ∷ Some (truth true) ∷ Some (truth true) ∷ [])) ≡ hex "6C"
an_optional_flag_that_is_present = refl

-- 0 1, then 000 and 0
an_optional_flag_that_is_false :
    per_octets flag_type (entries (Some (number (pos 0)) ∷ Some (truth true) ∷ Some (truth false) ∷ [])) ≡ hex "40"
an_optional_flag_that_is_false = refl

-- 1 1, then 111, 0 and 1
a_flag_beside_another_value_than_the_default :
    per_octets flag_type (entries (Some (number (pos 7)) ∷ Some (truth false) ∷ Some (truth true) ∷ [])) ≡ hex "FA"
a_flag_beside_another_value_than_the_default = refl

-- 1 0, then 101 and 0
another_value_than_the_default :
    per_octets flag_type (entries (Some (number (pos 5)) ∷ Some (truth false) ∷ None ∷ [])) ≡ hex "A8"
another_value_than_the_default = refl

-- 0 0 and nothing after them
defaults_of_integer_and_enumerated :
    per_octets default_type (entries (Some (number (pos 2)) ∷ Some (item 1) ∷ [])) ≡ hex "00"
defaults_of_integer_and_enumerated = refl

-- 1 0, then 01
another_integer_than_the_default :
    per_octets default_type (entries (Some (number (pos 1)) ∷ Some (item 1) ∷ [])) ≡ hex "90"
another_integer_than_the_default = refl

-- 0 1, then 0
another_item_than_the_default :
    per_octets default_type (entries (Some (number (pos 2)) ∷ Some (item 0) ∷ [])) ≡ hex "40"
another_item_than_the_default = refl

-- INTEGER DEFAULT -5: 0
a_negative_default : per_octets negative_default_type (entries (Some (number (negsuc 4)) ∷ [])) ≡ hex "00"
a_negative_default = refl

-- 1, then 00000001 00000101
five_is_not_the_default_minus_five :
    per_octets negative_default_type (entries (Some (number (pos 5)) ∷ [])) ≡ hex "80 82 80"
five_is_not_the_default_minus_five = refl

-- BOOLEAN DEFAULT FALSE: 0
the_default_false_left_out : per_octets false_default_type (entries (Some (truth false) ∷ [])) ≡ hex "00"
the_default_false_left_out = refl

-- 1, then 1
true_beside_the_default_false : per_octets false_default_type (entries (Some (truth true) ∷ [])) ≡ hex "C0"
true_beside_the_default_false = refl

-- SEQUENCE { n NULL, b BOOLEAN }: 1
a_component_after_one_without_bits :
    per_octets (sequence (component (codes "n") null (component (codes "b") boolean no_fields)) closed)
    (entries (Some (nothing) ∷ Some (truth true) ∷ []))
    ≡ hex "80"
a_component_after_one_without_bits = refl

-- SEQUENCE { e SEQUENCE { a BOOLEAN, ... }, b BOOLEAN }: 0 1, then 1 and no filling between them
a_sequence_in_a_sequence :
    per_octets (sequence (component (codes "e") marked_type (component (codes "b") boolean no_fields)) closed)
    (entries (Some (components (components_of (Some (truth true) ∷ []))) ∷ Some (truth true) ∷ []))
    ≡ hex "60"
a_sequence_in_a_sequence = refl

-- ---- SEQUENCE with an extension mark: a bit first; where an addition is present, their number, presence bits and open
-- fields

-- SEQUENCE { a BOOLEAN, ... }: 0, then 1
a_mark_without_additions : per_octets marked_type (entries (Some (truth true) ∷ [])) ≡ hex "40"
a_mark_without_additions = refl

-- SEQUENCE { ... }: 0
a_mark_without_components : per_octets (sequence no_fields (marked no_fields)) (entries []) ≡ hex "00"
a_mark_without_components = refl

-- 0, then 1
an_addition_that_is_absent : per_octets extended_type (entries (Some (truth true) ∷ None ∷ [])) ≡ hex "40"
an_addition_that_is_absent = refl

-- 1 1; one addition 0 000000, present 1; one octet 00000001, 00000111
an_addition_that_is_present :
    per_octets extended_type (entries (Some (truth true) ∷ Some (number (pos 7)) ∷ [])) ≡ hex "C0 40 41 C0"
an_addition_that_is_present = refl

-- 1 1; 0 000000 and 1; one octet 00000001, 00000000
an_addition_without_bits_has_one_octet :
    per_octets null_addition_type (entries (Some (truth true) ∷ Some (nothing) ∷ [])) ≡ hex "C0 40 40 00"
an_addition_without_bits_has_one_octet = refl

-- 1 1; two additions 0 000001, 0 1; two octets 00000010, 00000001 10101011
the_second_of_two_additions :
    per_octets twice_extended_type (entries (Some (truth true) ∷ None ∷ Some (octet_list (hex "AB")) ∷ []))
    ≡ hex "C0 A0 40 35 60"
the_second_of_two_additions = refl

-- 1 1; 0 000001 and 1 0; 00000001, 00000111
the_first_of_two_additions :
    per_octets twice_extended_type (entries (Some (truth true) ∷ Some (number (pos 7)) ∷ None ∷ [])) ≡ hex "C0 C0 20 E0"
the_first_of_two_additions = refl

-- 1 1; 0 000001 and 1 1; 00000001, 00000111; 00000010, 00000001 10101011
both_additions :
    per_octets twice_extended_type
    (entries (Some (truth true) ∷ Some (number (pos 7)) ∷ Some (octet_list (hex "AB")) ∷ []))
    ≡ hex "C0 E0 20 E0 40 35 60"
both_additions = refl

-- 1 1; 0 000001 and 1 1; four octets 00000100, C0 40 41 C0 as above; one octet 00000001, 10000000
an_open_field_inside_an_open_field :
    per_octets outer_type (
    entries (Some (truth true) ∷ Some (components (components_of (Some (truth true) ∷ Some (number (pos 7)) ∷ [])))
    ∷ Some (truth true) ∷ []))
    ≡ hex "C0 E0 98 08 08 38 00 30 00"
an_open_field_inside_an_open_field = refl

-- 1; 0 111111, then 63 bits 0 and a bit 1; one octet 00000001, 10000000
the_last_of_64_additions :
    per_octets (sequence no_fields (marked (optionals_of 64 boolean)))
    (entries (replicate 63 None ++ Some (truth true) ∷ []))
    ≡ hex "BF 00 00 00 00 00 00 00 01 01 80"
the_last_of_64_additions = refl

-- 1, the presence bit 1, a 1, then 0 000000 and 1, one octet 00000001, 10000000
components_before_additions :
    per_octets (sequence (optional_component (codes "a") boolean no_fields)
    (marked (optional_component (codes "b") boolean no_fields)))
    (entries (Some (truth true) ∷ Some (truth true) ∷ []))
    ≡ hex "E0 20 30 00"
components_before_additions = refl

-- ---- SEQUENCE OF: the size, then the elements

-- 00000011, then 101
three_truth_values :
    per_octets (sequence_of boolean any_size) (items (truth true ∷ truth false ∷ truth true ∷ [])) ≡ hex "03 A0"
three_truth_values = refl

-- 00000000
no_elements : per_octets (sequence_of boolean any_size) (items []) ≡ hex "00"
no_elements = refl

-- SIZE (2): 1 1
elements_of_a_fixed_size :
    per_octets (sequence_of boolean (exactly 2)) (items (truth true ∷ truth true ∷ [])) ≡ hex "C0"
elements_of_a_fixed_size = refl

-- SIZE (2..3): 0, then 1 1
elements_of_a_bounded_size :
    per_octets (sequence_of boolean (size_between 2 3)) (items (truth true ∷ truth true ∷ [])) ≡ hex "60"
elements_of_a_bounded_size = refl

-- SIZE (1..65536): 00000001, then 1
elements_of_a_size_to_65536 : per_octets (sequence_of boolean (size_between 1 65536)) (items (truth true ∷ [])) ≡ hex "01 80"
elements_of_a_size_to_65536 = refl

-- SIZE (1..2, ...): 0, 0, then 1
elements_inside_a_marked_size :
    per_octets (sequence_of boolean (size_between_or_more 1 2)) (items (truth true ∷ [])) ≡ hex "20"
elements_inside_a_marked_size = refl

-- 1, then 00000011 and 111
elements_outside_a_marked_size :
    per_octets (sequence_of boolean (size_between_or_more 1 2)) (items (truth true ∷ truth true ∷ truth true ∷ []))
    ≡ hex "81 F0"
elements_outside_a_marked_size = refl

-- 00000010, then 0 0
elements_that_are_an_extension_bit_alone :
    per_octets (sequence_of (sequence no_fields (marked no_fields)) any_size) (items (entries [] ∷ entries [] ∷ []))
    ≡ hex "02 00"
elements_that_are_an_extension_bit_alone = refl

-- 00000010; 00000010 C3 A9; 00000001 61
texts_in_a_list :
    per_octets (sequence_of utf8_string any_size) (items (unicode (hex "C3 A9") ∷ unicode (hex "61") ∷ []))
    ≡ hex "02 02 C3 A9 01 61"
texts_in_a_list = refl

-- 00000010; 00000001 1; 00000000
lists_in_a_list :
    per_octets (sequence_of (sequence_of boolean any_size) any_size) (items (items (truth true ∷ []) ∷ items [] ∷ []))
    ≡ hex "02 01 80 00"
lists_in_a_list = refl

-- 11 and 000001, 2048 octets of them, then the length of none
16384_truth_values :
    per_octets (sequence_of boolean any_size) (items (replicate 16384 (truth true)))
    ≡ hex "C1" ++ (replicate 2048 0xFF ++ hex "00")
16384_truth_values = refl

-- as before; then 0 and 0000001, and the last one
16385_truth_values :
    per_octets (sequence_of boolean any_size) (items (replicate 16385 (truth true)))
    ≡ hex "C1" ++ (replicate 2048 0xFF ++ hex "01 80")
16385_truth_values = refl

-- ---- CHOICE: the index in the fewest bits; after a mark a bit, and an addition as an open field

-- 01, then 1
the_second_of_three_alternatives : per_octets closed_choice_type (alternative 1 (truth true)) ≡ hex "60"
the_second_of_three_alternatives = refl

-- 10, then 10
the_third_of_three_alternatives : per_octets closed_choice_type (alternative 2 (number (pos 2))) ≡ hex "A0"
the_third_of_three_alternatives = refl

-- 1
a_single_alternative_has_no_index :
    per_octets (choice (one_of (codes "a") boolean no_alternatives) closed_choice) (alternative 0 (truth true))
    ≡ hex "80"
a_single_alternative_has_no_index = refl

-- 0, then 1
a_single_alternative_after_a_mark :
    per_octets (choice (one_of (codes "a") boolean no_alternatives) (marked_choice no_alternatives))
    (alternative 0 (truth true))
    ≡ hex "40"
a_single_alternative_after_a_mark = refl

-- 0, then 00 and no bits
the_first_alternative_after_a_mark : per_octets extended_choice (alternative 0 nothing) ≡ hex "00"
the_first_alternative_after_a_mark = refl

-- 0, then 01 and 1
the_second_alternative_after_a_mark : per_octets extended_choice (alternative 1 (truth true)) ≡ hex "30"
the_second_alternative_after_a_mark = refl

-- 0, then 10 and 11
the_third_alternative_after_a_mark : per_octets extended_choice (alternative 2 (number (pos 3))) ≡ hex "58"
the_third_alternative_after_a_mark = refl

-- 1, then 0 000000; two octets 00000010, 00000001 10101011
an_addition_of_a_choice : per_octets extended_choice (alternative 3 (octet_list (hex "AB"))) ≡ hex "80 02 01 AB"
an_addition_of_a_choice = refl

-- 1, then 0 000000; four octets, C0 40 41 C0
an_addition_with_additions_of_its_own :
    per_octets (choice (one_of (codes "x") null no_alternatives)
    (marked_choice (one_of (codes "w") extended_type no_alternatives)))
    (alternative 1 (entries (Some (truth true) ∷ Some (number (pos 7)) ∷ [])))
    ≡ hex "80 04 C0 40 41 C0"
an_addition_with_additions_of_its_own = refl

-- 127 octets and their length: 10 and 00000010000000
an_addition_of_128_octets :
    per_octets extended_choice (alternative 3 (octet_list (replicate 127 0xAB)))
    ≡ hex "80 80 80 7F" ++ replicate 127 0xAB
an_addition_of_128_octets = refl

-- 16383 octets and their two of length: 11 and 000001 for 16384 octets, then one more
an_addition_in_fragments :
    per_octets extended_choice (alternative 3 (octet_list (replicate 16383 0xAB)))
    ≡ hex "80 C1 BF FF" ++ (replicate 16382 0xAB ++ hex "01 AB")
an_addition_in_fragments = refl

-- 0, then 0111110 and 1; past the alternatives of the profile, as are all below
alternative_62_of_100 : per_octets many_alternatives (alternative 62 (truth true)) ≡ hex "3E 80"
alternative_62_of_100 = refl

-- 0, then 0111111 and 1
alternative_63_of_100 : per_octets many_alternatives (alternative 63 (truth true)) ≡ hex "3F 80"
alternative_63_of_100 = refl

-- 0, then 1100011 and 1
alternative_99_of_100 : per_octets many_alternatives (alternative 99 (truth true)) ≡ hex "63 80"
alternative_99_of_100 = refl

-- 1, then 0 000000; 00000001, 10000000
addition_0_of_100 : per_octets many_alternatives (alternative 100 (truth true)) ≡ hex "80 01 80"
addition_0_of_100 = refl

-- 1, then 0 111111; 00000001, 10000000
addition_63_of_100 : per_octets many_alternatives (alternative 163 (truth true)) ≡ hex "BF 01 80"
addition_63_of_100 = refl

-- 1, then 1 and 00000001 01000000; 00000001, 10000000
addition_64_of_100_in_the_long_form : per_octets many_alternatives (alternative 164 (truth true)) ≡ hex "C0 50 00 60 00"
addition_64_of_100_in_the_long_form = refl

-- 1, then 1 and 00000001 01100011; 00000001, 10000000
addition_99_of_100_in_the_long_form : per_octets many_alternatives (alternative 199 (truth true)) ≡ hex "C0 58 C0 60 00"
addition_99_of_100_in_the_long_form = refl

-- ---- octets that a reader might take for a value, and that are not its encoding

a_default_is_not_written_out :
    bytes_eq (per_octets note_type (entries (Some (number (pos 5)) ∷ Some (truth true) ∷ None ∷ []))) (hex "AC") ≡ false
a_default_is_not_written_out = refl

the_filling_is_of_zeros :
    bytes_eq (per_octets note_type (entries (Some (number (pos 5)) ∷ Some (truth true) ∷ None ∷ []))) (hex "29") ≡ false
the_filling_is_of_zeros = refl

-- 10 and 00000000000001
a_length_has_the_shortest_form :
    bytes_eq (per_octets (octet_string any_size) (octet_list (hex "AB"))) (hex "80 01 AB") ≡ false
a_length_has_the_shortest_form = refl

a_number_has_the_fewest_octets : bytes_eq (per_octets (integer any_number) (number (pos 5))) (hex "02 00 05") ≡ false
a_number_has_the_fewest_octets = refl

a_number_of_the_root_is_not_after_the_mark :
    bytes_eq (per_octets (integer (between_or_more (pos 0) (pos 7))) (number (pos 5))) (hex "80 82 80") ≡ false
a_number_of_the_root_is_not_after_the_mark = refl

-- 1 1; 0 000000 and 0
additions_that_are_all_absent_are_not_counted :
    bytes_eq (per_octets extended_type (entries (Some (truth true) ∷ None ∷ []))) (hex "C0 00") ≡ false
additions_that_are_all_absent_are_not_counted = refl

-- 1 1; 0 000000 and 1; 00000000
an_open_field_has_an_octet :
    bytes_eq (per_octets null_addition_type (entries (Some (truth true) ∷ Some (nothing) ∷ []))) (hex "C0 40 00")
    ≡ false
an_open_field_has_an_octet = refl

-- three octets, of which the string has two
an_open_field_has_no_further_octets :
    bytes_eq (per_octets extended_choice (alternative 3 (octet_list (hex "AB")))) (hex "80 03 01 AB 00") ≡ false
an_open_field_has_no_further_octets = refl

an_empty_message_is_not_without_octets : bytes_eq (per_octets null nothing) [] ≡ false
an_empty_message_is_not_without_octets = refl
