-- Types in which each condition of the profile holds or does not hold.
use Rattle.std.specs.Prelude.{◌≡◌, ◌+◌, ◌-◌, ◌+ℤ◌, pos, negsuc, true, false, [], ◌∷◌, Some, None, refl, codes}
use Rattle.asn_values.specs.Datum.{truth, nothing, number, item, octet_list}
use Rattle.asn_values.specs.Shape.{boolean, null, integer, enumerated, bit_string, octet_string, restricted, ia5, utf8_string, sequence, sequence_of, choice, closed_labels, marked_labels, no_fields, closed, marked, no_alternatives, one_of, closed_choice, marked_choice}
use Rattle.asn_values.specs.Fits.{lowest_integer, highest_integer}
use Rattle.asn_values.specs.Profile.{EmptyRange, SizeTooLarge, DuplicateName, BadEnumeration, UselessMark, BadDefault, ZeroWidthElement, AdditionNotOptional, TooMany, TooDeep, has, most_components, most_additions, most_item_additions, most_alternatives, most_items}
use Rattle.asn_values.specs.ExampleTypes.{between, number_from, number_to, any_number, between_or_more, exactly, size_between, size_from, any_size, size_between_or_more, label, component, optional_component, default_component, alternatives_of, optionals_of, labels_from, extended_type, extended_choice, unsorted_enumeration, large_type, lists_around, choices_around, doubled, past_the_highest, before_the_lowest}

-- ---- EmptyRange

-- INTEGER (7..0)
a_low_bound_above_the_high_one : has EmptyRange (integer (between (pos 7) (pos 0))) ≡ true
a_low_bound_above_the_high_one = refl

-- INTEGER (7..7)
a_range_of_one_number : has EmptyRange (integer (between (pos 7) (pos 7))) ≡ false
a_range_of_one_number = refl

-- INTEGER from 0 to one above the highest
a_bound_past_the_integers_of_the_profile : has EmptyRange (integer (between (pos 0) past_the_highest)) ≡ true
a_bound_past_the_integers_of_the_profile = refl

-- INTEGER from one below the lowest to 0
a_bound_below_the_integers_of_the_profile : has EmptyRange (integer (between before_the_lowest (pos 0)))
    ≡ true
a_bound_below_the_integers_of_the_profile = refl

-- INTEGER from the lowest to the highest
all_integers_of_the_profile : has EmptyRange (integer (between lowest_integer highest_integer))
    ≡ false
all_integers_of_the_profile = refl

-- OCTET STRING (SIZE (3..2))
a_size_with_its_bounds_exchanged : has EmptyRange (octet_string (size_between 3 2)) ≡ true
a_size_with_its_bounds_exchanged = refl

-- SEQUENCE (SIZE (3..2)) OF BOOLEAN
an_exchanged_size_of_a_list : has EmptyRange (sequence_of boolean (size_between 3 2)) ≡ true
an_exchanged_size_of_a_list = refl

-- OCTET STRING (SIZE (0))
a_size_of_zero : has EmptyRange (octet_string (exactly 0)) ≡ false
a_size_of_zero = refl

an_enumeration_without_root : has EmptyRange (enumerated [] (marked_labels (label (codes "a") (pos 0) ∷ []))) ≡ true
an_enumeration_without_root = refl

a_choice_without_root : has EmptyRange
    (choice no_alternatives (marked_choice (one_of (codes "a") null no_alternatives))) ≡ true
a_choice_without_root = refl

a_sequence_without_components : has EmptyRange (sequence no_fields closed) ≡ false
a_sequence_without_components = refl

-- SEQUENCE OF INTEGER (7..0)
an_empty_range_inside : has EmptyRange (sequence_of (integer (between (pos 7) (pos 0))) any_size) ≡ true
an_empty_range_inside = refl

an_empty_range_in_an_addition : has EmptyRange
    (sequence no_fields (marked (optional_component (codes "a") (integer (between (pos 7) (pos 0))) no_fields))) ≡ true
an_empty_range_in_an_addition = refl

-- ---- SizeTooLarge

-- BIT STRING (SIZE (0..268435455))
the_largest_bound_of_a_size : has SizeTooLarge (bit_string (size_between 0 268435455)) ≡ false
the_largest_bound_of_a_size = refl

-- BIT STRING (SIZE (0..268435456))
a_bound_above_the_largest : has SizeTooLarge (bit_string (size_between 0 268435456)) ≡ true
a_bound_above_the_largest = refl

-- IA5String (SIZE (268435456..MAX))
a_low_bound_above_the_largest : has SizeTooLarge (restricted ia5 (size_from 268435456)) ≡ true
a_low_bound_above_the_largest = refl

a_size_without_bounds : has SizeTooLarge (octet_string any_size) ≡ false
a_size_without_bounds = refl

-- SEQUENCE (SIZE (0..268435456, ...)) OF BOOLEAN
a_large_bound_before_an_extension_marker :
    has SizeTooLarge (sequence_of boolean (size_between_or_more 0 268435456)) ≡ true
a_large_bound_before_an_extension_marker = refl

-- ---- DuplicateName

two_components_of_one_name : has DuplicateName
    (sequence (component (codes "a") boolean (component (codes "a") null no_fields)) closed) ≡ true
two_components_of_one_name = refl

two_components_of_two_names : has DuplicateName
    (sequence (component (codes "a") boolean (component (codes "b") null no_fields)) closed) ≡ false
two_components_of_two_names = refl

one_name_at_two_levels : has DuplicateName
    (sequence (component (codes "a") (sequence (component (codes "a") boolean no_fields) closed) no_fields) closed)
    ≡ false
one_name_at_two_levels = refl

an_addition_of_a_name_in_the_root : has DuplicateName
    (sequence (component (codes "a") boolean no_fields) (marked (optional_component (codes "a") null no_fields))) ≡ true
an_addition_of_a_name_in_the_root = refl

two_alternatives_of_one_name : has DuplicateName
    (choice (one_of (codes "a") null (one_of (codes "a") boolean no_alternatives)) closed_choice) ≡ true
two_alternatives_of_one_name = refl

two_items_of_one_name : has DuplicateName
    (enumerated (label (codes "a") (pos 0) ∷ label (codes "a") (pos 1) ∷ []) closed_labels) ≡ true
two_items_of_one_name = refl

a_name_with_a_capital_first : has DuplicateName (sequence (component (codes "A") boolean no_fields) closed) ≡ true
a_name_with_a_capital_first = refl

a_name_with_hyphens_and_digits : has DuplicateName (sequence (component (codes "a-1-B") boolean no_fields) closed)
    ≡ false
a_name_with_hyphens_and_digits = refl

a_hyphen_at_the_end : has DuplicateName (sequence (component (codes "a-") boolean no_fields) closed) ≡ true
a_hyphen_at_the_end = refl

two_hyphens_together : has DuplicateName (sequence (component (codes "a--b") boolean no_fields) closed) ≡ true
two_hyphens_together = refl

no_name_at_all : has DuplicateName (sequence (component [] boolean no_fields) closed) ≡ true
no_name_at_all = refl

-- ---- BadEnumeration

numbers_in_any_order : has BadEnumeration unsorted_enumeration ≡ false
numbers_in_any_order = refl

a_number_twice : has BadEnumeration
    (enumerated (label (codes "a") (pos 1) ∷ label (codes "b") (pos 1) ∷ []) closed_labels) ≡ true
a_number_twice = refl

-- 2^31 - 1
the_greatest_number_of_an_item : has BadEnumeration (enumerated (label (codes "a") (pos 2147483647) ∷ []) closed_labels)
    ≡ false
the_greatest_number_of_an_item = refl

-- 2^31
a_number_past_32_bits : has BadEnumeration (enumerated (label (codes "a") (pos 2147483648) ∷ []) closed_labels) ≡ true
a_number_past_32_bits = refl

-- -2^31
the_least_number_of_an_item : has BadEnumeration (enumerated (label (codes "a") (negsuc 2147483647) ∷ []) closed_labels)
    ≡ false
the_least_number_of_an_item = refl

-- -2^31 - 1
a_number_below_32_bits : has BadEnumeration (enumerated (label (codes "a") (negsuc 2147483648) ∷ []) closed_labels)
    ≡ true
a_number_below_32_bits = refl

additions_that_rise : has BadEnumeration
    (enumerated (label (codes "a") (pos 5) ∷ [])
    (marked_labels (label (codes "b") (pos 6) ∷ label (codes "c") (pos 9) ∷ []))) ≡ false
additions_that_rise = refl

additions_that_fall : has BadEnumeration
    (enumerated (label (codes "a") (pos 5) ∷ [])
    (marked_labels (label (codes "b") (pos 9) ∷ label (codes "c") (pos 6) ∷ []))) ≡ true
additions_that_fall = refl

an_addition_below_the_root : has BadEnumeration
    (enumerated (label (codes "a") (pos 5) ∷ []) (marked_labels (label (codes "b") (pos 4) ∷ []))) ≡ false
an_addition_below_the_root = refl

an_addition_that_repeats_the_root : has BadEnumeration
    (enumerated (label (codes "a") (pos 5) ∷ []) (marked_labels (label (codes "b") (pos 5) ∷ []))) ≡ true
an_addition_that_repeats_the_root = refl

-- ---- UselessMark

-- INTEGER (MIN..MAX, ...)
a_mark_on_a_range_without_bounds : has UselessMark (integer (record { low = None; high = None; extensible = true }))
    ≡ true
a_mark_on_a_range_without_bounds = refl

-- INTEGER from the lowest to the highest, with a mark
a_mark_on_all_integers_of_the_profile : has UselessMark
    (integer (between_or_more lowest_integer highest_integer)) ≡ true
a_mark_on_all_integers_of_the_profile = refl

-- INTEGER from one above the lowest to MAX, with a mark
a_mark_on_all_but_one_integer : has UselessMark
    (integer (record { low = Some (lowest_integer +ℤ pos 1); high = None; extensible = true })) ≡ false
a_mark_on_all_but_one_integer = refl

-- INTEGER
no_mark_and_no_bounds : has UselessMark (integer any_number) ≡ false
no_mark_and_no_bounds = refl

-- OCTET STRING (SIZE (0..MAX, ...))
a_mark_on_all_lengths : has UselessMark (octet_string (record { low = 0; high = None; extensible = true })) ≡ true
a_mark_on_all_lengths = refl

-- OCTET STRING (SIZE (1..MAX, ...))
a_mark_on_all_but_one_length : has UselessMark (octet_string (record { low = 1; high = None; extensible = true }))
    ≡ false
a_mark_on_all_but_one_length = refl

-- OCTET STRING (SIZE (0..268435455, ...))
a_mark_after_the_largest_bound : has UselessMark (octet_string (size_between_or_more 0 268435455)) ≡ true
a_mark_after_the_largest_bound = refl

-- OCTET STRING (SIZE (0..268435454, ...))
a_mark_below_the_largest_bound : has UselessMark (octet_string (size_between_or_more 0 268435454)) ≡ false
a_mark_below_the_largest_bound = refl

-- SEQUENCE { ... }
a_mark_on_a_sequence_is_of_use : has UselessMark (sequence no_fields (marked no_fields)) ≡ false
a_mark_on_a_sequence_is_of_use = refl

-- ---- BadDefault

-- BOOLEAN DEFAULT TRUE
a_truth_value_as_default : has BadDefault
    (sequence (default_component (codes "a") (truth true) boolean no_fields) closed) ≡ false
a_truth_value_as_default = refl

-- INTEGER (0..3) DEFAULT 2
a_number_as_default : has BadDefault
    (sequence (default_component (codes "a") (number (pos 2)) (integer (between (pos 0) (pos 3))) no_fields) closed)
    ≡ false
a_number_as_default = refl

-- INTEGER (0..3) DEFAULT 4
a_number_past_the_range_as_default : has BadDefault
    (sequence (default_component (codes "a") (number (pos 4)) (integer (between (pos 0) (pos 3))) no_fields) closed)
    ≡ true
a_number_past_the_range_as_default = refl

-- INTEGER DEFAULT one above the highest
a_number_past_the_profile_as_default : has BadDefault
    (sequence (default_component (codes "a") (number past_the_highest) (integer any_number) no_fields) closed)
    ≡ true
a_number_past_the_profile_as_default = refl

-- INTEGER (2) DEFAULT 2
a_default_of_the_only_number : has BadDefault
    (sequence (default_component (codes "a") (number (pos 2)) (integer (between (pos 2) (pos 2))) no_fields) closed)
    ≡ true
a_default_of_the_only_number = refl

-- INTEGER from the highest to MAX has one value in the profile
a_default_of_the_last_number_of_the_profile : has BadDefault
    (sequence (default_component (codes "a") (number highest_integer)
    (integer (number_from highest_integer)) no_fields) closed) ≡ true
a_default_of_the_last_number_of_the_profile = refl

-- INTEGER from MIN to the lowest has one value in the profile
a_default_of_the_first_number_of_the_profile : has BadDefault
    (sequence (default_component (codes "a") (number lowest_integer)
    (integer (number_to lowest_integer)) no_fields) closed) ≡ true
a_default_of_the_first_number_of_the_profile = refl

-- INTEGER from one below the highest to MAX
a_default_of_the_last_two_numbers : has BadDefault
    (sequence (default_component (codes "a") (number highest_integer)
    (integer (number_from (highest_integer +ℤ negsuc 0))) no_fields) closed) ≡ false
a_default_of_the_last_two_numbers = refl

-- INTEGER DEFAULT 0
a_default_without_bounds : has BadDefault
    (sequence (default_component (codes "a") (number (pos 0)) (integer any_number) no_fields) closed) ≡ false
a_default_without_bounds = refl

-- INTEGER (0..3, ...) DEFAULT 2
a_default_of_a_marked_range : has BadDefault
    (sequence (default_component (codes "a") (number (pos 2))
    (integer (between_or_more (pos 0) (pos 3))) no_fields) closed) ≡ true
a_default_of_a_marked_range = refl

an_item_as_default : has BadDefault
    (sequence (default_component (codes "a") (item 1)
    (enumerated (label (codes "a") (pos 0) ∷ label (codes "b") (pos 1) ∷ []) closed_labels) no_fields) closed) ≡ false
an_item_as_default = refl

an_item_that_is_not_there : has BadDefault
    (sequence (default_component (codes "a") (item 2)
    (enumerated (label (codes "a") (pos 0) ∷ label (codes "b") (pos 1) ∷ []) closed_labels) no_fields) closed) ≡ true
an_item_that_is_not_there = refl

a_default_of_the_only_item : has BadDefault
    (sequence (default_component (codes "a") (item 0)
    (enumerated (label (codes "a") (pos 0) ∷ []) closed_labels) no_fields) closed) ≡ true
a_default_of_the_only_item = refl

a_default_of_a_marked_enumeration : has BadDefault
    (sequence (default_component (codes "a") (item 1)
    (enumerated (label (codes "a") (pos 0) ∷ label (codes "b") (pos 1) ∷ []) (marked_labels [])) no_fields) closed)
    ≡ true
a_default_of_a_marked_enumeration = refl

-- BOOLEAN DEFAULT 1
a_default_of_another_kind : has BadDefault
    (sequence (default_component (codes "a") (number (pos 1)) boolean no_fields) closed) ≡ true
a_default_of_another_kind = refl

a_default_of_a_string : has BadDefault
    (sequence (default_component (codes "a") (octet_list []) (octet_string any_size) no_fields) closed) ≡ true
a_default_of_a_string = refl

-- NULL has one value only
a_default_of_null : has BadDefault (sequence (default_component (codes "a") nothing null no_fields) closed) ≡ true
a_default_of_null = refl

a_default_of_an_addition : has BadDefault
    (sequence no_fields (marked
    (default_component (codes "a") (number (pos 4)) (integer (between (pos 0) (pos 3))) no_fields))) ≡ true
a_default_of_an_addition = refl

-- ---- ZeroWidthElement

a_list_of_nulls : has ZeroWidthElement (sequence_of null any_size) ≡ true
a_list_of_nulls = refl

-- SEQUENCE (SIZE (3)) OF NULL: whatever the size
a_list_of_three_nulls : has ZeroWidthElement (sequence_of null (exactly 3)) ≡ true
a_list_of_three_nulls = refl

-- SEQUENCE OF INTEGER (5)
a_list_of_one_number : has ZeroWidthElement (sequence_of (integer (between (pos 5) (pos 5))) any_size) ≡ true
a_list_of_one_number = refl

-- SEQUENCE OF INTEGER (5..6)
a_list_of_two_numbers : has ZeroWidthElement (sequence_of (integer (between (pos 5) (pos 6))) any_size) ≡ false
a_list_of_two_numbers = refl

-- SEQUENCE OF INTEGER (5, ...): an extension bit is a bit
a_list_of_one_number_and_a_mark : has ZeroWidthElement
    (sequence_of (integer (between_or_more (pos 5) (pos 5))) any_size) ≡ false
a_list_of_one_number_and_a_mark = refl

a_list_of_one_item : has ZeroWidthElement
    (sequence_of (enumerated (label (codes "a") (pos 0) ∷ []) closed_labels) any_size) ≡ true
a_list_of_one_item = refl

a_list_of_one_item_and_a_mark : has ZeroWidthElement
    (sequence_of (enumerated (label (codes "a") (pos 0) ∷ []) (marked_labels [])) any_size) ≡ false
a_list_of_one_item_and_a_mark = refl

-- SEQUENCE OF OCTET STRING (SIZE (0))
a_list_of_empty_strings : has ZeroWidthElement (sequence_of (octet_string (exactly 0)) any_size) ≡ true
a_list_of_empty_strings = refl

-- SEQUENCE OF OCTET STRING (SIZE (0..1)): a length is a bit
a_list_of_strings : has ZeroWidthElement (sequence_of (octet_string (size_between 0 1)) any_size) ≡ false
a_list_of_strings = refl

a_list_of_unicode_texts : has ZeroWidthElement (sequence_of utf8_string any_size) ≡ false
a_list_of_unicode_texts = refl

-- SEQUENCE OF SEQUENCE { }
a_list_of_empty_sequences : has ZeroWidthElement (sequence_of (sequence no_fields closed) any_size) ≡ true
a_list_of_empty_sequences = refl

-- SEQUENCE OF SEQUENCE { n NULL }
a_list_of_sequences_of_null : has ZeroWidthElement
    (sequence_of (sequence (component (codes "n") null no_fields) closed) any_size) ≡ true
a_list_of_sequences_of_null = refl

-- SEQUENCE OF SEQUENCE { n NULL OPTIONAL }: a presence bit is a bit
a_list_of_sequences_of_an_optional_null : has ZeroWidthElement
    (sequence_of (sequence (optional_component (codes "n") null no_fields) closed) any_size) ≡ false
a_list_of_sequences_of_an_optional_null = refl

-- SEQUENCE OF SEQUENCE { ... }
a_list_of_marked_sequences : has ZeroWidthElement (sequence_of (sequence no_fields (marked no_fields)) any_size) ≡ false
a_list_of_marked_sequences = refl

-- SEQUENCE OF CHOICE { n NULL }
a_list_of_choices_of_null : has ZeroWidthElement
    (sequence_of (choice (one_of (codes "n") null no_alternatives) closed_choice) any_size) ≡ true
a_list_of_choices_of_null = refl

-- SEQUENCE OF CHOICE { n NULL, m NULL }: an index is a bit
a_list_of_choices_of_two_nulls : has ZeroWidthElement
    (sequence_of (choice (one_of (codes "n") null (one_of (codes "m") null no_alternatives)) closed_choice) any_size)
    ≡ false
a_list_of_choices_of_two_nulls = refl

-- SEQUENCE OF CHOICE { n NULL, ... }
a_list_of_marked_choices_of_null : has ZeroWidthElement
    (sequence_of (choice (one_of (codes "n") null no_alternatives) (marked_choice no_alternatives)) any_size) ≡ false
a_list_of_marked_choices_of_null = refl

-- SEQUENCE OF SEQUENCE (SIZE (0)) OF BOOLEAN
a_list_of_lists_of_no_elements : has ZeroWidthElement (sequence_of (sequence_of boolean (exactly 0)) any_size) ≡ true
a_list_of_lists_of_no_elements = refl

-- ---- AdditionNotOptional

an_optional_addition : has AdditionNotOptional extended_type ≡ false
an_optional_addition = refl

an_addition_that_is_always_there : has AdditionNotOptional
    (sequence no_fields (marked (component (codes "a") boolean no_fields))) ≡ true
an_addition_that_is_always_there = refl

an_addition_with_a_default : has AdditionNotOptional
    (sequence no_fields (marked (default_component (codes "a") (truth true) boolean no_fields))) ≡ true
an_addition_with_a_default = refl

an_addition_of_a_choice_needs_no_word : has AdditionNotOptional extended_choice ≡ false
an_addition_of_a_choice_needs_no_word = refl

-- ---- TooMany

the_most_components : has TooMany (sequence (optionals_of most_components boolean) closed) ≡ false
the_most_components = refl

one_component_more : has TooMany (sequence (optionals_of (most_components + 1) boolean) closed) ≡ true
one_component_more = refl

the_most_additions : has TooMany (sequence no_fields (marked (optionals_of most_additions boolean))) ≡ false
the_most_additions = refl

one_addition_more : has TooMany (sequence no_fields (marked (optionals_of (most_additions + 1) boolean))) ≡ true
one_addition_more = refl

-- all but 3 in the root, and 3 additions
the_most_alternatives : has TooMany
    (choice (alternatives_of (most_alternatives - 3) null) (marked_choice (alternatives_of 3 null))) ≡ false
the_most_alternatives = refl

one_alternative_more : has TooMany
    (choice (alternatives_of (most_alternatives - 3) null) (marked_choice (alternatives_of 4 null))) ≡ true
one_alternative_more = refl

the_most_items : has TooMany (enumerated (labels_from 0 most_items) closed_labels) ≡ false
the_most_items = refl

one_item_more : has TooMany (enumerated (labels_from 0 (most_items + 1)) closed_labels) ≡ true
one_item_more = refl

the_most_items_and_additions : has TooMany
    (enumerated (labels_from 0 (most_items - most_item_additions))
    (marked_labels (labels_from (most_items - most_item_additions) most_item_additions))) ≡ false
the_most_items_and_additions = refl

one_additional_item_more : has TooMany
    (enumerated (labels_from 0 1) (marked_labels (labels_from 1 (most_item_additions + 1)))) ≡ true
one_additional_item_more = refl

-- 1 + (1 + 24 * (1 + 64 * 65)) + (1 + 2 * 65) + 3
100000_nodes : has TooMany (large_type 2) ≡ false
100000_nodes = refl

100001_nodes : has TooMany (large_type 3) ≡ true
100001_nodes = refl

-- 2^16 - 1 = 65535 nodes
a_type_doubled_fifteen_times : has TooMany (doubled 15) ≡ false
a_type_doubled_fifteen_times = refl

-- 2^17 - 1 = 131071 nodes
a_type_doubled_sixteen_times : has TooMany (doubled 16) ≡ true
a_type_doubled_sixteen_times = refl

-- ---- TooDeep

-- 63 CHOICEs around a BOOLEAN
64_levels : has TooDeep (choices_around 63 boolean) ≡ false
64_levels = refl

65_levels : has TooDeep (choices_around 64 boolean) ≡ true
65_levels = refl

-- 31 lists around a BOOLEAN, each of two levels
63_levels_of_lists : has TooDeep (lists_around 31 boolean) ≡ false
63_levels_of_lists = refl

65_levels_of_lists : has TooDeep (lists_around 32 boolean) ≡ true
65_levels_of_lists = refl

65_levels_in_an_addition : has TooDeep
    (choice (one_of (codes "a") null no_alternatives)
    (marked_choice (one_of (codes "b") (choices_around 63 boolean) no_alternatives))) ≡ true
65_levels_in_an_addition = refl
