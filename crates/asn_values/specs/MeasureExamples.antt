-- How large some types and values are.
use Rattle.std.specs.Prelude.{◌≡◌, pos, true, false, [], ◌∷◌, replicate, Some, None, refl, codes}
use Rattle.asn_values.specs.Datum.{truth, nothing, number, item, bit_list, octet_list, characters, unicode, alternative}
use Rattle.asn_values.specs.Shape.{boolean, null, octet_string, utf8_string, sequence, sequence_of, choice, no_fields, closed, marked, no_alternatives, one_of, marked_choice}
use Rattle.asn_values.specs.Measures.{depth, nodes, places, levels, cells}
use Rattle.asn_values.specs.ExampleTypes.{hex, bits_of, any_size, component, optional_component, entries, items, note_type, extended_type, outer_type, extended_choice, colours, lists_around, large_type, doubled}

-- ---- levels of types inside one another

depth_of_a_simple_type : depth boolean ≡ 1
depth_of_a_simple_type = refl

depth_of_an_enumeration : depth colours ≡ 1
depth_of_an_enumeration = refl

depth_of_a_string : depth (octet_string any_size) ≡ 1
depth_of_a_string = refl

depth_of_a_sequence : depth note_type ≡ 2
depth_of_a_sequence = refl

depth_of_a_sequence_without_components : depth (sequence no_fields closed) ≡ 1
depth_of_a_sequence_without_components = refl

depth_counts_additions : depth outer_type ≡ 3
depth_counts_additions = refl

depth_of_lists : depth (lists_around 31 boolean) ≡ 63
depth_of_lists = refl

-- ---- nodes, each type once

nodes_of_a_simple_type : nodes boolean ≡ 1
nodes_of_a_simple_type = refl

-- the SEQUENCE and its three components
nodes_of_a_sequence : nodes note_type ≡ 4
nodes_of_a_sequence = refl

-- the SEQUENCE, a, b with p and q, and c
nodes_of_additions : nodes outer_type ≡ 6
nodes_of_additions = refl

nodes_of_a_choice : nodes extended_choice ≡ 5
nodes_of_a_choice = refl

nodes_of_a_list : nodes (sequence_of boolean any_size) ≡ 2
nodes_of_a_list = refl

nodes_of_a_large_type : nodes (large_type 2) ≡ 100000
nodes_of_a_large_type = refl

nodes_of_a_type_doubled_twelve_times : nodes (doubled 12) ≡ 8191
nodes_of_a_type_doubled_twelve_times = refl

-- ---- the same, a string counting two

places_of_a_sequence : places note_type ≡ 5
places_of_a_sequence = refl

places_of_a_choice : places extended_choice ≡ 6
places_of_a_choice = refl

places_of_a_list : places (sequence_of boolean any_size) ≡ 2
places_of_a_list = refl

places_of_a_list_of_texts : places (sequence_of utf8_string any_size) ≡ 3
places_of_a_list_of_texts = refl

-- ---- sealed fields inside one another, and the message itself

levels_without_sealed_fields : levels note_type ≡ 1
levels_without_sealed_fields = refl

levels_of_a_unicode_text : levels utf8_string ≡ 2
levels_of_a_unicode_text = refl

levels_of_an_addition : levels extended_type ≡ 2
levels_of_an_addition = refl

levels_of_an_addition_with_an_addition : levels outer_type ≡ 3
levels_of_an_addition_with_an_addition = refl

levels_of_an_addition_of_a_choice : levels extended_choice ≡ 2
levels_of_an_addition_of_a_choice = refl

-- a mark alone has no open field
levels_of_a_mark_without_additions : levels (sequence (component (codes "a") boolean no_fields) (marked no_fields)) ≡ 1
levels_of_a_mark_without_additions = refl

-- a text in an addition of a CHOICE in an addition of a SEQUENCE
levels_of_three_fields_inside_one_another : levels
    (sequence no_fields (marked
    (optional_component (codes "a")
    (choice (one_of (codes "b") null no_alternatives)
    (marked_choice (one_of (codes "c") (sequence_of utf8_string any_size) no_alternatives))) no_fields))) ≡ 4
levels_of_three_fields_inside_one_another = refl

-- ---- cells of a value: its nodes, an absent component as one, and the items of strings

cells_of_a_number : cells (number (pos 300)) ≡ 1
cells_of_a_number = refl

cells_of_an_item : cells (item 3) ≡ 1
cells_of_an_item = refl

cells_of_null : cells nothing ≡ 1
cells_of_null = refl

cells_of_three_bits : cells (bit_list (bits_of "101")) ≡ 4
cells_of_three_bits = refl

cells_of_no_octets : cells (octet_list []) ≡ 1
cells_of_no_octets = refl

-- one character, of two octets
cells_of_a_unicode_text : cells (unicode (hex "C3 A9")) ≡ 3
cells_of_a_unicode_text = refl

-- the SEQUENCE, id, ok, and note with its character
cells_of_a_sequence : cells (entries (Some (number (pos 5)) ∷ Some (truth true) ∷ Some (characters (codes "A")) ∷ []))
    ≡ 5
cells_of_a_sequence = refl

cells_of_an_absent_component : cells (entries (Some (number (pos 5)) ∷ Some (truth true) ∷ None ∷ [])) ≡ 4
cells_of_an_absent_component = refl

cells_of_a_list : cells (items (truth true ∷ truth false ∷ truth true ∷ [])) ≡ 4
cells_of_a_list = refl

cells_of_an_alternative : cells (alternative 3 (octet_list (hex "AB"))) ≡ 3
cells_of_an_alternative = refl

cells_of_a_long_list : cells (items (replicate 1000 (truth true))) ≡ 1001
cells_of_a_long_list = refl
