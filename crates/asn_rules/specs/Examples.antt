-- Worked presence bits, DEFAULTs and lists of chunks.
use Rattle.std.specs.Prelude.{◌≡◌, ℕ, pos, negsuc, true, false, List, [], ◌∷◌, ◌++◌, length, Some, None, refl}
use Rattle.asn_values.specs.Datum.{truth, number, item, octet_list}
use Rattle.asn_values.specs.Shape.{must, optional, default}
use Rattle.asn_values.specs.ExampleTypes.{unsorted_items}
use Rattle.asn_rules.specs.Chunks.{open_field, utf8_field, one, sealed, ones, flat, fields}
use Rattle.asn_rules.specs.Components.{number_at, is_default, is_spelled, presence, any_present, extension_bit}

-- ---- DEFAULT

true_is_the_default_true : is_default (truth true) (truth true) ≡ true
true_is_the_default_true = refl

true_is_not_the_default_false : is_default (truth false) (truth true) ≡ false
true_is_not_the_default_false = refl

minus_5_is_the_default_minus_5 : is_default (number (negsuc 4)) (number (negsuc 4)) ≡ true
minus_5_is_the_default_minus_5 = refl

5_is_not_the_default_minus_5 : is_default (number (negsuc 4)) (number (pos 5)) ≡ false
5_is_not_the_default_minus_5 = refl

an_item_is_the_default_item : is_default (item 2) (item 2) ≡ true
an_item_is_the_default_item = refl

another_item_is_not : is_default (item 2) (item 1) ≡ false
another_item_is_not = refl

-- ---- what is spelt

a_required_component_is_spelt : is_spelled must (Some (truth false)) ≡ true
a_required_component_is_spelt = refl

an_absent_component_is_not : is_spelled optional None ≡ false
an_absent_component_is_not = refl

a_default_is_not : is_spelled (default (truth true)) (Some (truth true)) ≡ false
a_default_is_not = refl

another_value_than_the_default_is : is_spelled (default (truth true)) (Some (truth false)) ≡ true
another_value_than_the_default_is = refl

-- id, ok DEFAULT TRUE, note OPTIONAL: no bit for id
presence_of_two : presence (must ∷ default (truth true) ∷ optional ∷ [])
    (Some (number (pos 5)) ∷ Some (truth true) ∷ Some (octet_list []) ∷ []) ≡ 0 ∷ 1 ∷ []
presence_of_two = refl

one_present_addition_is_enough : any_present (None ∷ Some (truth true) ∷ []) ≡ true
one_present_addition_is_enough = refl

absent_additions_are_none : any_present (None ∷ None ∷ []) ≡ false
absent_additions_are_none = refl

no_extension_bit_without_a_mark : extension_bit false false ≡ []
no_extension_bit_without_a_mark = refl

an_extension_bit_of_0 : extension_bit true false ≡ 0 ∷ []
an_extension_bit_of_0 = refl

-- ---- items

-- numbers 9, -9, 0 as written
the_number_of_the_second_item : number_at unsorted_items 1 ≡ negsuc 8
the_number_of_the_second_item = refl

-- ---- chunks, where a sealed field is spelt as its length and its octets

abbrev counted : List ℕ → List ℕ
counted content = length content ∷ content

units_of_a_sealed_field : flat counted (ones (7 ∷ 8 ∷ []) ++ sealed utf8_field (65 ∷ 66 ∷ []) ∷ one 9 ∷ [])
    ≡ 7 ∷ 8 ∷ 2 ∷ 65 ∷ 66 ∷ 9 ∷ []
units_of_a_sealed_field = refl

-- two units stand before the first field, and six before the second
two_sealed_fields :
    fields counted (ones (7 ∷ 8 ∷ []) ++ sealed utf8_field (65 ∷ 66 ∷ []) ∷ one 9 ∷ sealed open_field [] ∷ [])
    ≡ record { start = 2; end = 5; kind = utf8_field; content = 65 ∷ 66 ∷ [] }
    ∷ record { start = 6; end = 7; kind = open_field; content = [] } ∷ []
two_sealed_fields = refl
