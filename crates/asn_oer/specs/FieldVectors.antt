-- Sealed fields of some encodings in Canonical OER, and encodings as the relation that contracts cite.
use Rattle.std.specs.Prelude.{◌≡◌, pos, true, false, [], ◌∷◌, Some, None, refl, codes}
use Rattle.asn_values.specs.Datum.{truth, nothing, number, bit_list, octet_list, characters, unicode, components, components_of, alternative}
use Rattle.asn_values.specs.Shape.{boolean, null, integer, bit_string, utf8_string, sequence_of}
use Rattle.asn_values.specs.ExampleTypes.{hex, bits_of, between, size_between, any_size, entries, items, note_type, twice_extended_type, extended_type, outer_type, extended_choice}
use Rattle.asn_values.specs.FitsExamples.{truth_fits, null_fits, seven_fits, three_bits_fit, a_unicode_text_fits, two_components_fit, three_components_fit, two_elements_fit, an_entry_for_each_addition_fits, an_added_alternative_fits}
use Rattle.asn_rules.specs.Chunks.{open_field, utf8_field, fields}
use Rattle.asn_rules.specs.Fields.{spelled}
use Rattle.asn_oer.specs.Oer.{oer}
use Rattle.asn_oer.specs.Rules.{oer_ruling, IsOerEncoding}

-- ---- sealed fields: how many octets stand before each and before what follows it

-- one field, from the first octet to the last
field_of_a_text :
    fields spelled (oer utf8_string (unicode (hex "C3 A9")))
    ≡ record { start = 0; end = 3; kind = utf8_field; content = hex "C3 A9" } ∷ []
field_of_a_text = refl

-- after the preamble, a, and three octets of presence bits
field_of_an_addition :
    fields spelled (oer extended_type (entries (Some (truth true) ∷ Some (number (pos 7)) ∷ [])))
    ≡ record { start = 5; end = 7; kind = open_field; content = hex "07" } ∷ []
field_of_an_addition = refl

no_field_of_an_absent_addition : fields spelled (oer extended_type (entries (Some (truth true) ∷ None ∷ []))) ≡ []
no_field_of_an_absent_addition = refl

-- after 80 FF 02 06 C0: eight octets and two; the field inside the first is not listed
fields_of_two_additions :
    fields spelled (oer outer_type (
    entries (Some (truth true) ∷ Some (components (components_of (Some (truth true) ∷ Some (number (pos 7)) ∷ [])))
    ∷ Some (truth true) ∷ [])))
    ≡ record { start = 5; end = 13; kind = open_field; content = hex "80 FF 02 07 80 01 07" }
    ∷ record { start = 13; end = 15; kind = open_field; content = hex "FF" } ∷ []
fields_of_two_additions = refl

-- after the tag
field_of_an_alternative :
    fields spelled (oer extended_choice (alternative 3 (octet_list (hex "AB"))))
    ≡ record { start = 1; end = 4; kind = open_field; content = hex "01 AB" } ∷ []
field_of_an_alternative = refl

-- after the quantity 01 02
fields_of_two_texts :
    fields spelled (oer (sequence_of utf8_string any_size) (items (unicode (hex "C3 A9") ∷ unicode (hex "61") ∷ [])))
    ≡ record { start = 2; end = 5; kind = utf8_field; content = hex "C3 A9" }
    ∷ record { start = 5; end = 7; kind = utf8_field; content = hex "61" } ∷ []
fields_of_two_texts = refl

-- ---- octets that are the encoding of a value that fits

encoding_of_true : IsOerEncoding boolean (truth true) (hex "FF")
unfolding oer_ruling
encoding_of_true = (truth_fits, refl)

encoding_of_null : IsOerEncoding null nothing []
unfolding oer_ruling
encoding_of_null = (null_fits, refl)

encoding_of_seven : IsOerEncoding (integer (between (pos 0) (pos 7))) (number (pos 7)) (hex "07")
unfolding oer_ruling
encoding_of_seven = (seven_fits, refl)

encoding_of_three_bits : IsOerEncoding (bit_string (size_between 0 3)) (bit_list (bits_of "101")) (hex "02 05 A0")
unfolding oer_ruling
encoding_of_three_bits = (three_bits_fit, refl)

encoding_of_a_text : IsOerEncoding utf8_string (unicode (hex "C3 A9")) (hex "02 C3 A9")
unfolding oer_ruling
encoding_of_a_text = (a_unicode_text_fits, refl)

encoding_with_a_default :
    IsOerEncoding note_type (entries (Some (number (pos 5)) ∷ Some (truth true) ∷ None ∷ [])) (hex "00 05")
unfolding oer_ruling
encoding_with_a_default = (two_components_fit, refl)

encoding_with_a_note :
    IsOerEncoding note_type (entries (Some (number (pos 5)) ∷ Some (truth true) ∷ Some (characters (codes "A")) ∷ []))
    (hex "40 05 01 41")
unfolding oer_ruling
encoding_with_a_note = (three_components_fit, refl)

-- two presence bits, 6 unused
encoding_with_an_addition :
    IsOerEncoding twice_extended_type (entries (Some (truth true) ∷ Some (number (pos 7)) ∷ None ∷ []))
    (hex "80 FF 02 06 80 01 07")
unfolding oer_ruling
encoding_with_an_addition = (an_entry_for_each_addition_fits, refl)

encoding_of_two_elements :
    IsOerEncoding (sequence_of boolean (size_between 2 3)) (items (truth true ∷ truth false ∷ [])) (hex "01 02 FF 00")
unfolding oer_ruling
encoding_of_two_elements = (two_elements_fit, refl)

encoding_of_an_added_alternative :
    IsOerEncoding extended_choice (alternative 3 (octet_list (hex "AB"))) (hex "83 02 01 AB")
unfolding oer_ruling
encoding_of_an_added_alternative = (an_added_alternative_fits, refl)
