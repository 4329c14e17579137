-- Sealed fields of some encodings in CANONICAL-PER UNALIGNED, and encodings as the relation that contracts cite.
use Rattle.std.specs.Prelude.{◌≡◌, pos, true, false, [], ◌∷◌, Some, None, refl, codes}
use Rattle.asn_values.specs.Datum.{truth, nothing, number, bit_list, octet_list, characters, unicode, components, components_of, alternative}
use Rattle.asn_values.specs.Shape.{boolean, null, integer, bit_string, utf8_string, sequence_of}
use Rattle.asn_values.specs.ExampleTypes.{hex, bits_of, between, size_between, any_size, entries, items, note_type, twice_extended_type, extended_type, outer_type, extended_choice}
use Rattle.asn_values.specs.FitsExamples.{truth_fits, null_fits, seven_fits, three_bits_fit, a_unicode_text_fits, two_components_fit, three_components_fit, two_elements_fit, an_entry_for_each_addition_fits, an_added_alternative_fits}
use Rattle.asn_rules.specs.Chunks.{open_field, utf8_field, fields}
use Rattle.asn_per.specs.Per.{spelled, per_whole}
use Rattle.asn_per.specs.Rules.{per_ruling, IsPerEncoding}

-- ---- sealed fields: how many bits stand before each and before what follows it

-- one field, from the first bit to the last
field_of_a_text :
    fields spelled (per_whole utf8_string (unicode (hex "C3 A9")))
    ≡ record { start = 0; end = 24; kind = utf8_field; content = hex "C3 A9" } ∷ []
field_of_a_text = refl

-- after 1 1, 0 000000 and 1; two octets
field_of_an_addition :
    fields spelled (per_whole extended_type (entries (Some (truth true) ∷ Some (number (pos 7)) ∷ [])))
    ≡ record { start = 10; end = 26; kind = open_field; content = hex "07" } ∷ []
field_of_an_addition = refl

no_field_of_an_absent_addition : fields spelled (per_whole extended_type (entries (Some (truth true) ∷ None ∷ []))) ≡ []
no_field_of_an_absent_addition = refl

-- after 1 1, 0 000001 and 1 1: five octets and two; the field inside the first is not listed
fields_of_two_additions :
    fields spelled (per_whole outer_type (
    entries (Some (truth true) ∷ Some (components (components_of (Some (truth true) ∷ Some (number (pos 7)) ∷ [])))
    ∷ Some (truth true) ∷ [])))
    ≡ record { start = 11; end = 51; kind = open_field; content = hex "C0 40 41 C0" }
    ∷ record { start = 51; end = 67; kind = open_field; content = hex "80" } ∷ []
fields_of_two_additions = refl

-- after 1 and 0 000000
field_of_an_alternative :
    fields spelled (per_whole extended_choice (alternative 3 (octet_list (hex "AB"))))
    ≡ record { start = 8; end = 32; kind = open_field; content = hex "01 AB" } ∷ []
field_of_an_alternative = refl

-- after the length 00000010
fields_of_two_texts :
    fields spelled
    (per_whole (sequence_of utf8_string any_size) (items (unicode (hex "C3 A9") ∷ unicode (hex "61") ∷ [])))
    ≡ record { start = 8; end = 32; kind = utf8_field; content = hex "C3 A9" }
    ∷ record { start = 32; end = 48; kind = utf8_field; content = hex "61" } ∷ []
fields_of_two_texts = refl

-- ---- octets that are the encoding of a value that fits

encoding_of_true : IsPerEncoding boolean (truth true) (hex "80")
unfolding per_ruling
encoding_of_true = (truth_fits, refl)

encoding_of_null : IsPerEncoding null nothing (hex "00")
unfolding per_ruling
encoding_of_null = (null_fits, refl)

encoding_of_seven : IsPerEncoding (integer (between (pos 0) (pos 7))) (number (pos 7)) (hex "E0")
unfolding per_ruling
encoding_of_seven = (seven_fits, refl)

encoding_of_three_bits : IsPerEncoding (bit_string (size_between 0 3)) (bit_list (bits_of "101")) (hex "E8")
unfolding per_ruling
encoding_of_three_bits = (three_bits_fit, refl)

encoding_of_a_text : IsPerEncoding utf8_string (unicode (hex "C3 A9")) (hex "02 C3 A9")
unfolding per_ruling
encoding_of_a_text = (a_unicode_text_fits, refl)

encoding_with_a_default :
    IsPerEncoding note_type (entries (Some (number (pos 5)) ∷ Some (truth true) ∷ None ∷ [])) (hex "28")
unfolding per_ruling
encoding_with_a_default = (two_components_fit, refl)

encoding_with_a_note :
    IsPerEncoding note_type (entries (Some (number (pos 5)) ∷ Some (truth true) ∷ Some (characters (codes "A")) ∷ []))
    (hex "6B 04")
unfolding per_ruling
encoding_with_a_note = (three_components_fit, refl)

-- 1 1, 0 000001, 1 0, 00000001, 00000111
encoding_with_an_addition :
    IsPerEncoding twice_extended_type (entries (Some (truth true) ∷ Some (number (pos 7)) ∷ None ∷ []))
    (hex "C0 C0 20 E0")
unfolding per_ruling
encoding_with_an_addition = (an_entry_for_each_addition_fits, refl)

-- 0, then 1 0
encoding_of_two_elements :
    IsPerEncoding (sequence_of boolean (size_between 2 3)) (items (truth true ∷ truth false ∷ [])) (hex "40")
unfolding per_ruling
encoding_of_two_elements = (two_elements_fit, refl)

encoding_of_an_added_alternative :
    IsPerEncoding extended_choice (alternative 3 (octet_list (hex "AB"))) (hex "80 02 01 AB")
unfolding per_ruling
encoding_of_an_added_alternative = (an_added_alternative_fits, refl)
