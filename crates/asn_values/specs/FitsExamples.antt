-- Values that fit their types, values that do not, and types in which no condition of the profile holds.
use Rattle.std.specs.Prelude.{pos, negsuc, true, false, [], ◌∷◌, Some, None, refl, codes}
use Rattle.std.proofs.Math.Path.{sym}
use Rattle.std.proofs.lemmas.Bool.{leb-true, true≢false}
use Rattle.std.proofs.Math.Utf8.{encode}
use Rattle.std.proofs.Math.Facts.{yes_leb}
use Rattle.std.specs.Int.Signed.{le_z_yes}
use Rattle.asn_values.specs.Datum.{truth, nothing, number, item, bit_list, octet_list, characters, unicode, alternative, unknown_item, unknown_alternative}
use Rattle.asn_values.specs.Shape.{boolean, null, integer, bit_string, octet_string, restricted, ia5, numeric, visible, utf8_string, sequence_of}
use Rattle.asn_values.specs.Fits.{Fits, highest_integer, max_len}
use Rattle.asn_values.specs.Profile.{EmptyRange, SizeTooLarge, DuplicateName, BadEnumeration, UselessMark, BadDefault, ZeroWidthElement, AdditionNotOptional, TooMany, TooDeep, InProfile}
use Rattle.asn_values.specs.ExampleTypes.{hex, bits_of, between, number_from, any_number, between_or_more, exactly, size_between, any_size, size_between_or_more, entries, items, note_type, twice_extended_type, outer_type, extended_choice, colours, past_the_highest}

-- ---- simple types

pub truth_fits : Fits boolean (truth true)
truth_fits = tt

pub null_fits : Fits null nothing
null_fits = tt

-- INTEGER (0..7)
pub seven_fits : Fits (integer (between (pos 0) (pos 7))) (number (pos 7))
seven_fits = (le_z_yes tt, le_z_yes tt, refl)

-- INTEGER (0..7, ...)
pub eight_fits_after_a_marker : Fits (integer (between_or_more (pos 0) (pos 7))) (number (pos 8))
eight_fits_after_a_marker = (le_z_yes tt, le_z_yes tt, refl)

-- INTEGER (-5..MAX)
pub the_greatest_integer_fits : Fits (integer (number_from (negsuc 4))) (number highest_integer)
the_greatest_integer_fits = (le_z_yes tt, le_z_yes tt, refl)

-- ENUMERATED { red(0), green(5), blue(200), ..., grey(300) }: four items
pub an_addition_fits : Fits colours (item 3)
an_addition_fits = leb-true 4 4 refl

-- BIT STRING (SIZE (0..3))
pub three_bits_fit : Fits (bit_string (size_between 0 3)) (bit_list (bits_of "101"))
three_bits_fit = (leb-true 3 max_len refl, refl)

-- OCTET STRING (SIZE (2..3, ...))
pub one_octet_fits_after_a_marker : Fits (octet_string (size_between_or_more 2 3)) (octet_list (hex "AB"))
one_octet_fits_after_a_marker = ((leb-true 1 max_len refl, refl), (leb-true 172 256 refl, tt))

-- NumericString
pub space_and_digit_fit : Fits (restricted numeric any_size) (characters (codes " 9"))
space_and_digit_fit = ((leb-true 2 max_len refl, refl), (refl, (refl, tt)))

-- IA5String (SIZE (1))
pub the_last_ia5_character_fits : Fits (restricted ia5 (exactly 1)) (characters (127 ∷ []))
the_last_ia5_character_fits = ((leb-true 1 max_len refl, refl), (refl, tt))

-- UTF8String: U+00E9 is C3 A9
pub a_unicode_text_fits : Fits utf8_string (unicode (hex "C3 A9"))
unfolding encode
a_unicode_text_fits = (leb-true 2 max_len refl, (0xE9 ∷ [], (refl, refl)))

-- ---- types around others

-- note is absent, since it is OPTIONAL
pub two_components_fit : Fits note_type (entries (Some (number (pos 5)) ∷ Some (truth true) ∷ None ∷ []))
two_components_fit = (((le_z_yes tt, le_z_yes tt, refl), (tt, (tt, tt))), tt)

pub three_components_fit : Fits note_type
    (entries (Some (number (pos 5)) ∷ Some (truth true) ∷ Some (characters (codes "A")) ∷ []))
three_components_fit =
    (((le_z_yes tt, le_z_yes tt, refl), (tt, (((leb-true 1 max_len refl, refl), (refl, tt)), tt))), tt)

-- a TRUE, b 7, and c absent
pub an_entry_for_each_addition_fits : Fits twice_extended_type
    (entries (Some (truth true) ∷ Some (number (pos 7)) ∷ None ∷ []))
an_entry_for_each_addition_fits = ((tt, tt), ((le_z_yes tt, le_z_yes tt, refl), (tt, tt)))

-- SEQUENCE (SIZE (2..3)) OF BOOLEAN
pub two_elements_fit : Fits (sequence_of boolean (size_between 2 3)) (items (truth true ∷ truth false ∷ []))
two_elements_fit = ((leb-true 2 max_len refl, refl), (tt, (tt, tt)))

-- y BOOLEAN has the tag 1
pub an_alternative_of_the_root_fits : Fits extended_choice (alternative 1 (truth true))
an_alternative_of_the_root_fits = tt

-- w OCTET STRING, an addition, has the tag 3
pub an_added_alternative_fits : Fits extended_choice (alternative 3 (octet_list (hex "AB")))
an_added_alternative_fits = ((leb-true 1 max_len refl, refl), (leb-true 172 256 refl, tt))

-- ---- what does not fit

no_number_fits_boolean : Fits boolean (number (pos 1)) → ⊥
no_number_fits_boolean p = p

-- INTEGER (0..7)
eight_does_not_fit : Fits (integer (between (pos 0) (pos 7))) (number (pos 8)) → ⊥
eight_does_not_fit p = true≢false (sym p.2)

-- INTEGER, whose values end with the profile's
pub no_number_past_the_profile_fits : Fits (integer any_number) (number past_the_highest) → ⊥
no_number_past_the_profile_fits p = p.1.le

-- four items
pub no_fifth_item_fits : Fits colours (item 4) → ⊥
no_fifth_item_fits p = yes_leb p

-- OCTET STRING (SIZE (2..3))
one_octet_does_not_fit : Fits (octet_string (size_between 2 3)) (octet_list (hex "AB")) → ⊥
one_octet_does_not_fit p = true≢false (sym p.0.1)

-- OCTET STRING
no_octet_is_256 : Fits (octet_string any_size) (octet_list (256 ∷ [])) → ⊥
no_octet_is_256 p = yes_leb p.1.0

-- VisibleString
no_control_character_fits_visible : Fits (restricted visible any_size) (characters (31 ∷ [])) → ⊥
no_control_character_fits_visible p = true≢false (sym p.1.0)

-- NumericString
no_letter_fits_numeric : Fits (restricted numeric any_size) (characters (codes "A")) → ⊥
no_letter_fits_numeric p = true≢false (sym p.1.0)

-- ok has a DEFAULT, and so always a value
a_default_is_never_absent : Fits note_type (entries (Some (number (pos 5)) ∷ None ∷ None ∷ [])) → ⊥
a_default_is_never_absent p = p.0.1.0

-- one entry is wanting
an_entry_for_each_component : Fits note_type (entries (Some (number (pos 5)) ∷ Some (truth true) ∷ [])) → ⊥
an_entry_for_each_component p = p.0.1.1

-- one entry too many
no_entry_for_no_component : Fits note_type (entries (Some (number (pos 5)) ∷ Some (truth true) ∷ None ∷ None ∷ [])) → ⊥
no_entry_for_no_component p = p.1

-- there are four alternatives
pub no_fifth_alternative_fits : Fits extended_choice (alternative 4 nothing) → ⊥
no_fifth_alternative_fits p = p

-- what a newer sender may have sent fits no type
pub no_unknown_item_fits : Fits colours (unknown_item (pos 400)) → ⊥
no_unknown_item_fits p = p

pub no_unknown_alternative_fits : Fits extended_choice (unknown_alternative 4) → ⊥
no_unknown_alternative_fits p = p

-- ---- types in which no condition holds

note_type_is_of_the_profile : InProfile note_type
note_type_is_of_the_profile EmptyRange = refl
note_type_is_of_the_profile SizeTooLarge = refl
note_type_is_of_the_profile DuplicateName = refl
note_type_is_of_the_profile BadEnumeration = refl
note_type_is_of_the_profile UselessMark = refl
note_type_is_of_the_profile BadDefault = refl
note_type_is_of_the_profile ZeroWidthElement = refl
note_type_is_of_the_profile AdditionNotOptional = refl
note_type_is_of_the_profile TooMany = refl
note_type_is_of_the_profile TooDeep = refl

twice_extended_type_is_of_the_profile : InProfile twice_extended_type
twice_extended_type_is_of_the_profile EmptyRange = refl
twice_extended_type_is_of_the_profile SizeTooLarge = refl
twice_extended_type_is_of_the_profile DuplicateName = refl
twice_extended_type_is_of_the_profile BadEnumeration = refl
twice_extended_type_is_of_the_profile UselessMark = refl
twice_extended_type_is_of_the_profile BadDefault = refl
twice_extended_type_is_of_the_profile ZeroWidthElement = refl
twice_extended_type_is_of_the_profile AdditionNotOptional = refl
twice_extended_type_is_of_the_profile TooMany = refl
twice_extended_type_is_of_the_profile TooDeep = refl

outer_type_is_of_the_profile : InProfile outer_type
outer_type_is_of_the_profile EmptyRange = refl
outer_type_is_of_the_profile SizeTooLarge = refl
outer_type_is_of_the_profile DuplicateName = refl
outer_type_is_of_the_profile BadEnumeration = refl
outer_type_is_of_the_profile UselessMark = refl
outer_type_is_of_the_profile BadDefault = refl
outer_type_is_of_the_profile ZeroWidthElement = refl
outer_type_is_of_the_profile AdditionNotOptional = refl
outer_type_is_of_the_profile TooMany = refl
outer_type_is_of_the_profile TooDeep = refl

extended_choice_is_of_the_profile : InProfile extended_choice
extended_choice_is_of_the_profile EmptyRange = refl
extended_choice_is_of_the_profile SizeTooLarge = refl
extended_choice_is_of_the_profile DuplicateName = refl
extended_choice_is_of_the_profile BadEnumeration = refl
extended_choice_is_of_the_profile UselessMark = refl
extended_choice_is_of_the_profile BadDefault = refl
extended_choice_is_of_the_profile ZeroWidthElement = refl
extended_choice_is_of_the_profile AdditionNotOptional = refl
extended_choice_is_of_the_profile TooMany = refl
extended_choice_is_of_the_profile TooDeep = refl

colours_is_of_the_profile : InProfile colours
colours_is_of_the_profile EmptyRange = refl
colours_is_of_the_profile SizeTooLarge = refl
colours_is_of_the_profile DuplicateName = refl
colours_is_of_the_profile BadEnumeration = refl
colours_is_of_the_profile UselessMark = refl
colours_is_of_the_profile BadDefault = refl
colours_is_of_the_profile ZeroWidthElement = refl
colours_is_of_the_profile AdditionNotOptional = refl
colours_is_of_the_profile TooMany = refl
colours_is_of_the_profile TooDeep = refl
