-- JSON of values, and values and errors of JSON, worked out by hand.
use Rattle.std.specs.Prelude.{◌≡◌, ◌+◌, pos, negsuc, true, [], ◌∷◌, Some, None, refl, codes, decimal}
use Rattle.std.proofs.Common.{arith}
use Rattle.std.proofs.Math.Utf8.{encode}
use Rattle.std.proofs.lemmas.Fmt.{decimal_digit}
use Rattle.serde_json.specs.Data.{boolean, number, string, array, object, unsigned, negative, no_items, item, no_members, member}
use Rattle.asn_values.specs.Datum.{truth, bit_list, characters, alternative}
use Rattle.asn_values.specs.Datum as datum
use Rattle.asn_values.specs.Fits.{highest_number}
use Rattle.asn_values.specs.Shape.{Label, enumerated, marked_labels, bit_string, integer, sequence_of, choice, one_of, no_alternatives, marked_choice}
use Rattle.asn_values.specs.Shape as shape
use Rattle.asn_values.specs.ExampleTypes.{bits_of, any_number, any_size, entries, label, note_type}
use Rattle.asn_json.specs.Errors.{errors, bad}
use Rattle.asn_json.specs.Shown.{value_of}
use Rattle.asn_json.specs.Written.{json_of}

-- ---- SEQUENCE { id INTEGER (0..7), ok BOOLEAN DEFAULT TRUE, note IA5String (SIZE (0..3)) OPTIONAL }

-- id 5, ok TRUE, note "A": {"id":5,"note":"A","ok":true}
pub note_json :
    json_of note_type (entries (Some (datum.number (pos 5)) ∷ Some (truth true) ∷ Some (characters (codes "A")) ∷ []))
    ≡ object (member (codes "id") (number (unsigned 5))
    (member (codes "note") (string (codes "A")) (member (codes "ok") (boolean true) no_members)))
unfolding encode
note_json = refl

-- id 5, ok TRUE: {"id":5,"ok":true}
pub absent_note_json :
    json_of note_type (entries (Some (datum.number (pos 5)) ∷ Some (truth true) ∷ None ∷ []))
    ≡ object (member (codes "id") (number (unsigned 5)) (member (codes "ok") (boolean true) no_members))
absent_note_json = refl

-- {"id":5}: the DEFAULT, and no note
pub default_value :
    value_of note_type (object (member (codes "id") (number (unsigned 5)) no_members))
    ≡ entries (Some (datum.number (pos 5)) ∷ Some (truth true) ∷ None ∷ [])
default_value = refl

pub no_error : bad note_type (object (member (codes "id") (number (unsigned 5)) no_members)) ≡ []
no_error = refl

-- {"id":"x","no":1,"ok":0}: the two wrong components in the type's order, and then the unknown key at the object
pub errors_in_order :
    bad note_type (object (member (codes "id") (string (codes "x"))
    (member (codes "no") (number (unsigned 1)) (member (codes "ok") (number (unsigned 0)) no_members))))
    ≡ codes "$.id" ∷ codes "$.ok" ∷ codes "$" ∷ []
errors_in_order = refl

-- {"ok":0}: the missing key stands at its turn, before what is wrong after it
pub missing_key :
    bad note_type (object (member (codes "ok") (number (unsigned 0)) no_members)) ≡ codes "$" ∷ codes "$.ok" ∷ []
missing_key = refl

-- ---- types without parts

-- ENUMERATED { red(0), ..., grey(300) }
abbrev colour_type : shape.Shape
colour_type = enumerated (label (codes "red") (pos 0) ∷ []) (marked_labels (label (codes "grey") (pos 300) ∷ []))

pub grey_json : json_of colour_type (datum.item 1) ≡ string (codes "grey")
grey_json = refl

pub grey_value : value_of colour_type (string (codes "grey")) ≡ datum.item 1
grey_value = refl

pub bits_json : json_of (bit_string any_size) (bit_list (bits_of "101")) ≡ string (codes "101")
bits_json = refl

-- INTEGER: one above the highest is none of the profile, so it is an error of shape
pub largest_integer : errors (integer any_number) (number (unsigned highest_number)) ≡ []
largest_integer = refl

pub integer_past_the_profile : bad (integer any_number) (number (unsigned (highest_number + 1))) ≡ codes "$" ∷ []
integer_past_the_profile = refl

pub negative_value : value_of (integer any_number) (number (negative (negsuc 4))) ≡ datum.number (negsuc 4)
negative_value = refl

-- ---- lists and alternatives

-- SEQUENCE OF BOOLEAN, [true,1]: the second element
pub second_element :
    bad (sequence_of shape.boolean any_size) (array (item (boolean true) (item (number (unsigned 1)) no_items)))
    ≡ codes "$[1]" ∷ []
second_element =
    let one : decimal 1 ≡ 49 ∷ [] = decimal_digit 1 (omega arith) in
    rw one refl

-- CHOICE { x NULL, ..., y BOOLEAN }
abbrev choice_type : shape.Shape
choice_type =
    choice (one_of (codes "x") shape.null no_alternatives)
    (marked_choice (one_of (codes "y") shape.boolean no_alternatives))

pub added_alternative_json :
    json_of choice_type (alternative 1 (truth true)) ≡ object (member (codes "y") (boolean true) no_members)
added_alternative_json = refl

pub added_alternative_value :
    value_of choice_type (object (member (codes "y") (boolean true) no_members)) ≡ alternative 1 (truth true)
added_alternative_value = refl

-- {"y":true,"z":1}: not one key
pub two_keys :
    bad choice_type (object (member (codes "y") (boolean true) (member (codes "z") (number (unsigned 1)) no_members)))
    ≡ codes "$" ∷ []
two_keys = refl

-- {"z":1}: no alternative has the name; {"y":1}: what is wrong stands below it
pub unknown_alternative :
    bad choice_type (object (member (codes "z") (number (unsigned 1)) no_members)) ≡ codes "$" ∷ []
unknown_alternative = refl

pub wrong_alternative :
    bad choice_type (object (member (codes "y") (number (unsigned 1)) no_members)) ≡ codes "$.y" ∷ []
wrong_alternative = refl
