-- Published types with contents, each with its notation (X.680, X.682), and the octets in their values that are
-- encodings.
use Rattle.std.specs.Prelude.{◌≡◌, ◌∷◌, [], pos, true, false, Some, None, refl}
use Rattle.asn_values.specs.Datum.{truth, number, octet_list, alternative}
use Rattle.asn_values.specs.ExampleTypes.{hex, entries, items}
use Rattle.asn_contents.specs.Contents.{Contents, nowhere, in_octets, in_components, in_elements, in_alternatives, at_both, selected, no_parts, part, one_content, places_in}

-- SEQUENCE { a BOOLEAN, o OCTET STRING (CONTAINING INTEGER (0..255)) }, the INTEGER being the first type of the table
abbrev pub flagged : Contents
flagged = in_components (part nowhere (part (in_octets 0) no_parts))

pub one_octet_inside :
    places_in flagged [] (entries (Some (truth true) ∷ Some (octet_list (hex "07")) ∷ []))
    ≡ one_content (1 ∷ []) (Some 0) (hex "07") ∷ []
one_octet_inside = refl

pub absent_octets : places_in flagged [] (entries (Some (truth true) ∷ None ∷ [])) ≡ []
absent_octets = refl

-- SEQUENCE OF CHOICE { a BOOLEAN, o OCTET STRING (CONTAINING INTEGER (0..255)) }
abbrev pub in_a_list : Contents
in_a_list = in_elements (in_alternatives (part nowhere (part (in_octets 0) no_parts)))

pub second_element :
    places_in in_a_list [] (items (alternative 0 (truth true) ∷ alternative 1 (octet_list (hex "07")) ∷ []))
    ≡ one_content (1 ∷ 1 ∷ []) (Some 0) (hex "07") ∷ []
second_element = refl

-- SEQUENCE { id T.&id ({S}), v T.&Type ({S}{@id}) }, S of 1 BOOLEAN and 2 INTEGER (0..255), the first two types of the
-- table
abbrev pub of_two : Contents
of_two = selected 0 1 ((pos 1, 0) ∷ (pos 2, 1) ∷ []) false

pub a_truth_value :
    places_in of_two [] (entries (Some (number (pos 1)) ∷ Some (octet_list (hex "80")) ∷ []))
    ≡ one_content (1 ∷ []) (Some 0) (hex "80") ∷ []
a_truth_value = refl

pub a_number :
    places_in of_two [] (entries (Some (number (pos 2)) ∷ Some (octet_list (hex "07")) ∷ []))
    ≡ one_content (1 ∷ []) (Some 1) (hex "07") ∷ []
a_number = refl

pub no_type :
    places_in of_two [] (entries (Some (number (pos 3)) ∷ Some (octet_list (hex "00")) ∷ []))
    ≡ one_content (1 ∷ []) None (hex "00") ∷ []
no_type = refl

-- the same with a mark in S
abbrev pub of_two_or_more : Contents
of_two_or_more = selected 0 1 ((pos 1, 0) ∷ (pos 2, 1) ∷ []) true

pub any_octets : places_in of_two_or_more [] (entries (Some (number (pos 3)) ∷ Some (octet_list (hex "00")) ∷ [])) ≡ []
any_octets = refl

pub a_known_number :
    places_in of_two_or_more [] (entries (Some (number (pos 2)) ∷ Some (octet_list (hex "07")) ∷ []))
    ≡ one_content (1 ∷ []) (Some 1) (hex "07") ∷ []
a_known_number = refl

-- an open type, and an OCTET STRING in another component
pub two_contents :
    places_in (at_both of_two (in_components (part nowhere (part nowhere (part (in_octets 1) no_parts))))) []
    (entries (Some (number (pos 1)) ∷ Some (octet_list (hex "80")) ∷ Some (octet_list (hex "09")) ∷ []))
    ≡ one_content (1 ∷ []) (Some 0) (hex "80") ∷ one_content (2 ∷ []) (Some 1) (hex "09") ∷ []
two_contents = refl
