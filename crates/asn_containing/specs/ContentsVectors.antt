-- Worked encodings of types with contents, in PER (X.691) and OER (X.696): the octets in a value are an encoding by the
-- same rules.
use Rattle.std.specs.Prelude.{◌≡◌, ◌∷◌, [], pos, true, Some, codes, refl}
use Rattle.asn_values.specs.Datum.{truth, number, octet_list, components, no_components}
use Rattle.asn_values.specs.Shape.{Shape, boolean, integer, octet_string, sequence, must, no_fields, field, closed}
use Rattle.asn_values.specs.ExampleTypes.{hex, entries, between, any_size}
use Rattle.asn_per.specs.Per.{per_octets}
use Rattle.asn_oer.specs.Oer.{oer_octets}

-- INTEGER (0..255)
abbrev pub byte : Shape
byte = integer (between (pos 0) (pos 255))

-- SEQUENCE { a BOOLEAN, o OCTET STRING }
abbrev pub flagged : Shape
flagged = sequence (field (codes "a") must boolean (field (codes "o") must (octet_string any_size) no_fields)) closed

-- o OCTET STRING (CONTAINING INTEGER (0..255)): 1, 00000001, 00000111
per_of_a_number : per_octets flagged (entries (Some (truth true) ∷ Some (octet_list (per_octets byte (number (pos 7)))) ∷ [])) ≡ hex "80 83 80"
per_of_a_number = refl

oer_of_a_number : oer_octets flagged (entries (Some (truth true) ∷ Some (octet_list (oer_octets byte (number (pos 7)))) ∷ [])) ≡ hex "FF 01 07"
oer_of_a_number = refl

-- two octets, of which the first is the number: no encoding of it
per_of_two_octets : per_octets flagged (entries (Some (truth true) ∷ Some (octet_list (hex "07 00")) ∷ [])) ≡ hex "81 03 80 00"
per_of_two_octets = refl

oer_of_two_octets : oer_octets flagged (entries (Some (truth true) ∷ Some (octet_list (hex "07 00")) ∷ [])) ≡ hex "FF 02 07 00"
oer_of_two_octets = refl

-- OCTET STRING (CONTAINING SEQUENCE { }): an octet in PER, none in OER
per_of_nothing : per_octets (octet_string any_size) (octet_list (per_octets (sequence no_fields closed) (components no_components))) ≡ hex "01 00"
per_of_nothing = refl

oer_of_nothing : oer_octets (octet_string any_size) (octet_list (oer_octets (sequence no_fields closed) (components no_components))) ≡ hex "00"
oer_of_nothing = refl

-- OCTET STRING (CONTAINING OCTET STRING (CONTAINING BOOLEAN))
per_twice : per_octets (octet_string any_size) (octet_list (per_octets (octet_string any_size) (octet_list (per_octets boolean (truth true))))) ≡ hex "02 01 80"
per_twice = refl

oer_twice : oer_octets (octet_string any_size) (octet_list (oer_octets (octet_string any_size) (octet_list (oer_octets boolean (truth true))))) ≡ hex "02 01 FF"
oer_twice = refl

-- SEQUENCE { id INTEGER (0..255), v OCTET STRING }, v the BOOLEAN of id 1
abbrev pub open_type : Shape
open_type = sequence (field (codes "id") must byte (field (codes "v") must (octet_string any_size) no_fields)) closed

per_of_an_open_type : per_octets open_type (entries (Some (number (pos 1)) ∷ Some (octet_list (per_octets boolean (truth true))) ∷ [])) ≡ hex "01 01 80"
per_of_an_open_type = refl

oer_of_an_open_type : oer_octets open_type (entries (Some (number (pos 1)) ∷ Some (octet_list (oer_octets boolean (truth true))) ∷ [])) ≡ hex "01 01 FF"
oer_of_an_open_type = refl
