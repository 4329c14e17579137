-- Constraints of published types, each with its notation (X.680), and values that meet them or do not.
use Rattle.std.specs.Prelude.{◌≡◌, ◌∷◌, [], pos, true, false, Some, None, codes, refl}
use Rattle.asn_values.specs.Datum.{truth, nothing, number, item, bit_list, characters, unicode, alternative}
use Rattle.asn_values.specs.ExampleTypes.{hex, bits_of, entries, items}
use Rattle.asn_constraints.specs.Times.{utc, generalized}
use Rattle.asn_constraints.specs.Constraints as constraints
use Rattle.asn_constraints.specs.Constraints.{Constraint, any, must_be, must_not_be, free, barred, both, either, numbers, lengths, alphabet, trimmed, time, except, on_components, other_components_free, on_component, on_elements, on_alternatives, other_alternatives_barred, on_alternative, some_present, meets}

-- ---- a DEFAULT that is written out

-- SEQUENCE { n BIT STRING { app(0), enroll(1) } (SIZE (8)) DEFAULT {app}, b BOOLEAN }, n being OPTIONAL in the profile
abbrev pub permissions : Constraint
permissions = on_components (on_component any (except (bit_list (bits_of "10000000"))) other_components_free)

pub default_written_out : meets permissions (entries (Some (bit_list (bits_of "10000000")) ∷ Some (truth true) ∷ [])) ≡ false
default_written_out = refl

pub default_left_out : meets permissions (entries (None ∷ Some (truth true) ∷ [])) ≡ true
default_left_out = refl

pub another_value : meets permissions (entries (Some (bit_list (bits_of "11000000")) ∷ Some (truth true) ∷ [])) ≡ true
another_value = refl

-- SEQUENCE { f ENUMERATED { fc0, fc1, fc2, fc3, fc4, fc5, ... } DEFAULT fc4, b BOOLEAN }
abbrev pub filter : Constraint
filter = on_components (on_component any (except (item 4)) other_components_free)

pub filter_written_out : meets filter (entries (Some (item 4) ∷ Some (truth true) ∷ [])) ≡ false
filter_written_out = refl

pub another_filter : meets filter (entries (Some (item 2) ∷ Some (truth true) ∷ [])) ≡ true
another_filter = refl

-- ---- a group without components

-- SEQUENCE { a BOOLEAN, ..., [[ b INTEGER (0..255) OPTIONAL, c BOOLEAN DEFAULT FALSE ]] }: the group is an OPTIONAL
-- addition, a SEQUENCE of two OPTIONAL components, of which one is there
abbrev pub group : Constraint
group = both some_present (on_components (on_component any free (on_component any (except (truth false)) other_components_free)))

abbrev pub grouped : Constraint
grouped = on_components (on_component any free (on_component any group other_components_free))

pub no_group : meets grouped (entries (Some (truth true) ∷ None ∷ [])) ≡ true
no_group = refl

pub empty_group : meets grouped (entries (Some (truth true) ∷ Some (entries (None ∷ None ∷ [])) ∷ [])) ≡ false
empty_group = refl

pub group_of_a_number : meets grouped (entries (Some (truth true) ∷ Some (entries (Some (number (pos 7)) ∷ None ∷ [])) ∷ [])) ≡ true
group_of_a_number = refl

pub group_of_the_default : meets grouped (entries (Some (truth true) ∷ Some (entries (None ∷ Some (truth false) ∷ [])) ∷ [])) ≡ false
group_of_the_default = refl

-- ---- sizes, gaps and alphabets

-- UTF8String (SIZE (1..2))
abbrev pub short_text : Constraint
short_text = lengths ((1, Some 2) ∷ [])

pub two_characters : meets short_text (unicode (hex "C3 A9 E2 82 AC")) ≡ true
two_characters = refl

pub three_characters : meets short_text (unicode (hex "61 61 61")) ≡ false
three_characters = refl

-- INTEGER (2..4 | 6..8)
abbrev pub with_a_gap : Constraint
with_a_gap = numbers ((pos 2, pos 4) ∷ (pos 6, pos 8) ∷ [])

pub in_the_gap : meets with_a_gap (number (pos 5)) ≡ false
in_the_gap = refl

pub after_the_gap : meets with_a_gap (number (pos 6)) ≡ true
after_the_gap = refl

-- ENUMERATED { red, green, blue } (red | blue)
abbrev pub two_colours : Constraint
two_colours = constraints.items (0 ∷ 2 ∷ [])

pub barred_colour : meets two_colours (item 1) ≡ false
barred_colour = refl

pub last_colour : meets two_colours (item 2) ≡ true
last_colour = refl

-- IA5String (FROM ("0".."9" | "A".."F")): codes 48 to 57 and 65 to 70
abbrev pub hexadecimal : Constraint
hexadecimal = alphabet ((pos 48, pos 57) ∷ (pos 65, pos 70) ∷ [])

pub digits_and_letters : meets hexadecimal (characters (codes "3F")) ≡ true
digits_and_letters = refl

pub small_letter : meets hexadecimal (characters (codes "3f")) ≡ false
small_letter = refl

-- ---- named bits

-- BIT STRING { a(0), b(1) }
pub last_zero : meets (trimmed 0) (bit_list (bits_of "110")) ≡ false
last_zero = refl

pub two_bits : meets (trimmed 0) (bit_list (bits_of "11")) ≡ true
two_bits = refl

pub no_bits : meets (trimmed 0) (bit_list []) ≡ true
no_bits = refl

-- BIT STRING { first(0), last(7) } (SIZE (2..8)): no bit fewer than two
pub two_zeros : meets (trimmed 2) (bit_list (bits_of "00")) ≡ true
two_zeros = refl

-- ---- inner subtyping

-- SEQUENCE { a BOOLEAN OPTIONAL, b INTEGER (0..7) OPTIONAL }
-- (WITH COMPONENTS { a PRESENT, b ABSENT } | WITH COMPONENTS { a ABSENT, b (0..3) })
abbrev pub correlated : Constraint
correlated =
    either (on_components (on_component must_be free (on_component must_not_be free other_components_free)))
    (on_components (on_component must_not_be free (on_component any (numbers ((pos 0, pos 3) ∷ [])) other_components_free)))

pub both_present : meets correlated (entries (Some (truth true) ∷ Some (number (pos 2)) ∷ [])) ≡ false
both_present = refl

pub first_side : meets correlated (entries (Some (truth true) ∷ None ∷ [])) ≡ true
first_side = refl

pub second_side : meets correlated (entries (None ∷ Some (number (pos 2)) ∷ [])) ≡ true
second_side = refl

pub too_large : meets correlated (entries (None ∷ Some (number (pos 5)) ∷ [])) ≡ false
too_large = refl

-- ---- lists and choices

-- SEQUENCE OF INTEGER (2..4 | 6..8)
pub a_gap_in_a_list : meets (on_elements with_a_gap) (items (number (pos 3) ∷ number (pos 5) ∷ [])) ≡ false
a_gap_in_a_list = refl

pub a_list : meets (on_elements with_a_gap) (items (number (pos 3) ∷ number (pos 8) ∷ [])) ≡ true
a_list = refl

-- CHOICE { a NULL, b INTEGER (2..4 | 6..8), c NULL, d NULL } (WITH COMPONENTS { ..., c ABSENT, d ABSENT })
abbrev pub choice_of_two : Constraint
choice_of_two = on_alternatives (on_alternative free (on_alternative with_a_gap (on_alternative barred other_alternatives_barred)))

pub first_alternative : meets choice_of_two (alternative 0 nothing) ≡ true
first_alternative = refl

pub gap_in_the_second : meets choice_of_two (alternative 1 (number (pos 5))) ≡ false
gap_in_the_second = refl

pub barred_alternative : meets choice_of_two (alternative 2 nothing) ≡ false
barred_alternative = refl

pub alternative_after_the_last : meets choice_of_two (alternative 3 nothing) ≡ false
alternative_after_the_last = refl

-- ---- times

-- UTCTime
pub a_time : meets (time utc) (characters (codes "211130113400Z")) ≡ true
a_time = refl

pub a_time_without_seconds : meets (time utc) (characters (codes "2111301134Z")) ≡ false
a_time_without_seconds = refl

pub a_time_with_an_offset : meets (time utc) (characters (codes "211130113400+0100")) ≡ false
a_time_with_an_offset = refl

pub the_thirteenth_month : meets (time utc) (characters (codes "211330113400Z")) ≡ false
the_thirteenth_month = refl

pub the_hour_24 : meets (time utc) (characters (codes "211130240000Z")) ≡ false
the_hour_24 = refl

-- GeneralizedTime
pub a_long_time : meets (time generalized) (characters (codes "20211130113400Z")) ≡ true
a_long_time = refl

pub a_fraction : meets (time generalized) (characters (codes "20211130113400.25Z")) ≡ true
a_fraction = refl

pub a_last_zero : meets (time generalized) (characters (codes "20211130113400.250Z")) ≡ false
a_last_zero = refl

pub a_point_alone : meets (time generalized) (characters (codes "20211130113400.Z")) ≡ false
a_point_alone = refl

pub a_comma : meets (time generalized) (characters (codes "20211130113400,25Z")) ≡ false
a_comma = refl

pub a_local_time : meets (time generalized) (characters (codes "20211130113400")) ≡ false
a_local_time = refl
