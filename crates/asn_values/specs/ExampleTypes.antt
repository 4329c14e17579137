-- The types and values that the worked examples share, each with its notation (X.680).
use Prim.Native.String.{String}
use Rattle.std.specs.Prelude.{◌+◌, ◌+ℤ◌, ◌-◌, ◌*◌, ℕ, zero, suc, ℤ, pos, negsuc, Bool, true, false, List, [], ◌∷◌, map, Option, Some, None, nat_lt, ◌==◌, codes}
use Rattle.asn_values.specs.Fits.{lowest_integer, highest_integer}
use Rattle.asn_values.specs.Datum.{Datum, truth, number, item, components, elements, components_of, elements_of}
use Rattle.asn_values.specs.Shape.{Range, SizeRange, ia5, Shape, boolean, null, integer, enumerated, octet_string, restricted, sequence, sequence_of, choice, Label, must, optional, default, closed_labels, marked_labels, Fields, no_fields, field, closed, marked, Alternatives, no_alternatives, one_of, closed_choice, marked_choice}

-- ---- octets and bits as text

-- a digit of 0 to 9 or A to F, by its code
abbrev pub hex_digit : ℕ → ℕ
hex_digit c = elim (nat_lt c 58) [ true ↦ c - 48 | false ↦ c - 55 ]

-- octets of two digits each, with one character between two of them
abbrev pub hex_octets : List ℕ → List ℕ
hex_octets (a ∷ b ∷ []) = (16 * hex_digit a + hex_digit b) ∷ []
hex_octets (a ∷ b ∷ space ∷ rest) = (16 * hex_digit a + hex_digit b) ∷ hex_octets rest
hex_octets _ = []

-- octets in hexadecimal, as "C0 40"
abbrev pub hex : String → List ℕ
hex text = hex_octets (codes text)

-- bits, as "101"
abbrev pub bits_of : String → List Bool
bits_of text = map (λ c. c == 49) (codes text)

-- ---- ranges and sizes

-- (low..high)
abbrev pub between : ℤ → ℤ → Range
between low high = record { low = Some low; high = Some high; extensible = false }

-- (low..MAX)
abbrev pub number_from : ℤ → Range
number_from low = record { low = Some low; high = None; extensible = false }

-- (MIN..high)
abbrev pub number_to : ℤ → Range
number_to high = record { low = None; high = Some high; extensible = false }

-- (MIN..MAX), as where no range is written
abbrev pub any_number : Range
any_number = record { low = None; high = None; extensible = false }

-- (low..high, ...)
abbrev pub between_or_more : ℤ → ℤ → Range
between_or_more low high = record { low = Some low; high = Some high; extensible = true }

-- SIZE (n)
abbrev pub exactly : ℕ → SizeRange
exactly n = record { low = n; high = Some n; extensible = false }

-- SIZE (low..high)
abbrev pub size_between : ℕ → ℕ → SizeRange
size_between low high = record { low = low; high = Some high; extensible = false }

-- SIZE (low..MAX)
abbrev pub size_from : ℕ → SizeRange
size_from low = record { low = low; high = None; extensible = false }

-- SIZE (0..MAX), as where no size is written
abbrev pub any_size : SizeRange
any_size = size_from 0

-- SIZE (low..high, ...)
abbrev pub size_between_or_more : ℕ → ℕ → SizeRange
size_between_or_more low high = record { low = low; high = Some high; extensible = true }

-- ---- components, alternatives and items

abbrev pub label : List ℕ → ℤ → Label
label n z = record { name = n; number = z }

-- one component that is always there
abbrev pub component : List ℕ → Shape → Fields → Fields
component name t rest = field name must t rest

-- one that is OPTIONAL
abbrev pub optional_component : List ℕ → Shape → Fields → Fields
optional_component name t rest = field name optional t rest

-- one with a DEFAULT
abbrev pub default_component : List ℕ → Datum → Shape → Fields → Fields
default_component name d t rest = field name (default d) t rest

-- n alternatives of one type; their names play no part in an encoding
abbrev pub alternatives_of : ℕ → Shape → Alternatives
alternatives_of zero t = no_alternatives
alternatives_of (suc n) t = one_of [] t (alternatives_of n t)

-- n OPTIONAL components of one type
abbrev pub optionals_of : ℕ → Shape → Fields
optionals_of zero t = no_fields
optionals_of (suc n) t = field [] optional t (optionals_of n t)

-- items with the numbers from first on
abbrev pub labels_from : ℕ → ℕ → List Label
labels_from first zero = []
labels_from first (suc n) = label [] (pos first) ∷ labels_from (suc first) n

-- ---- values

-- a SEQUENCE with these entries
abbrev pub entries : List (Option Datum) → Datum
entries es = components (components_of es)

-- a SEQUENCE OF with these elements
abbrev pub items : List Datum → Datum
items ds = elements (elements_of ds)

-- ---- types

-- SEQUENCE { id INTEGER (0..7), ok BOOLEAN DEFAULT TRUE, note IA5String (SIZE (0..3)) OPTIONAL }
abbrev pub note_type : Shape
note_type =
    sequence (component (codes "id") (integer (between (pos 0) (pos 7)))
    (default_component (codes "ok") (truth true) boolean
    (optional_component (codes "note") (restricted ia5 (size_between 0 3)) no_fields))) closed

-- SEQUENCE { id INTEGER (0..7), ok BOOLEAN DEFAULT TRUE, flag BOOLEAN OPTIONAL }
abbrev pub flag_type : Shape
flag_type =
    sequence (component (codes "id") (integer (between (pos 0) (pos 7)))
    (default_component (codes "ok") (truth true) boolean
    (optional_component (codes "flag") boolean no_fields))) closed

-- SEQUENCE { a BOOLEAN, ... }
abbrev pub marked_type : Shape
marked_type = sequence (component (codes "a") boolean no_fields) (marked no_fields)

-- SEQUENCE { a BOOLEAN, ..., b INTEGER (0..255) OPTIONAL }
abbrev pub extended_type : Shape
extended_type =
    sequence (component (codes "a") boolean no_fields)
    (marked (optional_component (codes "b") (integer (between (pos 0) (pos 255))) no_fields))

-- SEQUENCE { a BOOLEAN, ..., b INTEGER (0..255) OPTIONAL, c OCTET STRING OPTIONAL }
abbrev pub twice_extended_type : Shape
twice_extended_type =
    sequence (component (codes "a") boolean no_fields)
    (marked (optional_component (codes "b") (integer (between (pos 0) (pos 255)))
    (optional_component (codes "c") (octet_string any_size) no_fields)))

-- SEQUENCE { a BOOLEAN, ..., n NULL OPTIONAL }
abbrev pub null_addition_type : Shape
null_addition_type = sequence (component (codes "a") boolean no_fields)
    (marked (optional_component (codes "n") null no_fields))

-- SEQUENCE { p BOOLEAN, ..., q INTEGER (0..255) OPTIONAL }
abbrev pub inner_type : Shape
inner_type =
    sequence (component (codes "p") boolean no_fields)
    (marked (optional_component (codes "q") (integer (between (pos 0) (pos 255))) no_fields))

-- SEQUENCE { a BOOLEAN, ..., b SEQUENCE { p BOOLEAN, ..., q INTEGER (0..255) OPTIONAL } OPTIONAL, c BOOLEAN OPTIONAL }
abbrev pub outer_type : Shape
outer_type =
    sequence (component (codes "a") boolean no_fields)
    (marked (optional_component (codes "b") inner_type (optional_component (codes "c") boolean no_fields)))

-- CHOICE { x NULL, y BOOLEAN, z INTEGER (0..3), ..., w OCTET STRING }
abbrev pub extended_choice : Shape
extended_choice =
    choice (one_of (codes "x") null
    (one_of (codes "y") boolean (one_of (codes "z") (integer (between (pos 0) (pos 3))) no_alternatives)))
    (marked_choice (one_of (codes "w") (octet_string any_size) no_alternatives))

-- CHOICE { x NULL, y BOOLEAN, z INTEGER (0..3) }
abbrev pub closed_choice_type : Shape
closed_choice_type =
    choice (one_of (codes "x") null
    (one_of (codes "y") boolean (one_of (codes "z") (integer (between (pos 0) (pos 3))) no_alternatives)))
    closed_choice

-- ENUMERATED { red(0), green(5), blue(200), ..., grey(300) }
abbrev pub colours : Shape
colours =
    enumerated (label (codes "red") (pos 0) ∷ label (codes "green") (pos 5) ∷ label (codes "blue") (pos 200) ∷ [])
    (marked_labels (label (codes "grey") (pos 300) ∷ []))

-- ENUMERATED { high(9), low(-9), middle(0) }, its numbers not in the order as written
abbrev pub unsorted_items : List Label
unsorted_items = label (codes "high") (pos 9) ∷ label (codes "low") (negsuc 8) ∷ label (codes "middle") (pos 0) ∷ []

abbrev pub unsorted_enumeration : Shape
unsorted_enumeration = enumerated unsorted_items closed_labels

-- ENUMERATED { a(0), ..., e0(1), .., e199(200) }, which has more additions than the profile allows
abbrev pub many_items : Shape
many_items = enumerated (label (codes "a") (pos 0) ∷ []) (marked_labels (labels_from 1 200))

-- CHOICE { r0 BOOLEAN, .., r99 BOOLEAN, ..., x0 BOOLEAN, .., x99 BOOLEAN }, which has more alternatives than that
abbrev pub many_alternatives : Shape
many_alternatives = choice (alternatives_of 100 boolean) (marked_choice (alternatives_of 100 boolean))

-- SEQUENCE { n INTEGER (0..3) DEFAULT 2, e ENUMERATED { a(0), b(1) } DEFAULT b }
abbrev pub default_type : Shape
default_type =
    sequence (default_component (codes "n") (number (pos 2)) (integer (between (pos 0) (pos 3)))
    (default_component (codes "e") (item 1)
    (enumerated (label (codes "a") (pos 0) ∷ label (codes "b") (pos 1) ∷ []) closed_labels) no_fields)) closed

-- SEQUENCE { n INTEGER DEFAULT -5 }
abbrev pub negative_default_type : Shape
negative_default_type =
    sequence (default_component (codes "n") (number (negsuc 4)) (integer any_number) no_fields) closed

-- SEQUENCE { b BOOLEAN DEFAULT FALSE }
abbrev pub false_default_type : Shape
false_default_type = sequence (default_component (codes "b") (truth false) boolean no_fields) closed

-- n lists around a type
abbrev pub lists_around : ℕ → Shape → Shape
lists_around zero t = t
lists_around (suc n) t = sequence_of (lists_around n t) any_size

-- and n CHOICEs of one alternative around it
abbrev pub choices_around : ℕ → Shape → Shape
choices_around zero t = t
choices_around (suc n) t = choice (one_of (codes "a") (choices_around n t) no_alternatives) closed_choice

-- a SEQUENCE of n BOOLEANs, each OPTIONAL
abbrev pub truths : ℕ → Shape
truths n = sequence (optionals_of n boolean) closed

-- a type of 99998 + n nodes
abbrev pub large_type : ℕ → Shape
large_type n =
    sequence (component [] (sequence (optionals_of 24 (sequence (optionals_of 64 (truths 64)) closed)) closed)
    (component [] (sequence (optionals_of 2 (truths 64)) closed)
    (component [] (truths n) no_fields))) closed

-- BOOLEAN, and n times a SEQUENCE with two components of the type before
abbrev pub doubled : ℕ → Shape
doubled zero = boolean
doubled (suc n) = sequence (component (codes "a") (doubled n) (component (codes "b") (doubled n) no_fields)) closed

-- ---- past the limits

-- the integer after the highest of the profile, and the one before the lowest
abbrev pub past_the_highest : ℤ
past_the_highest = highest_integer +ℤ pos 1

abbrev pub before_the_lowest : ℤ
before_the_lowest = lowest_integer +ℤ negsuc 0
