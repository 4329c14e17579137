-- What the encodings of each kind of type consist of in Canonical OER, in the terms of X.696: the parts one after the
-- other spell each value as its encoding does, and nothing else.
use Rattle.std.specs.Prelude.{List, [], ◌∷◌, ◌++◌, Option}
use Rattle.asn_values.specs.Datum.{Datum}
use Rattle.asn_values.specs.Shape.{Range, SizeRange, Alphabet, Shape, boolean, null, integer, enumerated, bit_string, octet_string, restricted, utf8_string, sequence, sequence_of, choice, Label, MoreLabels, more_labels, Fields, MoreFields, Alternatives, MoreAlternatives}
use Rattle.asn_values.specs.Fits.{Fits}
use Rattle.asn_values.specs.Profile.{InProfile}
use Rattle.asn_rules.specs.Forks.{Same}
use Rattle.asn_rules.specs.Languages.{Map, Plain}
use Rattle.asn_rules.specs.Listed.{IsOther, Spelt}
use Rattle.asn_bits.specs.Sets.{InDigits, Among}
use Rattle.asn_rules.specs.Spellings.{SpelledBy}
use Rattle.asn_oer.specs.Oer.{oer, an_open_field}
use Rattle.asn_oer.specs.SimpleTypes.{truth_told, Booleans, Nulls, Integers, IsNumberOf, ItemNumbers, item_told, Items}
use Rattle.asn_oer.specs.Strings.{BitStrings, OctetStrings, CharacterStrings, Utf8Strings}
use Rattle.asn_oer.specs.Constructed.{Values, InOpenField, Lists, Choices}
use Rattle.asn_oer.specs.Sequences.{Sequences}

-- "encoding of boolean types": one octet, 0 or 255
abbrev pub BooleansCompose : Type 0
BooleansCompose = Same Booleans (Values boolean)

-- "encoding of null types": no octets
abbrev pub NullsCompose : Type 0
NullsCompose = Same Nulls (Values null)

-- "encoding of integer types": 1, 2, 4 or 8 octets, or a length and the fewest octets, by the bounds
abbrev pub IntegersCompose : Type 0
IntegersCompose = (b : Range) → InProfile (integer b) → Same (Integers b) (Values (integer b))

-- "encoding of enumerated types": one octet, or 128 with a count and as many octets
abbrev pub EnumeratedCompose : Type 0
EnumeratedCompose =
    (root : List Label) (more : MoreLabels) → InProfile (enumerated root more)
    → Same (Items (root ++ more_labels more)) (Values (enumerated root more))

-- "encoding of bit string types": octets of which the last ends in zeros, after a length and the number of unused bits
-- where the size is not fixed
abbrev pub BitStringsCompose : Type 0
BitStringsCompose = (s : SizeRange) → InProfile (bit_string s) → Same (BitStrings s) (Values (bit_string s))

-- "encoding of octet string types": the octets, after their length where the size is not fixed
abbrev pub OctetStringsCompose : Type 0
OctetStringsCompose = (s : SizeRange) → InProfile (octet_string s) → Same (OctetStrings s) (Values (octet_string s))

-- "encoding of restricted character string types": an octet a character, likewise
abbrev pub CharacterStringsCompose : Type 0
CharacterStringsCompose =
    (k : Alphabet) (s : SizeRange) → InProfile (restricted k s) → Same (CharacterStrings k s) (Values (restricted k s))

-- the same for UTF8String: a length and octets that are UTF-8
abbrev pub Utf8StringsCompose : Type 0
Utf8StringsCompose = Same Utf8Strings (Values utf8_string)

-- "encoding of sequence-of types": a quantity, and as many elements
abbrev pub ListsCompose : Type 0
ListsCompose = (t : Shape) (s : SizeRange) → Same (Lists t s) (Values (sequence_of t s))

-- "encoding of sequence types": a preamble, the components under its presence bits, and after the extension bit the
-- additions, as a bitmap and open fields
abbrev pub SequencesCompose : Type 0
SequencesCompose =
    (root : Fields) (more : MoreFields) → InProfile (sequence root more)
    → Same (Sequences root more) (Values (sequence root more))

-- "encoding of choice types": a tag, and a value of its alternative, of an addition in an open field
abbrev pub ChoicesCompose : Type 0
ChoicesCompose =
    (root : Alternatives) (more : MoreAlternatives) → InProfile (choice root more)
    → Same (Choices root more) (Values (choice root more))

-- "open type": a length and the octets of an encoding
abbrev pub OpenFieldsCompose : Type 0
OpenFieldsCompose = (t : Shape) → InProfile t → Same (InOpenField t) (SpelledBy (Fits t) (λ v. an_open_field (oer t v)))

-- ---- components with a DEFAULT, which is not spelt: the values but for one

-- BOOLEAN but for one value
abbrev pub BooleansButOne : Type 0
BooleansButOne =
    (e : Option Datum)
    → Same
    (Map truth_told (Plain (InDigits 256 1 (λ n. Among ((0, 0) ∷ (255, 255) ∷ []) n × IsOther e (truth_told n)))))
    (Spelt oer e boolean)

-- ENUMERATED but for one item
abbrev pub EnumeratedButOne : Type 0
EnumeratedButOne =
    (root : List Label) (more : MoreLabels) (e : Option Datum) → InProfile (enumerated root more) →
    Same (Map (item_told (root ++ more_labels more)) (ItemNumbers
    (λ z. IsNumberOf (root ++ more_labels more) z × IsOther e (item_told (root ++ more_labels more) z))))
    (Spelt oer e (enumerated root more))

-- ---- all of them

pub record KindsCompose : Type 0 where
  pub boolean_kind : BooleansCompose
  pub null_kind : NullsCompose
  pub integer_kind : IntegersCompose
  pub enumerated_kind : EnumeratedCompose
  pub bit_string_kind : BitStringsCompose
  pub octet_string_kind : OctetStringsCompose
  pub character_string_kind : CharacterStringsCompose
  pub utf8_string_kind : Utf8StringsCompose
  pub sequence_of_kind : ListsCompose
  pub sequence_kind : SequencesCompose
  pub choice_kind : ChoicesCompose
  pub open_field_kind : OpenFieldsCompose
  pub boolean_but_one_kind : BooleansButOne
  pub enumerated_but_one_kind : EnumeratedButOne
