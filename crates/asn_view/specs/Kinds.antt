-- The kind of a type.
use Rattle.asn_values.specs.Shape.{Shape, boolean, null, integer, enumerated, bit_string, octet_string, restricted, utf8_string, sequence, sequence_of, choice}
use Rattle.asn_view.specs.declared.kind.Kind.{Kind}
use Rattle.asn_view.specs.declared.kind.Kind.TheVariants as kind

abbrev pub kind_of : Shape → Kind
kind_of boolean = kind.Boolean
kind_of null = kind.Null
kind_of (integer b) = kind.Integer
kind_of (enumerated root more) = kind.Enumerated
kind_of (bit_string s) = kind.BitString
kind_of (octet_string s) = kind.OctetString
kind_of (restricted k s) = kind.CharacterString
kind_of utf8_string = kind.CharacterString
kind_of (sequence root more) = kind.Sequence
kind_of (sequence_of t s) = kind.SequenceOf
kind_of (choice root more) = kind.Choice
