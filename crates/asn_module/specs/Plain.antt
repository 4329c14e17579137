-- Types of which each DEFAULT is a BOOLEAN, a number or an item, as in the profile.
use Rattle.asn_values.specs.Datum.{Datum, truth, nothing, number, item}
use Rattle.asn_values.specs.Shape.{Shape, boolean, null, integer, enumerated, bit_string, octet_string, restricted}
use Rattle.asn_values.specs.Shape.{utf8_string, sequence, sequence_of, choice, Demand, must, optional, default, Fields}
use Rattle.asn_values.specs.Shape.{no_fields, field, MoreFields, closed, marked, Alternatives, no_alternatives, one_of}
use Rattle.asn_values.specs.Shape.{MoreAlternatives, closed_choice, marked_choice}

-- a value that a DEFAULT may have, and else no value
abbrev pub plain_value : Datum → Datum
plain_value (truth b) = truth b
plain_value (number z) = number z
plain_value (item p) = item p
plain_value _ = nothing

abbrev pub plain_demand : Demand → Demand
plain_demand must = must
plain_demand optional = optional
plain_demand (default d) = default (plain_value d)

abbrev mutual
  pub plain : Shape → Shape
  plain boolean = boolean
  plain null = null
  plain (integer b) = integer b
  plain (enumerated root more) = enumerated root more
  plain (bit_string s) = bit_string s
  plain (octet_string s) = octet_string s
  plain (restricted k s) = restricted k s
  plain utf8_string = utf8_string
  plain (sequence root more) = sequence (plain_fields root) (plain_more more)
  plain (sequence_of t s) = sequence_of (plain t) s
  plain (choice root more) = choice (plain_alternatives root) (plain_more_choice more)

  pub plain_fields : Fields → Fields
  plain_fields no_fields = no_fields
  plain_fields (field name d t fs) = field name (plain_demand d) (plain t) (plain_fields fs)

  pub plain_more : MoreFields → MoreFields
  plain_more closed = closed
  plain_more (marked fs) = marked (plain_fields fs)

  pub plain_alternatives : Alternatives → Alternatives
  plain_alternatives no_alternatives = no_alternatives
  plain_alternatives (one_of name t alts) = one_of name (plain t) (plain_alternatives alts)

  pub plain_more_choice : MoreAlternatives → MoreAlternatives
  plain_more_choice closed_choice = closed_choice
  plain_more_choice (marked_choice alts) = marked_choice (plain_alternatives alts)
