use Rattle.asn_per.proofs.Encodings.Whole.{bits_tell, per_parts, one_value_octets, none_begins_octets}
use Rattle.asn_per.proofs.laws.decoding_is_unique.Goals as goal

pub returns-clause-bits : goal.returns-clause-bits
returns-clause-bits c = bits_tell

pub returns-clause-one_value : goal.returns-clause-one_value
returns-clause-one_value c = one_value_octets

pub returns-clause-none_begins : goal.returns-clause-none_begins
returns-clause-none_begins c = none_begins_octets

pub returns-clause-part : goal.returns-clause-part
returns-clause-part c = per_parts
