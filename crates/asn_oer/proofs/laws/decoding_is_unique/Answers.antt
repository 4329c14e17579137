use Rattle.asn_oer.proofs.Encodings.Whole.{octets_tell, one_value_octets, none_begins_octets, oer_part}
use Rattle.asn_oer.proofs.laws.decoding_is_unique.Goals as goal

pub returns-clause-octets : goal.returns-clause-octets
returns-clause-octets c = octets_tell

pub returns-clause-one_value : goal.returns-clause-one_value
returns-clause-one_value c = one_value_octets

pub returns-clause-none_begins : goal.returns-clause-none_begins
returns-clause-none_begins c = none_begins_octets

pub returns-clause-part : goal.returns-clause-part
returns-clause-part c = oer_part
