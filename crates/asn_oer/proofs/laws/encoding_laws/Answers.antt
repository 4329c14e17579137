use Rattle.asn_oer.proofs.Encodings.Whole.{oer_laws, oer_encodes}
use Rattle.asn_oer.proofs.laws.encoding_laws.Goals as goal

pub returns-clause-laws : goal.returns-clause-laws
returns-clause-laws c = oer_laws

pub returns-clause-octets : goal.returns-clause-octets
returns-clause-octets c = oer_encodes
