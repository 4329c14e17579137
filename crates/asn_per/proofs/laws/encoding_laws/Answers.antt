use Rattle.asn_per.proofs.Encodings.Whole.{per_laws, per_encodes}
use Rattle.asn_per.proofs.laws.encoding_laws.Goals as goal

pub returns-clause-laws : goal.returns-clause-laws
returns-clause-laws c = per_laws

pub returns-clause-octets : goal.returns-clause-octets
returns-clause-octets c = per_encodes
