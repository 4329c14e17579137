-- Sealed fields in PER are told by their units, whatever was read of them.
use Rattle.asn_bits.proofs.Octets.{octets_code}
use Rattle.asn_rules.proofs.Live.Chunks.{FieldsPart}
use Rattle.asn_rules.proofs.Law.PartingFields.{fields_part}
use Rattle.asn_per.specs.Per.{per_fields}
use Rattle.asn_per.proofs.Encodings.NotEmpty.{spelled_not_empty}

pub per_fields_part : FieldsPart per_fields
per_fields_part = fields_part per_fields (λ c d s t p q e. (octets_code c d s t p q e).0) spelled_not_empty
