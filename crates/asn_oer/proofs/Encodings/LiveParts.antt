-- In OER, live by units and sealed fields is live chunk by chunk.
use Rattle.std.proofs.Common.{[], ◌∷◌, refl, arith}
use Rattle.asn_rules.specs.Chunks.{open_field, utf8_field}
use Rattle.asn_rules.specs.Laws.{LiveByParts}
use Rattle.asn_rules.specs.Live.{Free}
use Rattle.asn_rules.proofs.Live.Fronts.{live_iff}
use Rattle.asn_rules.proofs.Octets.OctetFields.{some_octets}
use Rattle.asn_oer.specs.Oer.{oer, oer_fields}
use Rattle.asn_oer.proofs.Law.GoodTypes.{good}
use Rattle.asn_oer.proofs.Encodings.SpeltTypes.{oer_spelt, few_levels}

-- a field of one octet 0 begins
pub open_starts : Free oer_fields open_field []
open_starts = (0 ∷ [], (omega arith, omega arith, (omega arith, tt)), (1, 0 ∷ [], refl))

-- and so does a UTF8String
pub utf8_starts : Free oer_fields utf8_field []
utf8_starts = (0 ∷ [], (omega arith, omega arith, (omega arith, tt)), (1, 0 ∷ [], refl))

-- the two forms of live are one
pub oer_live : LiveByParts oer_fields oer
oer_live t h b = live_iff oer_fields open_starts utf8_starts some_octets oer t (λ d f. (oer_spelt t (good t h) (few_levels t h) d f).held) b
