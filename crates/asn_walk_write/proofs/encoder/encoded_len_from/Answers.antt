-- The length of the octets of the complete encoding.
use Rattle.asn_walk_write.proofs.Deliveries.{lengths_told}
use Rattle.asn_walk_write.proofs.encoder.encoded_len_from.Goals as goal

pub returns-clause-length : goal.returns-clause-length
returns-clause-length g c =
    rw (← c.get.ensures.same)
    (lengths_told c.keep_write_laws.ensures c.keep_open_laws.ensures c.get.result.now (g.V.Source.datum c.args.value) c.length_of.result c.length_of.ensures.encodable c.length_of.ensures.length)
