-- The octets of the complete encoding stand before those that were after them.
use Rattle.std.proofs.Common.{◌++◌, drop, ap, arith}
use Rattle.asn_values.specs.View.{datum_of}
use Rattle.asn_walk_write.proofs.Deliveries.{placed}
use Rattle.asn_walk_write.proofs.encoder.encode_into.Goals as goal

pub returns-clause-encoding : goal.returns-clause-encoding
returns-clause-encoding g c =
    let old = c.args.octets.now in
    let n = c.in_ok-length.length in
    rw (← c.get-inner.ensures.same)
    (placed c.keep_write_laws.ensures c.keep_open_laws.ensures c.get-inner.result.now (datum_of c.args.value.now) n old (c.fill.new.octets ++ drop n old)
    c.in_ok-length.ensures.encodable c.in_ok-length.ensures.length (omega arith) (ap (λ xs. xs ++ drop n old) c.fill.ensures))
