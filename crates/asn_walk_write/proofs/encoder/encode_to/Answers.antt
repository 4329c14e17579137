-- What was delivered is the encoding, or its first octets before a fault.
use Rattle.asn_values.specs.View.{shape_of, datum_of}
use Rattle.asn_walk_write.proofs.Deliveries.{encoded, interrupted}
use Rattle.asn_walk_write.proofs.encoder.encode_to.Goals as goal

pub returns-in-Ok-clause-written : goal.returns-in-Ok-clause-written
returns-in-Ok-clause-written g c =
    let t = shape_of c.get-inner.result.now in
    let v = datum_of c.args.value.now in
    let e = c.in_ok-length_of.ensures.encodable in
    let octets = c.keep_open_laws.ensures.octets t v e.of_profile e.of_type in
    rw (← c.get-inner.ensures.same) (encoded c.keep_write_laws.ensures t v e.of_profile e.of_type octets e.within c.in-Ok.ensures.ok)

pub returns-in-Err-clause-fault : goal.returns-in-Err-clause-fault
returns-in-Err-clause-fault g c =
    let t = shape_of c.get-inner.result.now in
    let v = datum_of c.args.value.now in
    let e = c.in_ok-length_of.ensures.encodable in
    let octets = c.keep_open_laws.ensures.octets t v e.of_profile e.of_type in
    rw (← c.get-inner.ensures.same)
    (interrupted c.keep_write_laws.ensures t v e.of_profile e.of_type octets e.within c.in-Err.sent c.in-Err.ensures.err)
