use Rattle.std.proofs.Common.{◌<◌, Ok, Err, length, arith}
use Rattle.asn_values.specs.View.{shape_of}
use Rattle.asn_rules.specs.Codec.{DecodedFront}
use Rattle.asn_rules.proofs.FrontMessages.{whole_decoded, rest_decoded, fault_decoded}
use Rattle.asn_walk_into.proofs.decoder.decode_into.Goals as goal

pub returns-else-used-octets-clause-done : goal.returns-else-used-octets-clause-done
returns-else-used-octets-clause-done g c =
    let t = shape_of c.args.ty.now in
    let o = c.args.octets.now in
    let v = c.decode_front_into.new.value in
    let told : DecodedFront g.R.ReadLeaves.rules.ruling (Ok c.in-Ok.used) v t o = rw c.in-Ok.is at c.decode_front_into.ensures in
    whole_decoded g.R.ReadLeaves.rules.ruling t o v c.in-Ok.used told (λ (l : c.in-Ok.used < length o). omega (arith, l, c.if-used-octets.false))

pub returns-then-used-octets-clause-fault : goal.returns-then-used-octets-clause-fault
returns-then-used-octets-clause-fault g c =
    let t = shape_of c.args.ty.now in
    let o = c.args.octets.now in
    let v = c.decode_front_into.new.value in
    let told : DecodedFront g.R.ReadLeaves.rules.ruling (Ok c.in-Ok.used) v t o = rw c.in-Ok.is at c.decode_front_into.ensures in
    rest_decoded g.R.ReadLeaves.rules.ruling t o v c.in-Ok.used told (omega (arith, c.if-used-octets.true))

pub returns-in-Err-clause-fault : goal.returns-in-Err-clause-fault
returns-in-Err-clause-fault g c =
    let t = shape_of c.args.ty.now in
    let o = c.args.octets.now in
    let v = c.decode_front_into.new.value in
    let told : DecodedFront g.R.ReadLeaves.rules.ruling (Err c.in-Err.fault) v t o = rw c.in-Err.is at c.decode_front_into.ensures in
    fault_decoded g.R.ReadLeaves.rules.ruling t o v c.in-Err.fault told
