use Rattle.std.proofs.Common.{◌<◌, length, take, arith}
use Rattle.asn_values.specs.View.{shape_of, datum_of}
use Rattle.asn_rules.specs.Answer.{done, max_octets}
use Rattle.asn_rules.proofs.FrontMessages.{whole_decoded}
use Rattle.asn_constraints.specs.View.{constraint_of}
use Rattle.asn_constrained.specs.Under.{AnswerUnder}
use Rattle.asn_constrained.proofs.codec.decode_into_under.Goals as goal

pub returns-else-used-octets-clause-done : goal.returns-else-used-octets-clause-done
returns-else-used-octets-clause-done g c =
    let r = g.R.Rules.ruling in
    let t = shape_of c.args.ty.now in
    let o = c.args.octets.now in
    let v = c.decode_front_into_under.new.value in
    let met : AnswerUnder r t (constraint_of c.args.constraint.now) (take max_octets o) (done (datum_of v) c.in-Ok.used) = rw c.in-Ok.is at c.decode_front_into_under.ensures in
    let here = whole_decoded r t o v c.in-Ok.used met.0 (λ (l : c.in-Ok.used < length o). omega (arith, l, c.if-used-octets.false)) in
    (here.0, (here.1, met.1))
