use Rattle.std.proofs.Common.{Ok, Some, length}
use Rattle.asn_values.specs.View.{shape_of, datum_of}
use Rattle.asn_rules.specs.Codec.{Decoded}
use Rattle.asn_constraints.specs.View.{constraint_of}
use Rattle.asn_constrained.specs.Under.{Judged}
use Rattle.asn_constrained.proofs.Faults.{judged_whole}
use Rattle.asn_constrained.proofs.planned.decode_into_by_plan.Goals as goal

pub returns-in-Some-clause-fault : goal.returns-in-Some-clause-fault
returns-in-Some-clause-fault g c =
    let r = g.R.Rules.ruling in
    let t = shape_of c.args.planned.now in
    let k = constraint_of c.args.constraint.now in
    let o = c.args.octets.now in
    let v = c.decode_into.new.value in
    let decoded : Decoded r (Ok v) t o = rw c.in-Ok.is at c.decode_into.ensures.done in
    let judged : Judged k (datum_of v) (length o) (Some c.in-Some.fault) = rw c.in-Some.is at c.why_broken.ensures in
    judged_whole r t k o v c.in-Some.fault decoded judged
