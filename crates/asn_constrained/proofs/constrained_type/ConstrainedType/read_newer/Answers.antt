use Rattle.asn_values.specs.View.{shape_of}
use Rattle.asn_constraints.specs.View.{constraint_of}
use Rattle.asn_constrained.proofs.Reading.{judged_read}
use Rattle.asn_constrained.proofs.constrained_type.ConstrainedType.read_newer.Goals as goal

pub returns-in-Err : goal.returns-in-Err
returns-in-Err g c = rw (← c.ty.ensures) c.in-Err.ensures.fault

pub returns-in-Ok : goal.returns-in-Ok
returns-in-Ok g c =
    judged_read g.R.OtherVersions.loose (shape_of c.args.self.now.planned) (constraint_of c.args.self.now.constraint.value) c.args.octets.now c.in-Ok.newer c.judged_newer.result
    (rw (← c.ty.ensures) c.in-Ok.ensures.read)
    (rw (← c.constraint.ensures) c.judged_newer.ensures)
