use Rattle.asn_values.specs.View.{datum_of, shape_of}
use Rattle.asn_look.proofs.Laid.{reads_as}
use Rattle.asn_look.proofs.laying.value_text.Goals as goal

pub returns-in-Ok : goal.returns-in-Ok
returns-in-Ok c = reads_as c.laid_out.result (shape_of c.args.ty.now) (datum_of c.args.value.now) _ c.in-Ok.ensures.written.is c.laid_out.ensures.same
