use Rattle.asn_values.proofs.LookUps.{component_found}
use Rattle.tulvorn_c.proofs.paths.component.Goals as goal

pub returns-in-Seq : goal.returns-in-Seq
returns-in-Seq c =
    component_found (λ r. r.now) c.first_of.result c.args.name.now c.args.ty.now c.in-Seq.root c.in-Seq.ext
    c.deref.result.now c.in-Seq.is c.deref.ensures.value c.first_of.ensures
