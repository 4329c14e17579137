use Rattle.asn_values.proofs.LookUps.{alternative_found}
use Rattle.tulvorn_c.proofs.paths.alternative.Goals as goal

pub returns-in-Choice : goal.returns-in-Choice
returns-in-Choice c =
    alternative_found (λ r. r.now) c.first_of.result c.args.name.now c.args.ty.now c.in-Choice.root c.in-Choice.ext
    c.deref.result.now c.in-Choice.is c.deref.ensures.value c.first_of.ensures
