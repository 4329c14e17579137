use Rattle.serde_json.specs.View.{view}
use Rattle.asn_values.specs.View.{shape_of}
use Rattle.asn_json.specs.Errors.{bad, errors}
use Rattle.asn_json.proofs.Firsts.{never_of_bounds, refused_by}
use Rattle.asn_json.proofs.read.value_shown.Goals as goal

pub returns-in-Err-clause-refused : goal.returns-in-Err-clause-refused
returns-in-Err-clause-refused c =
    let t = shape_of c.args.ty.now in
    let j = view c.args.json.now in
    refused_by t j c.from_top.result (c.from_top.ensures (errors t j) (rw c.get.ensures.same at c.in-Err.ensures.refused))

pub returns-in-Err-clause-no_bounds : goal.returns-in-Err-clause-no_bounds
returns-in-Err-clause-no_bounds c =
    let t = shape_of c.args.ty.now in
    let j = view c.args.json.now in
    never_of_bounds (bad t j) c.from_top.result (c.from_top.ensures (errors t j) (rw c.get.ensures.same at c.in-Err.ensures.refused))
