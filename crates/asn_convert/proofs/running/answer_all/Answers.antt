use Rattle.std.proofs.Common.{◌∙◌}
use Rattle.std.proofs.lemmas.Result.{err_from_is_err_and}
use Rattle.asn_values.specs.View.{shape_of}
use Rattle.asn_convert.specs.Answers.{rulings}
use Rattle.asn_jobs.specs.Lines.{lines_of}
use Rattle.asn_convert.specs.Text.{terms, IsBegun}
use Rattle.asn_convert.proofs.Streaming.{nothing_begun}
use Rattle.asn_convert.proofs.Told.{stops_memory}
use Rattle.asn_convert.proofs.running.answer_all.Goals as goal

pub returns-in_err-planned-clause-begun : goal.returns-in_err-planned-clause-begun
returns-in_err-planned-clause-begun g c =
    let w = terms (rulings g.A.Rules.ruling g.B.Rules.ruling g.A.OtherVersions.loose) c.args.rules c.args.order (shape_of c.args.ty.now) in
    let each = c.lines_have_answers.ensures c.args.order c.args.rules in
    let p = err_from_is_err_and c.from_residual.result c.from_residual.ensures.1 in
    rw p.1 (stops_memory _ (λ out. IsBegun w (lines_of c.args.lines.now) out) _ (p.2 ∙ c.in_err-planned.ensures.fault) (nothing_begun w each (lines_of c.args.lines.now)))
