use Rattle.std.proofs.lemmas.Result.{err_from_is_err_and}
use Rattle.asn_values.specs.View.{shape_of}
use Rattle.asn_convert.specs.Answers.{rulings}
use Rattle.asn_jobs.specs.Lines.{lines_of}
use Rattle.asn_convert.specs.Text.{terms, Told, IsBegun}
use Rattle.asn_convert.proofs.Streaming.{stopped_after}
use Rattle.asn_convert.proofs.Told.{told_begun}
use Rattle.asn_convert.proofs.coming.answer_held.Goals as goal

pub returns-in_err-put_through-clause-begun : goal.returns-in_err-put_through-clause-begun
returns-in_err-put_through-clause-begun g c =
    let w = terms (rulings g.A.Rules.ruling g.B.Rules.ruling g.A.OtherVersions.loose) c.args.rules c.args.order (shape_of c.args.planned.now) in
    let lines = lines_of c.args.held.now in
    let p = err_from_is_err_and c.from_residual-in_err-put_through.result c.from_residual-in_err-put_through.ensures.1 in
    rw (p.1, p.2) (stopped_after (λ out. Told w lines out c.in_ok-is_good.is_good) (λ out. IsBegun w lines out) _ _ _ _
    (λ out h. told_begun w lines out c.in_ok-is_good.is_good h) c.in_ok-is_good.ensures.told c.in_err-put_through.ensures.err)
