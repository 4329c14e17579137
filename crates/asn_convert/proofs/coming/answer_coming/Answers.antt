use Rattle.std.proofs.Common.{rules}
use Rattle.std.proofs.lemmas.Result.{err_from_is_err_and}
use Rattle.asn_values.specs.View.{shape_of}
use Rattle.asn_rules.specs.Faults.{state_of}
use Rattle.asn_module.specs.ModuleView.{types_view}
use Rattle.asn_convert.specs.Answers.{rulings}
use Rattle.asn_convert.specs.Coming.{HasNoTypeFor, IsTypeFor}
use Rattle.asn_jobs.specs.Lines.{lines_of}
use Rattle.asn_convert.specs.Text.{terms, IsBegun, TellsBegun}
use Rattle.asn_convert.proofs.Streaming.{begun_lines, module_stopped, module_told, within_so}
use Rattle.asn_convert.proofs.coming.answer_coming.Goals as goal

pub returns-in_err-answer_stream-in-Some-clause-fault : goal.returns-in_err-answer_stream-in-Some-clause-fault
returns-in_err-answer_stream-in-Some-clause-fault g c =
    let w = rulings g.A.Rules.ruling g.B.Rules.ruling g.A.OtherVersions.loose in
    let m = types_view c.args.accepted.now in
    let o = terms w c.in-Some.rules c.in-Some.order (shape_of c.in-Some.ty.now) in
    let is : IsTypeFor c.args.job.now m c.in-Some.ty.now c.in-Some.order c.in-Some.rules = search rules in
    let p = err_from_is_err_and c.from_residual.result c.from_residual.ensures.1 in
    rw (p.1, p.2) (within_so (λ lines out. IsBegun o (lines_of lines) out) (λ lines out. TellsBegun w c.args.job.now m (lines_of lines) out) _ (state_of g.R.Read.remaining c.args.input.now) (state_of g.R.Read.remaining c.answer_stream.new.input)
    (state_of g.W.Write.contents c.args.output.now) (state_of g.W.Write.contents c.answer_stream.new.output) (λ lines out h. begun_lines w c.args.job.now m c.in-Some.ty.now c.in-Some.order c.in-Some.rules (lines_of lines) out is h) c.in_err-answer_stream-in-Some.ensures.begun)

pub returns-in_err-put_through-in-None-clause-fault : goal.returns-in_err-put_through-in-None-clause-fault
returns-in_err-put_through-in-None-clause-fault g c =
    let w = rulings g.A.Rules.ruling g.B.Rules.ruling g.A.OtherVersions.loose in
    let m = types_view c.args.accepted.now in
    let none : HasNoTypeFor c.args.job.now m = search rules in
    let p = err_from_is_err_and c.from_residual-in_err-put_through-in-None.result c.from_residual-in_err-put_through-in-None.ensures.1 in
    rw (p.1, p.2) (module_stopped w c.args.job.now m _ c.in_ok-status-in-None.status _ (state_of g.R.Read.remaining c.args.input.now) (state_of g.W.Write.contents c.args.output.now) _ (state_of g.W.Write.contents c.put_through.new.output)
    none c.in_ok-status-in-None.ensures.text c.in_err-put_through-in-None.ensures.err)

pub returns-in_ok-put_through-in-None-clause-text : goal.returns-in_ok-put_through-in-None-clause-text
returns-in_ok-put_through-in-None-clause-text g c =
    let w = rulings g.A.Rules.ruling g.B.Rules.ruling g.A.OtherVersions.loose in
    let m = types_view c.args.accepted.now in
    let none : HasNoTypeFor c.args.job.now m = search rules in
    module_told w c.args.job.now m _ c.in_ok-status-in-None.status _ (state_of g.W.Write.contents c.args.output.now) _ (state_of g.W.Write.contents c.put_through.new.output)
    none c.in_ok-status-in-None.ensures.text c.in_ok-put_through-in-None.ensures.ok
