use Rattle.std.proofs.Common.{rules, ◌≡◌, ◌∙◌, [], subst}
use Rattle.std.specs.Prelude.{string_bytes}
use Rattle.std.proofs.lemmas.Result.{err_from_is_err_and}
use Rattle.asn_rules.specs.Faults.{state_of}
use Rattle.asn_module.specs.ModuleView.{types_view}
use Rattle.asn_jobs.specs.declared.job.Status.TheVariants as status
use Rattle.asn_convert.specs.Answers.{rulings}
use Rattle.asn_convert.specs.Coming.{TextOf, BegunOf}
use Rattle.asn_jobs.specs.Lines.{lines_of, module_text}
use Rattle.asn_convert.specs.Text.{IsFront, IsModule, IsRefusal, TellsBegun}
use Rattle.asn_convert.proofs.Streaming.{ends_at_once, err_within_so, module_begun, refusal_begun, refusal_text, stopped_after, within_at_once, written_then_nothing}
use Rattle.asn_convert.proofs.Told.{whole_front}
use Rattle.asn_convert.proofs.coming.run_coming.Goals as goal

pub returns-in_err-put-in-Err-clause-fault : goal.returns-in_err-put-in-Err-clause-fault
returns-in_err-put-in-Err-clause-fault g c =
    let w = rulings g.A.Rules.ruling g.B.Rules.ruling g.A.OtherVersions.loose in
    let line = string_bytes c.in-Err.refusal in
    let text = c.cut_input.result.0.now in
    let refused : IsRefusal text line = rw c.in-Err.is at c.in_ok-accepted.ensures.refused in
    let value : c.as_str.result.now ≡ line = search rules in
    let from = state_of g.R.Read.remaining c.args.input.now in
    let old = state_of g.W.Write.contents c.args.output.now in
    let p = err_from_is_err_and c.from_residual-in_err-put-in-Err.result c.from_residual-in_err-put-in-Err.ensures.1 in
    rw (p.1, p.2) (within_at_once (λ lines out. BegunOf w c.args.job.now (module_text c.args.head.now) lines out) (λ out. IsFront out c.as_str.result.now) _ from old (state_of g.W.Write.contents c.put.new.output)
    (λ out front. refusal_begun w c.args.job.now c.args.head.now text line [] out c.cut_input.ensures.text refused (subst (λ x. IsFront out x) value front)) c.in_err-put-in-Err.ensures.err)

pub returns-in_err-put_through-in-Err-clause-fault : goal.returns-in_err-put_through-in-Err-clause-fault
returns-in_err-put_through-in-Err-clause-fault g c =
    let w = rulings g.A.Rules.ruling g.B.Rules.ruling g.A.OtherVersions.loose in
    let line = string_bytes c.in-Err.refusal in
    let text = c.cut_input.result.0.now in
    let refused : IsRefusal text line = rw c.in-Err.is at c.in_ok-accepted.ensures.refused in
    let value : c.as_str.result.now ≡ line = search rules in
    let from = state_of g.R.Read.remaining c.args.input.now in
    let old = state_of g.W.Write.contents c.args.output.now in
    let p = err_from_is_err_and c.from_residual-in_err-put_through-in-Err.result c.from_residual-in_err-put_through-in-Err.ensures.1 in
    let new = state_of g.W.Write.contents c.put_through.new.output in
    rw (p.1, p.2) (within_at_once (λ lines out. BegunOf w c.args.job.now (module_text c.args.head.now) lines out) (λ out. IsFront out line) _ from old new
    (λ out front. refusal_begun w c.args.job.now c.args.head.now text line [] out c.cut_input.ensures.text refused front)
    (stopped_after (λ out. out ≡ c.as_str.result.now) (λ out. IsFront out line) old (state_of g.W.Write.contents c.put.new.output) new _ (λ out same. subst (λ x. IsFront out x) (same ∙ value) (whole_front out)) c.in_ok-put-in-Err.ensures.ok c.in_err-put_through-in-Err.ensures.err))

pub returns-in-Ok-clause-fault : goal.returns-in-Ok-clause-fault
returns-in-Ok-clause-fault g c =
    let w = rulings g.A.Rules.ruling g.B.Rules.ruling g.A.OtherVersions.loose in
    let m = types_view c.in-Ok.accepted in
    let is : IsModule c.cut_input.result.0.now m = rw c.in-Ok.is at c.in_ok-accepted.ensures.accepted in
    err_within_so c.answer_coming.result (λ lines out. TellsBegun w c.args.job.now m (lines_of lines) out) (λ lines out. BegunOf w c.args.job.now (module_text c.args.head.now) lines out) (state_of g.R.Read.remaining c.args.input.now) (state_of g.R.Read.remaining c.answer_coming.new.input) (state_of g.W.Write.contents c.args.output.now) (state_of g.W.Write.contents c.answer_coming.new.output)
    (λ lines out h. module_begun w c.args.job.now c.args.head.now c.cut_input.result.0.now lines m out c.cut_input.ensures.text is h) c.answer_coming.ensures.fault

pub returns-in_ok-put_through-in-Err-clause-text : goal.returns-in_ok-put_through-in-Err-clause-text
returns-in_ok-put_through-in-Err-clause-text g c =
    let w = rulings g.A.Rules.ruling g.B.Rules.ruling g.A.OtherVersions.loose in
    let line = string_bytes c.in-Err.refusal in
    let text = c.cut_input.result.0.now in
    let refused : IsRefusal text line = rw c.in-Err.is at c.in_ok-accepted.ensures.refused in
    let value : c.as_str.result.now ≡ line = search rules in
    let from = state_of g.R.Read.remaining c.args.input.now in
    let old = state_of g.W.Write.contents c.args.output.now in
    let new = state_of g.W.Write.contents c.put_through.new.output in
    ends_at_once (λ lines out. TextOf w c.args.job.now (module_text c.args.head.now) lines out status.NoModule) (λ out. out ≡ line) _ old new
    (λ lines out same. refusal_text w c.args.job.now c.args.head.now text line lines out c.cut_input.ensures.text refused same)
    (written_then_nothing (λ out. out ≡ c.as_str.result.now) (λ out. out ≡ line) old (state_of g.W.Write.contents c.put.new.output) new (λ out same. same ∙ value) c.in_ok-put-in-Err.ensures.ok c.in_ok-put_through-in-Err.ensures.ok)
