use Rattle.std.proofs.Common.{rules, ◌≡◌, ◌∙◌, inl, refl, subst}
use Rattle.std.specs.Prelude.{string_bytes}
use Rattle.std.proofs.lemmas.Result.{err_from_is_err_and}
use Rattle.asn_module.specs.ModuleView.{types_view}
use Rattle.asn_jobs.specs.declared.job.Status.TheVariants as status
use Rattle.asn_convert.specs.Answers.{rulings}
use Rattle.asn_jobs.specs.Lines.{lines_of}
use Rattle.asn_convert.specs.Text.{Text, Begun, TellsBegun, IsFront, IsModule, IsRefusal}
use Rattle.asn_convert.proofs.Told.{stops_memory, stops_so, writes_so, err_stops_so, begun_refusal, begun_module, text_refusal}
use Rattle.asn_convert.proofs.running.answer_input.Goals as goal

pub returns-in_err-accepted-clause-fault : goal.returns-in_err-accepted-clause-fault
returns-in_err-accepted-clause-fault g c =
    let p = err_from_is_err_and c.from_residual.result c.from_residual.ensures.1 in
    rw (p.1, p.2) (stops_memory _ (λ out. Begun (rulings g.A.Rules.ruling g.B.Rules.ruling g.A.OtherVersions.loose) c.args.job.now c.args.input.now out) _ c.in_err-accepted.ensures.fault (inl refl))

pub returns-in_err-put-in-Err-clause-fault : goal.returns-in_err-put-in-Err-clause-fault
returns-in_err-put-in-Err-clause-fault g c =
    let p = err_from_is_err_and c.from_residual-in_err-put-in-Err.result c.from_residual-in_err-put-in-Err.ensures.1 in
    let w = rulings g.A.Rules.ruling g.B.Rules.ruling g.A.OtherVersions.loose in
    let line = string_bytes c.in-Err.refusal in
    let refused : IsRefusal c.cut_input.result.0.now line = rw c.in-Err.is at c.in_ok-accepted.ensures.refused in
    let value : c.as_str.result.now ≡ line = search rules in
    rw (p.1, p.2) (stops_so _ (λ out. IsFront out c.as_str.result.now) (λ out. Begun w c.args.job.now c.args.input.now out) _ _
    (λ out front. begun_refusal w c.args.job.now c.args.input.now c.cut_input.result.0.now line out c.cut_input.ensures.text refused (subst (λ x. IsFront out x) value front))
    c.in_err-put-in-Err.ensures.err)

pub returns-in-Ok-clause-fault : goal.returns-in-Ok-clause-fault
returns-in-Ok-clause-fault g c =
    let w = rulings g.A.Rules.ruling g.B.Rules.ruling g.A.OtherVersions.loose in
    let m = types_view c.in-Ok.accepted in
    let is : IsModule c.cut_input.result.0.now m = rw c.in-Ok.is at c.in_ok-accepted.ensures.accepted in
    err_stops_so c.answer_module.result (λ out. TellsBegun w c.args.job.now m (lines_of c.cut_input.result.1.now) out) (λ out. Begun w c.args.job.now c.args.input.now out) _ _
    (λ out tells. begun_module w c.args.job.now c.args.input.now c.cut_input.result.0.now (lines_of c.cut_input.result.1.now) m out c.cut_input.ensures.text c.cut_input.ensures.lines is tells)
    c.answer_module.ensures.fault

pub returns-in_ok-put-in-Err-clause-text : goal.returns-in_ok-put-in-Err-clause-text
returns-in_ok-put-in-Err-clause-text g c =
    let w = rulings g.A.Rules.ruling g.B.Rules.ruling g.A.OtherVersions.loose in
    let line = string_bytes c.in-Err.refusal in
    let refused : IsRefusal c.cut_input.result.0.now line = rw c.in-Err.is at c.in_ok-accepted.ensures.refused in
    let value : c.as_str.result.now ≡ line = search rules in
    writes_so (λ out. out ≡ c.as_str.result.now) (λ out. Text w c.args.job.now c.args.input.now out status.NoModule) _ _
    (λ out same. text_refusal w c.args.job.now c.args.input.now c.cut_input.result.0.now line out c.cut_input.ensures.text refused (same ∙ value))
    c.in_ok-put-in-Err.ensures.ok
