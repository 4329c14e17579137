use Rattle.std.proofs.Common.{ap, codes, false, ◌≡◌, ◌∙◌}
use Rattle.std.proofs.lemmas.Result.{IfOk-weaker}
use Rattle.clap.specs.Simple.{app_of_fields}
use Rattle.clap.specs.Words.{App, app_of, new_app}
use Rattle.clap.specs.declared.builder.Command.TheViews.{out-Command}
use Rattle.asn_request.specs.Command.{leave_rules, source_rules, with_rules}
use Rattle.asn_request.proofs.words.module.Goals as goal

pub returns-clause-shape : goal.returns-clause-shape
returns-clause-shape c =
    let new_is : app_of c.after_help-command.result ≡ new_app (codes "module") = ap app_of_fields c.after_help-command.ensures ∙ (ap app_of_fields c.about.ensures ∙ c.new.ensures.app) in
    let source = c.in_ok-command.ensures.shape ∙ ap (λ a. with_rules a source_rules) new_is in
    IfOk-weaker c.with_leave.result _ _ (λ d h. ap (λ (a : App). a.top) (h ∙ ap (λ a. with_rules a leave_rules) source)) c.with_leave.ensures.shape

pub returns-clause-local : goal.returns-clause-local
returns-clause-local c =
    let new_local : (out-Command c.after_help-command.result).has_globals ≡ false = ap (λ f. f.has_globals) c.after_help-command.ensures ∙ (ap (λ f. f.has_globals) c.about.ensures ∙ c.new.ensures.local) in
    c.with_leave.ensures.local (c.in_ok-command.ensures.local new_local)
