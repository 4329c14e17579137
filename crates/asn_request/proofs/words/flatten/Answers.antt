use Rattle.std.proofs.Common.{ap, ap₂, codes, false, ◌≡◌, ◌∙◌, ◌||◌}
use Rattle.std.proofs.lemmas.Result.{IfOk-weaker}
use Rattle.clap.specs.Simple.{app_of_fields}
use Rattle.clap.specs.Words.{App, app_of, new_app, with_rule}
use Rattle.clap.specs.declared.builder.Command.TheViews.{out-Command}
use Rattle.asn_request.specs.Command.{leave_rules, with_rules}
use Rattle.asn_request.proofs.words.flatten.Goals as goal

pub returns-clause-shape : goal.returns-clause-shape
returns-clause-shape c =
    let new_is : app_of c.after_help.result ≡ new_app (codes "flatten") = ap app_of_fields c.after_help.ensures ∙ (ap app_of_fields c.about.ensures ∙ c.new.ensures.app) in
    let one = c.in_ok-arg.ensures.shape c.file_argument.ensures.local ∙ ap₂ with_rule new_is c.file_argument.ensures.rule in
    let two = c.in_ok-arg-2.ensures.shape c.report_option.ensures.local ∙ ap₂ with_rule one c.report_option.ensures.rule.2 in
    let three = c.in_ok-command.ensures.shape c.one_type_option.ensures.local ∙ ap₂ with_rule two c.one_type_option.ensures.rule in
    IfOk-weaker c.with_leave.result _ _ (λ d h. (c.report_option.ensures.rule.0, c.report_option.ensures.rule.1, ap (λ (a : App). a.top) (h ∙ ap (λ a. with_rules a leave_rules) three))) c.with_leave.ensures.shape

pub returns-clause-local : goal.returns-clause-local
returns-clause-local c =
    let new_local : (out-Command c.after_help.result).has_globals ≡ false = ap (λ f. f.has_globals) c.after_help.ensures ∙ (ap (λ f. f.has_globals) c.about.ensures ∙ c.new.ensures.local) in
    let one : (out-Command c.in_ok-arg.field-0).has_globals ≡ false = c.in_ok-arg.ensures.globals ∙ ap₂ (λ a b. a || b) new_local c.file_argument.ensures.local in
    let two : (out-Command c.in_ok-arg-2.field-0).has_globals ≡ false = c.in_ok-arg-2.ensures.globals ∙ ap₂ (λ a b. a || b) one c.report_option.ensures.local in
    c.with_leave.ensures.local (c.in_ok-command.ensures.globals ∙ ap₂ (λ a b. a || b) two c.one_type_option.ensures.local)
