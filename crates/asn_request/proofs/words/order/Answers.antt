use Rattle.std.proofs.Common.{ap, ap₂, false, ◌≡◌, ◌∙◌, ◌||◌}
use Rattle.std.proofs.lemmas.Result.{IfOk-weaker}
use Rattle.clap.specs.Simple.{app_of_fields}
use Rattle.clap.specs.Words.{app_of, new_app, with_rule}
use Rattle.clap.specs.declared.builder.Command.TheViews.{out-Command}
use Rattle.asn_request.specs.Command.{Parsers, answer_rules, form_rules, leave_rules, source_rules, with_rules}
use Rattle.asn_request.proofs.words.order.Goals as goal

pub returns-clause-app : goal.returns-clause-app
returns-clause-app c =
    let new_is : app_of c.after_help.result ≡ new_app c.args.name.now = ap app_of_fields c.after_help.ensures ∙ (ap app_of_fields c.about.ensures ∙ c.new.ensures.app) in
    let one = c.in_ok-arg.ensures.shape c.type_option.ensures.local ∙ ap₂ with_rule new_is c.type_option.ensures.rule in
    let two = c.in_ok-command.ensures.shape c.rules_option.ensures.local ∙ ap₂ with_rule one c.rules_option.ensures.rule.2 in
    let source = c.in_ok-command-2.ensures.shape ∙ ap (λ a. with_rules a source_rules) two in
    let forms = c.in_ok-command-3.ensures.shape in
    let formed = forms.4 ∙ ap (λ a. with_rules a (form_rules forms.0 forms.1)) source in
    let answers = c.in_ok-command-4.ensures.shape in
    let answered = answers.2 ∙ ap (λ a. with_rules a (answer_rules answers.0)) formed in
    let parsers : Parsers = record { rules = c.rules_option.ensures.rule.0; given = forms.0; written = forms.1; members = answers.0 } in
    IfOk-weaker c.with_leave.result _ _
    (λ d h. (parsers, (c.rules_option.ensures.rule.1, forms.2, forms.3, answers.1), h ∙ ap (λ a. with_rules a leave_rules) answered))
    c.with_leave.ensures.shape

pub returns-clause-local : goal.returns-clause-local
returns-clause-local c =
    let new_local : (out-Command c.after_help.result).has_globals ≡ false = ap (λ f. f.has_globals) c.after_help.ensures ∙ (ap (λ f. f.has_globals) c.about.ensures ∙ c.new.ensures.local) in
    let one : (out-Command c.in_ok-arg.field-0).has_globals ≡ false = c.in_ok-arg.ensures.globals ∙ ap₂ (λ a b. a || b) new_local c.type_option.ensures.local in
    let two : (out-Command c.in_ok-command.command).has_globals ≡ false = c.in_ok-command.ensures.globals ∙ ap₂ (λ a b. a || b) one c.rules_option.ensures.local in
    c.with_leave.ensures.local (c.in_ok-command-4.ensures.local (c.in_ok-command-3.ensures.local (c.in_ok-command-2.ensures.local two)))
