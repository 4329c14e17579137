use Rattle.std.proofs.Common.{ap, ap₂, codes, false, ◌≡◌, ◌∙◌, ◌||◌}
use Rattle.std.proofs.lemmas.Result.{IfOk-weaker}
use Rattle.clap.specs.Simple.{app_of_fields}
use Rattle.clap.specs.Words.{App, app_of, new_app, with_rule}
use Rattle.clap.specs.declared.builder.Command.TheViews.{out-Command}
use Rattle.asn_request.specs.Command.{leave_rules, message_rules, source_rules, with_rules}
use Rattle.asn_request.proofs.words.fields.Goals as goal

pub returns-clause-shape : goal.returns-clause-shape
returns-clause-shape c =
    let new_is : app_of c.after_help.result ≡ new_app (codes "fields") = ap app_of_fields c.after_help.ensures ∙ (ap app_of_fields c.about.ensures ∙ c.new.ensures.app) in
    let one = c.in_ok-arg.ensures.shape c.type_option.ensures.local ∙ ap₂ with_rule new_is c.type_option.ensures.rule in
    let rules = c.rules_option.ensures.rule in
    let two = c.in_ok-command.ensures.shape c.rules_option.ensures.local ∙ ap₂ with_rule one rules.2 in
    let source = c.in_ok-command-2.ensures.shape ∙ ap (λ a. with_rules a source_rules) two in
    let messages = c.in_ok-with_messages.ensures.shape in
    let given = messages.2 ∙ ap (λ a. with_rules a (message_rules messages.0)) source in
    let page = c.in_ok-arg-2.ensures.shape c.flag-html.ensures.local ∙ ap₂ with_rule given c.flag-html.ensures.rule in
    let bound = c.in_ok-command-3.ensures.shape c.budget_option-budget.ensures.local ∙ ap₂ with_rule page c.budget_option-budget.ensures.rule in
    IfOk-weaker c.with_leave.result _ _ (λ d h. (rules.0, messages.0, rules.1, messages.1, ap (λ (a : App). a.top) (h ∙ ap (λ a. with_rules a leave_rules) bound))) c.with_leave.ensures.shape

pub returns-clause-local : goal.returns-clause-local
returns-clause-local c =
    let new_local : (out-Command c.after_help.result).has_globals ≡ false = ap (λ f. f.has_globals) c.after_help.ensures ∙ (ap (λ f. f.has_globals) c.about.ensures ∙ c.new.ensures.local) in
    let one : (out-Command c.in_ok-arg.field-0).has_globals ≡ false = c.in_ok-arg.ensures.globals ∙ ap₂ (λ a b. a || b) new_local c.type_option.ensures.local in
    let two : (out-Command c.in_ok-command.command).has_globals ≡ false = c.in_ok-command.ensures.globals ∙ ap₂ (λ a b. a || b) one c.rules_option.ensures.local in
    let three = c.in_ok-with_messages.ensures.local (c.in_ok-command-2.ensures.local two) in
    let page : (out-Command c.in_ok-arg-2.field-0).has_globals ≡ false = c.in_ok-arg-2.ensures.globals ∙ ap₂ (λ a b. a || b) three c.flag-html.ensures.local in
    c.with_leave.ensures.local (c.in_ok-command-3.ensures.globals ∙ ap₂ (λ a b. a || b) page c.budget_option-budget.ensures.local)
