use Rattle.std.proofs.Common.{ap, ap₂, false, ◌≡◌, ◌∙◌, ◌||◌}
use Rattle.std.proofs.lemmas.Result.{IfOk-weaker}
use Rattle.clap.specs.Words.{app_of, with_rule}
use Rattle.clap.specs.declared.builder.Command.TheViews.{out-Command}
use Rattle.asn_request.specs.Command.{version_rules, with_rules}
use Rattle.asn_request.proofs.options.with_answers.Goals as goal

pub returns-clause-shape : goal.returns-clause-shape
returns-clause-shape c =
    let members = c.members_option.ensures.rule in
    let one = c.in_ok-arg.ensures.shape c.shown_flag-pretty.ensures.local ∙ ap (λ r. with_rule (app_of c.args.command) r) c.shown_flag-pretty.ensures.rule in
    let two = c.in_ok-arg-2.ensures.shape c.members_option.ensures.local ∙ ap₂ with_rule one members.2 in
    let three = c.in_ok-arg-3.ensures.shape c.shown_flag-stats.ensures.local ∙ ap₂ with_rule two c.shown_flag-stats.ensures.rule in
    let four = c.in_ok-command.ensures.shape c.shown_flag-wider.ensures.local ∙ ap₂ with_rule three c.shown_flag-wider.ensures.rule in
    IfOk-weaker c.with_versions.result _ _ (λ d h. (members.0, members.1, h ∙ ap (λ a. with_rules a version_rules) four)) c.with_versions.ensures.shape

pub returns-clause-local : goal.returns-clause-local
returns-clause-local c = λ none.
    let one : (out-Command c.in_ok-arg.field-0).has_globals ≡ false = c.in_ok-arg.ensures.globals ∙ ap₂ (λ a b. a || b) none c.shown_flag-pretty.ensures.local in
    let two : (out-Command c.in_ok-arg-2.field-0).has_globals ≡ false = c.in_ok-arg-2.ensures.globals ∙ ap₂ (λ a b. a || b) one c.members_option.ensures.local in
    let three : (out-Command c.in_ok-arg-3.field-0).has_globals ≡ false = c.in_ok-arg-3.ensures.globals ∙ ap₂ (λ a b. a || b) two c.shown_flag-stats.ensures.local in
    let four : (out-Command c.in_ok-command.command).has_globals ≡ false = c.in_ok-command.ensures.globals ∙ ap₂ (λ a b. a || b) three c.shown_flag-wider.ensures.local in
    c.with_versions.ensures.local four
