use Rattle.std.proofs.Common.{ap, ap₂, false, ◌≡◌, ◌∙◌, ◌||◌}
use Rattle.std.proofs.lemmas.Result.{IfOk-weaker}
use Rattle.clap.specs.Words.{app_of, with_rule}
use Rattle.clap.specs.declared.builder.Command.TheViews.{out-Command}
use Rattle.asn_request.proofs.options.with_messages.Goals as goal

pub returns-clause-shape : goal.returns-clause-shape
returns-clause-shape c =
    let given = c.given_option.ensures.rule in
    let one = c.in_ok-arg.ensures.shape c.files_option-files.ensures.local ∙ ap (λ r. with_rule (app_of c.args.command) r) c.files_option-files.ensures.rule in
    let two = c.in_ok-arg-2.ensures.shape c.given_option.ensures.local ∙ ap₂ with_rule one given.2 in
    IfOk-weaker c.arg-3.result _ _ (λ d h. (given.0, given.1, h.shape c.shown_flag-split.ensures.local ∙ ap₂ with_rule two c.shown_flag-split.ensures.rule)) c.arg-3.ensures

pub returns-clause-local : goal.returns-clause-local
returns-clause-local c = λ none.
    let one : (out-Command c.in_ok-arg.field-0).has_globals ≡ false = c.in_ok-arg.ensures.globals ∙ ap₂ (λ a b. a || b) none c.files_option-files.ensures.local in
    let two : (out-Command c.in_ok-arg-2.field-0).has_globals ≡ false = c.in_ok-arg-2.ensures.globals ∙ ap₂ (λ a b. a || b) one c.given_option.ensures.local in
    IfOk-weaker c.arg-3.result _ _ (λ d h. h.globals ∙ ap₂ (λ a b. a || b) two c.shown_flag-split.ensures.local) c.arg-3.ensures
