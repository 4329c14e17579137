use Rattle.std.proofs.Common.{ap₂, false, ◌≡◌, ◌∙◌, ◌||◌}
use Rattle.std.proofs.lemmas.Result.{IfOk-weaker}
use Rattle.clap.specs.Words.{app_of, with_rule}
use Rattle.clap.specs.declared.builder.Command.TheViews.{out-Command}
use Rattle.asn_request.proofs.options.with_forms.Goals as goal

pub returns-clause-shape : goal.returns-clause-shape
returns-clause-shape c =
    let messages = c.in_ok-with_messages.ensures.shape in
    let written = c.written_option.ensures.rule in
    IfOk-weaker c.arg.result _ _ (λ d h. (messages.0, written.0, messages.1, written.1, h.shape c.written_option.ensures.local ∙ ap₂ with_rule messages.2 written.2)) c.arg.ensures

pub returns-clause-local : goal.returns-clause-local
returns-clause-local c = λ none.
    IfOk-weaker c.arg.result _ _ (λ d h. h.globals ∙ ap₂ (λ a b. a || b) (c.in_ok-with_messages.ensures.local none) c.written_option.ensures.local) c.arg.ensures
