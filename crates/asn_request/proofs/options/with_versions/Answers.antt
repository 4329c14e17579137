use Rattle.std.proofs.Common.{ap, ap₂, false, ◌≡◌, ◌∙◌, ◌||◌}
use Rattle.std.proofs.lemmas.Result.{IfOk-weaker}
use Rattle.clap.specs.Words.{app_of, with_rule}
use Rattle.clap.specs.declared.builder.Command.TheViews.{out-Command}
use Rattle.asn_request.proofs.options.with_versions.Goals as goal

pub returns-clause-shape : goal.returns-clause-shape
returns-clause-shape c =
    let one = c.in_ok-arg.ensures.shape c.shown_flag-json.ensures.local ∙ ap (λ r. with_rule (app_of c.args.command) r) c.shown_flag-json.ensures.rule in
    IfOk-weaker c.arg-2.result _ _ (λ d h. h.shape c.shown_flag-newer.ensures.local ∙ ap₂ with_rule one c.shown_flag-newer.ensures.rule) c.arg-2.ensures

pub returns-clause-local : goal.returns-clause-local
returns-clause-local c = λ none.
    let one : (out-Command c.in_ok-arg.field-0).has_globals ≡ false = c.in_ok-arg.ensures.globals ∙ ap₂ (λ a b. a || b) none c.shown_flag-json.ensures.local in
    IfOk-weaker c.arg-2.result _ _ (λ d h. h.globals ∙ ap₂ (λ a b. a || b) one c.shown_flag-newer.ensures.local) c.arg-2.ensures
