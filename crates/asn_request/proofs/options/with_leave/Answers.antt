use Rattle.std.proofs.Common.{ap, ap₂, false, ◌≡◌, ◌∙◌, ◌||◌}
use Rattle.std.proofs.lemmas.Result.{IfOk-weaker}
use Rattle.clap.specs.Words.{app_of, with_rule}
use Rattle.clap.specs.declared.builder.Command.TheViews.{out-Command}
use Rattle.asn_request.proofs.options.with_leave.Goals as goal

pub returns-clause-shape : goal.returns-clause-shape
returns-clause-shape c =
    let one = c.in_ok-arg.ensures.shape c.flag-plain_bits.ensures.local ∙ ap (λ r. with_rule (app_of c.args.command) r) c.flag-plain_bits.ensures.rule in
    let two = c.in_ok-arg-2.ensures.shape c.flag-octets.ensures.local ∙ ap₂ with_rule one c.flag-octets.ensures.rule in
    let three = c.in_ok-arg-3.ensures.shape c.number_option-levels.ensures.local ∙ ap₂ with_rule two c.number_option-levels.ensures.rule in
    IfOk-weaker c.arg-4.result _ _ (λ d h. h.shape c.flag-strict.ensures.local ∙ ap₂ with_rule three c.flag-strict.ensures.rule) c.arg-4.ensures

pub returns-clause-local : goal.returns-clause-local
returns-clause-local c = λ none.
    let one : (out-Command c.in_ok-arg.field-0).has_globals ≡ false = c.in_ok-arg.ensures.globals ∙ ap₂ (λ a b. a || b) none c.flag-plain_bits.ensures.local in
    let two : (out-Command c.in_ok-arg-2.field-0).has_globals ≡ false = c.in_ok-arg-2.ensures.globals ∙ ap₂ (λ a b. a || b) one c.flag-octets.ensures.local in
    let three : (out-Command c.in_ok-arg-3.field-0).has_globals ≡ false = c.in_ok-arg-3.ensures.globals ∙ ap₂ (λ a b. a || b) two c.number_option-levels.ensures.local in
    IfOk-weaker c.arg-4.result _ _ (λ d h. h.globals ∙ ap₂ (λ a b. a || b) three c.flag-strict.ensures.local) c.arg-4.ensures
