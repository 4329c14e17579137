use Rattle.std.proofs.Common.{ap, ap₂, false, ◌≡◌, ◌∙◌, ◌||◌}
use Rattle.std.proofs.lemmas.Result.{IfOk-weaker}
use Rattle.clap.specs.Words.{App, with_rule}
use Rattle.asn_request.proofs.words.reading.Goals as goal

pub returns-clause-shape : goal.returns-clause-shape
returns-clause-shape c =
    let whole = c.in_ok-order.ensures.app in
    IfOk-weaker c.arg.result _ _ (λ d h. (whole.0, whole.1, ap (λ (a : App). a.top) (h.shape c.budget_option-budget.ensures.local ∙ ap₂ with_rule whole.2 c.budget_option-budget.ensures.rule))) c.arg.ensures

pub returns-clause-local : goal.returns-clause-local
returns-clause-local c =
    IfOk-weaker c.arg.result _ _ (λ d h. h.globals ∙ ap₂ (λ a b. a || b) c.in_ok-order.ensures.local c.budget_option-budget.ensures.local) c.arg.ensures
