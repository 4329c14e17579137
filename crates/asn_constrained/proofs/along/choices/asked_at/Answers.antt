use Rattle.std.proofs.Common.{◌∙◌, sym}
use Rattle.asn_constraints.proofs.Views.{meets_alternative}
use Rattle.asn_constrained.proofs.along.choices.asked_at.Goals as goal

pub returns-then-place-alternatives : goal.returns-then-place-alternatives
returns-then-place-alternatives c = λ d met.
    sym (meets_alternative c.args.alternatives.now c.args.place c.index-alternatives-place.result d c.if-place-alternatives.true c.index-alternatives-place.is) ∙ c.due_of-asked.ensures d met
