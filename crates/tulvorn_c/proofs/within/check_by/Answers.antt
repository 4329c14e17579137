-- Under a constraint a value is judged.
use Rattle.std.proofs.Common.{inl, inr, ◌∙◌}
use Rattle.tulvorn_c.proofs.within.check_by.Goals.{in-Ok-admitted_by, in-Err-admitted_by}
use Rattle.tulvorn_c.proofs.within.check_by.Goals as goal

pub returns : goal.returns
returns g c =
    elim c.match-admitted_by.branch [
      | in-Ok-admitted_by w ↦ inl (w.result-is ∙ w.plain-in-Ok-admitted_by.ensures, inr (w.in-Ok-admitted_by.field-0, w.in-Ok-admitted_by.ensures.value))
      | in-Err-admitted_by w ↦ inr (inr (rw w.result-is w.in-Err-admitted_by.ensures.fault))
    ]
