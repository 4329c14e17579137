-- The text is that of the octets.
use Rattle.std.proofs.Common.{ℕ, List, inl, subst}
use Rattle.tulvorn_c.specs.Answers.{TellsText}
use Rattle.tulvorn_c.specs.Faults.{plain}
use Rattle.tulvorn_c.proofs.modules.tulvorn_explain_module.Goals as goal

pub returns-in-Ok : goal.returns-in-Ok
returns-in-Ok c =
    inl (subst (λ (t : List ℕ). TellsText t c.args.words.now.kept c.explain_text.new.out.kept (plain c.explain_text.result))
    c.in-Ok.ensures.cases.0 c.explain_text.ensures)
