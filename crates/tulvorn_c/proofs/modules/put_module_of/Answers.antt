-- The text is that of the octets.
use Rattle.std.proofs.Common.{ℕ, List, inl, subst}
use Rattle.tulvorn_c.specs.Answers.{ReadsText}
use Rattle.tulvorn_c.proofs.modules.put_module_of.Goals as goal

pub returns-in-Ok : goal.returns-in-Ok
returns-in-Ok c =
    inl (subst (λ (t : List ℕ). ReadsText t c.args.out.now.kept c.put_module.new.out.kept c.put_module.result)
    c.in-Ok.ensures.cases.0 c.put_module.ensures)
