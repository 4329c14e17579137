-- The handle holds the module that was read; a line is at fault only of a text that is a module.
use Rattle.std.proofs.Common.{◌≡◌, ◌⊎◌, inl, inr, ℕ, List, sym, subst}
use Rattle.asn_module.specs.Accepted.{Accepted, ModuleTypes}
use Rattle.asn_module.specs.ModuleView.{types_view}
use Rattle.asn_module.specs.declared.module.Module.{Module}
use Rattle.tulvorn_c.specs.declared.fault.Fault.{Fault}
use Rattle.tulvorn_c.specs.Answers.{IsNoModule}
use Rattle.tulvorn_c.specs.Faults.{no_memory, bad_constraint}
use Rattle.tulvorn_c.proofs.modules.module_read.Goals as goal

of_line : (text : List ℕ) (m : ModuleTypes) (fault : Fault) → Accepted text m → (fault ≡ no_memory) ⊎ (fault ≡ bad_constraint) → IsNoModule text fault
of_line text m fault is (inl e) = inr (inl e)
of_line text m fault is (inr e) = inr (inr (e, (m, is)))

pub returns-in-Err-new-clause-refused : goal.returns-in-Err-new-clause-refused
returns-in-Err-new-clause-refused c =
    of_line c.args.text.now (types_view c.in-Ok.module) c.fault_of_line.result c.in-Ok.ensures.accepted c.fault_of_line.ensures

pub returns-in-Ok-module_held-clause-read : goal.returns-in-Ok-module_held-clause-read
returns-in-Ok-module_held-clause-read c =
    (types_view c.in-Ok-new.module.module, c.in-Ok-module_held.ensures, subst (λ (m : Module). Accepted c.args.text.now (types_view m)) (sym c.in-Ok-new.ensures.same) c.in-Ok.ensures.accepted)

pub returns-in-Err-module_held-clause-refused : goal.returns-in-Err-module_held-clause-refused
returns-in-Err-module_held-clause-refused c = inr (inl c.plain.ensures)
