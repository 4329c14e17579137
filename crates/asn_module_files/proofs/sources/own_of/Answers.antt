use Rattle.std.proofs.Common.{◌≡◌}
use Rattle.asn_module.specs.Accepted.{ModuleTypes, Accepted}
use Rattle.asn_module.specs.declared.fault.ModuleFault.TheVariants as fault
use Rattle.asn_module_files.proofs.sources.own_of.Goals as goal

pub returns-in_ok-unless_memory-in-Err-Module : goal.returns-in_ok-unless_memory-in-Err-Module
returns-in_ok-unless_memory-in-Err-Module c =
    let refused : (c.in-Err-Module.fault ≡ fault.Memory → ⊥) → (m : ModuleTypes) → Accepted c.args.text.now m → ⊥ = rw c.in-Err-Module.field-0-is at c.in-Err-Module.ensures.refused in
    λ own. refused c.in_ok-unless_memory-in-Err-Module.ensures own.0 own.1
