-- A fault that is none of the module is one of a text that is a module.
use Rattle.std.proofs.Common.{◌≡◌, ℕ, List, refl}
use Rattle.asn_module.specs.Accepted.{ModuleTypes, Accepted}
use Rattle.asn_module.specs.declared.fault.ModuleFault.{ModuleFault}
use Rattle.asn_constraint_text.specs.declared.fault.ConstrainedFault.{ConstrainedFault}
use Rattle.asn_constraint_text.specs.declared.fault.ConstrainedFault.TheVariants as constrained
use Rattle.asn_constraint_text.specs.Refused.{SaysOfText}

pub of_lines : (text : List ℕ) (m : ModuleTypes) (e : ConstrainedFault) → Accepted text m
    → ((f : ModuleFault) → e ≡ constrained.Module f → ⊥) → SaysOfText text e
of_lines text m (constrained.Module f) accepted other = absurd (other f refl)
of_lines text m (constrained.Line line e) accepted other = (m, accepted)
of_lines text m constrained.Memory accepted other = tt
