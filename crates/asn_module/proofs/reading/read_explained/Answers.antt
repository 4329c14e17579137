use Rattle.std.proofs.Common.{◌⊎◌, ◌∙◌, inl, inr, subst, sym}
use Rattle.asn_module.specs.Bounded.{IsPastMost}
use Rattle.asn_module.specs.declared.fault.ModuleFault.{ModuleFault}
use Rattle.asn_module.proofs.reading.read_explained.Goals as goal

either : {X Y Z : Type 0} → X ⊎ Y → (X → Z) → (Y → Z) → Z
either (inl x) f g = f x
either (inr y) f g = g y

pub returns-in-Err-clause-refused : goal.returns-in-Err-clause-refused
returns-in-Err-clause-refused c =
    λ other m accepted.
    either c.explained.ensures
    (λ same. subst (λ (f : ModuleFault). IsPastMost f m) (sym same) (c.in-Err.ensures.refused (λ e. other (same ∙ e)) m accepted))
    (λ memory. absurd (other memory))
