-- What is told of a text that is not read within a bound on its size.
use Rattle.std.specs.Prelude.{◌≡◌, ◌<◌, ℕ, ⊤, List, Option, Some, None}
use Rattle.asn_notation.specs.declared.notation.AssignmentNotation.{AssignmentNotation}
use Rattle.asn_module.specs.Accepted.{Typed, ModuleTypes, Accepted}
use Rattle.asn_module.specs.Sizes.{types_size, most_size, IsLarger}
use Rattle.asn_module.specs.Known.{AreAllTypes}
use Rattle.asn_module.specs.declared.fault.BoundFault.{BoundFault}
use Rattle.asn_module.specs.declared.fault.BoundFault.TheVariants as bound
use Rattle.asn_module.specs.declared.fault.ModuleFault.{ModuleFault}
use Rattle.asn_module.specs.declared.fault.ModuleFault.TheVariants as fault
use Rattle.asn_module.specs.declared.fault.Refusal.{Refusal}
use Rattle.asn_module.specs.declared.fault.Refusal.TheVariants as refusal

-- the module that the text is is larger than the bound that was given; or the text is none, unless an allocation failed
abbrev pub TellsBound : List ℕ → ℕ → BoundFault → Type 0
TellsBound text most (bound.TooLarge told name) = (told ≡ most) × IsLarger text (Some most)
TellsBound text most (bound.Module e) = (e ≡ fault.Memory → ⊥) → (m : ModuleTypes) → Accepted text m → ⊥

-- the fault is that of a module which is larger than is read, and so is this one
abbrev pub IsPastMost : ModuleFault → ModuleTypes → Type 0
IsPastMost (fault.TooLarge most size name) m = (most ≡ most_size) × (most_size < types_size m.types)
IsPastMost _ m = ⊥

-- the text is no module, unless an allocation failed; or the fault is that of a larger one than is read
abbrev pub TellsRead : List ℕ → ModuleFault → Type 0
TellsRead text e = (e ≡ fault.Memory → ⊥) → (m : ModuleTypes) → Accepted text m → IsPastMost e m

-- why a text is neither read nor known to be no module: memory was wanting, or it is larger than the bound
abbrev pub IsStopped : List ℕ → Option ℕ → Refusal → Type 0
IsStopped text most refusal.Memory = ⊤
IsStopped text most (refusal.TooLarge name size) = IsLarger text most
IsStopped text most _ = ⊥

-- there is a bound, and whatever types the assignments have are larger
abbrev pub AreLarger : List AssignmentNotation → Option ℕ → Type 0
AreLarger all None = ⊥
AreLarger all (Some most) = (ts : List Typed) → AreAllTypes all ts → most < types_size ts

-- the same of the types of assignments
abbrev pub AreStopped : List AssignmentNotation → Option ℕ → Refusal → Type 0
AreStopped all most refusal.Memory = ⊤
AreStopped all most (refusal.TooLarge name size) = AreLarger all most
AreStopped all most _ = ⊥
