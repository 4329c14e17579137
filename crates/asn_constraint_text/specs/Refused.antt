-- What a fault of a module with constraints says of the text.
use Rattle.std.specs.Prelude.{ℕ, ⊤, List}
use Rattle.asn_module.specs.Accepted.{ModuleTypes, Accepted}
use Rattle.asn_module.specs.Bounded.{TellsRead}
use Rattle.asn_constraint_text.specs.declared.fault.ConstrainedFault.{ConstrainedFault}
use Rattle.asn_constraint_text.specs.declared.fault.ConstrainedFault.TheVariants as constrained

-- the text is no module that is read, unless an allocation failed; or it is one, and a line of it is at fault
abbrev pub SaysOfText : List ℕ → ConstrainedFault → Type 0
SaysOfText text (constrained.Module e) = TellsRead text e
SaysOfText text (constrained.Line line e) = (m : ModuleTypes) × Accepted text m
SaysOfText text constrained.Memory = ⊤
