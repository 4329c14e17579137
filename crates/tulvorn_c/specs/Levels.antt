-- Types of no more levels than are asked for.
use Rattle.std.specs.Prelude.{◌≡◌, ◌⊎◌, ◌≤◌, ◌<◌, ℕ, List, Option, Some, IsUtf8}
use Rattle.asn_values.specs.Measures.{depth}
use Rattle.asn_values.specs.Shape.{Shape}
use Rattle.asn_module.specs.Accepted.{ModuleTypes, type_in}
use Rattle.tulvorn_c.specs.declared.object.Object.{Object}
use Rattle.tulvorn_c.specs.declared.fault.Fault.{Fault}
use Rattle.tulvorn_c.specs.Answers.{FindsName}
use Rattle.tulvorn_c.specs.Faults.{plain, too_deep}

-- the type that the module assigns to the name has no more levels
abbrev pub IsWithin : List ℕ → ℕ → ModuleTypes → Type 0
IsWithin name levels m = (t : Shape) → type_in m.types name ≡ Some t → depth t ≤ levels

-- it has more
pub record IsDeeper (name : List ℕ) (levels : ℕ) (m : ModuleTypes) : Type 0 where
  pub shape : Shape
  pub found : type_in m.types name ≡ Some shape
  pub deeper : levels < depth shape

-- the handle then holds the type; one of more levels is not put there
abbrev pub FindsNameWithin : List ℕ → ℕ → Option Object → Option Object → ModuleTypes → Fault → Type 0
FindsNameWithin name levels old new m fault =
    (IsWithin name levels m × FindsName name old new m fault)
    ⊎ ((new ≡ old) × (fault ≡ too_deep) × IsDeeper name levels m)

abbrev pub FindsTypeWithin : List ℕ → ℕ → Option Object → Option Object → ModuleTypes → Fault → Type 0
FindsTypeWithin name levels old new m fault =
    FindsNameWithin name levels old new m fault ⊎ ((new ≡ old) × (fault ≡ plain 8) × ¬ IsUtf8 name)
