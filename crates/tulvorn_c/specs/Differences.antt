-- What the text of a module says of how a type differs from the published one.
use Rattle.std.specs.Prelude.{◌≡◌, ◌⊎◌, ℕ, List, Option, None, IsSome, IsUtf8}
use Rattle.asn_module.specs.Accepted.{ModuleTypes, type_in}
use Rattle.tulvorn_c.specs.declared.object.Object.{Object}
use Rattle.tulvorn_c.specs.declared.fault.Fault.{Fault}
use Rattle.tulvorn_c.specs.Faults.{plain, done, no_memory}
use Rattle.tulvorn_c.specs.Held.{held_octets}

-- the handle then holds octets, and the module has a type of the name
abbrev pub FindsDifference : List ℕ → Option Object → Option Object → ModuleTypes → Fault → Type 0
FindsDifference name old new m fault =
    ((fault ≡ done) × IsSome (type_in m.types name) × IsSome (held_octets new))
    ⊎ ((new ≡ old) × (((fault ≡ plain 10) × (type_in m.types name ≡ None)) ⊎ (fault ≡ no_memory)))

abbrev pub TellsDifference : List ℕ → Option Object → Option Object → ModuleTypes → Fault → Type 0
TellsDifference name old new m fault =
    FindsDifference name old new m fault ⊎ ((new ≡ old) × (fault ≡ plain 8) × ¬ IsUtf8 name)
