use Rattle.std.proofs.Common.{◌≡◌, map, take}
use Rattle.asn_constraints.specs.View.{constraint_of, on_one}
use Rattle.asn_constraints.proofs.copying.+copied.Given as goal

-- what is copied is the same as what is gone over
abbrev pub invariant-copied_components-loop-component : goal.invariant-copied_components-loop-component
invariant-copied_components-loop-component l = map on_one l.copies.items ≡ map on_one (take l.component-index l.components)

abbrev pub invariant-copied_alternatives-loop-alternative : goal.invariant-copied_alternatives-loop-alternative
invariant-copied_alternatives-loop-alternative l =
    map constraint_of l.copies.items ≡ map constraint_of (take l.alternative-index l.alternatives)
