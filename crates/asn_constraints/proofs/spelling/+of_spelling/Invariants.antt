use Rattle.std.proofs.Common.{◌≡◌, map, drop}
use Rattle.asn_constraints.specs.Spelling.{are_of_spelling}
use Rattle.asn_constraints.specs.View.{on_one, on_components_of}
use Rattle.asn_constraints.proofs.spelling.+of_spelling.Given as goal

-- all are of spelling where those are that are still to be looked at
abbrev pub invariant-are_of_spelling-loop-component : goal.invariant-are_of_spelling-loop-component
invariant-are_of_spelling-loop-component l =
    are_of_spelling (on_components_of (map on_one (drop l.component-index l.components))) ≡ are_of_spelling (on_components_of (map on_one l.components))
