use Rattle.std.proofs.Common.{◌≡◌, ◌++◌, drop}
use Rattle.asn_notation.specs.Tree.{components_of, parts_view, alternatives_of, branches_view}
use Rattle.asn_module.specs.Uses.{names_now, component_references, alternative_references}
use Rattle.asn_module.proofs.uses.+uses.Given as goal

-- those of the parts left come after the names so far
abbrev pub invariant-push_of_components-loop-component : goal.invariant-push_of_components-loop-component
invariant-push_of_components-loop-component l =
    names_now l.names.items ++ component_references (components_of (parts_view (drop l.component-index l.components)))
    ≡ names_now l.fn.names.items ++ component_references (components_of (parts_view l.components))

abbrev pub invariant-push_of_alternatives-loop-alternative : goal.invariant-push_of_alternatives-loop-alternative
invariant-push_of_alternatives-loop-alternative l =
    names_now l.names.items ++ alternative_references (alternatives_of (branches_view (drop l.alternative-index l.alternatives)))
    ≡ names_now l.fn.names.items ++ alternative_references (alternatives_of (branches_view l.alternatives))
