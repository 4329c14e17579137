use Rattle.std.proofs.Common.{◌≡◌, map, option_map, drop}
use Rattle.std.specs.List.{list_all}
use Rattle.asn_values.specs.View.{datum_of}
use Rattle.asn_constraints.specs.Constraints.{meets, meet_each}
use Rattle.asn_constraints.specs.Spelling.{spelling, spelling_of_components}
use Rattle.asn_constraints.specs.View.{constraint_of, on_one, on_components_of}
use Rattle.asn_constraints.proofs.spelling.+spelling.Given as goal

-- the entries are right where those that are still to be looked at are
abbrev pub invariant-entries_are_spelt-loop-index : goal.invariant-entries_are_spelt-loop-index
invariant-entries_are_spelt-loop-index l =
    meet_each (spelling_of_components (on_components_of (map on_one (drop l.index l.components)))) (map (option_map datum_of) (drop l.index l.entries))
    ≡ meet_each (spelling_of_components (on_components_of (map on_one l.components))) (map (option_map datum_of) l.entries)

-- all elements are right where those that are still to be looked at are
abbrev pub invariant-elements_are_spelt-loop-element : goal.invariant-elements_are_spelt-loop-element
invariant-elements_are_spelt-loop-element l =
    list_all (λ d. meets (spelling (constraint_of l.constraint)) d) (map datum_of (drop l.element-index l.elements))
    ≡ list_all (λ d. meets (spelling (constraint_of l.constraint)) d) (map datum_of l.elements)
