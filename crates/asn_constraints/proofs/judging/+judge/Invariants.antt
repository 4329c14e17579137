use Rattle.std.proofs.Common.{◌≡◌, map, option_map, drop}
use Rattle.std.specs.List.{list_all}
use Rattle.asn_values.specs.View.{datum_of}
use Rattle.asn_constraints.specs.Constraints.{meets, meet_each}
use Rattle.asn_constraints.specs.View.{constraint_of, on_one, on_components_of}
use Rattle.asn_constraints.proofs.judging.+judge.Given as goal

-- the entries are right where those that are still to be looked at are
abbrev pub invariant-entries_meet-loop-index : goal.invariant-entries_meet-loop-index
invariant-entries_meet-loop-index l =
    meet_each (on_components_of (map on_one (drop l.index l.components))) (map (option_map datum_of) (drop l.index l.entries))
    ≡ meet_each (on_components_of (map on_one l.components)) (map (option_map datum_of) l.entries)

-- all elements meet the constraint where those that are still to be looked at do
abbrev pub invariant-elements_meet-loop-element : goal.invariant-elements_meet-loop-element
invariant-elements_meet-loop-element l =
    list_all (λ d. meets (constraint_of l.constraint) d) (map datum_of (drop l.element-index l.elements)) ≡ list_all (λ d. meets (constraint_of l.constraint) d) (map datum_of l.elements)
