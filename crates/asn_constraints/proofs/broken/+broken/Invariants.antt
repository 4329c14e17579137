use Rattle.std.proofs.Common.{◌≡◌, true, map, take}
use Rattle.std.specs.List.{list_all}
use Rattle.asn_values.specs.View.{datum_of, entries_seen}
use Rattle.asn_constraints.specs.Constraints.{meets}
use Rattle.asn_constraints.specs.Broken.{right_before}
use Rattle.asn_constraints.specs.View.{constraint_of, components_seen}
use Rattle.asn_constraints.proofs.broken.+broken.Given as goal

-- the entries that were looked at are right
abbrev pub invariant-broken_component-loop-index : goal.invariant-broken_component-loop-index
invariant-broken_component-loop-index l = right_before l.index (components_seen l.components) (entries_seen l.entries) ≡ true

-- the elements that were looked at meet the constraint
abbrev pub invariant-broken_element-loop-index : goal.invariant-broken_element-loop-index
invariant-broken_element-loop-index l = list_all (λ d. meets (constraint_of l.constraint) d) (take l.index (map datum_of l.elements)) ≡ true
