use Rattle.std.proofs.Common.{◌≡◌, ◌++◌, map, option_map, take}
use Rattle.asn_values.specs.Datum.{components_of, elements_of}
use Rattle.asn_values.specs.View.{datum_of}
use Rattle.asn_fields.specs.Leaves.{leaves_present, leaves_each}
use Rattle.asn_fields.proofs.leaves.+leaves.Given as goal

-- those of the entries so far are added
abbrev pub invariant-push_present-loop-entry : goal.invariant-push_present-loop-entry
invariant-push_present-loop-entry l =
    map datum_of l.all.items ≡ map datum_of l.initial.all.items ++ leaves_present (components_of (map (option_map datum_of) (take l.entry-index l.entries)))

-- and those of the elements
abbrev pub invariant-push_each-loop-element : goal.invariant-push_each-loop-element
invariant-push_each-loop-element l =
    map datum_of l.all.items ≡ map datum_of l.initial.all.items ++ leaves_each (elements_of (map datum_of (take l.element-index l.elements)))
