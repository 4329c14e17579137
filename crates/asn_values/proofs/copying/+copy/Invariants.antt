use Rattle.std.proofs.Common.{◌≡◌, map, option_map, take}
use Rattle.asn_values.specs.View.{datum_of}
use Rattle.asn_values.proofs.copying.+copy.Given as goal

-- what is copied is the same as what is gone over
abbrev pub invariant-copy_entries-loop-entry : goal.invariant-copy_entries-loop-entry
invariant-copy_entries-loop-entry l =
    map (option_map datum_of) l.copies.items ≡ map (option_map datum_of) (take l.entry-index l.entry-items)

abbrev pub invariant-copy_elements-loop-element : goal.invariant-copy_elements-loop-element
invariant-copy_elements-loop-element l = map datum_of l.copies.items ≡ map datum_of (take l.element-index l.element-items)
