use Rattle.std.proofs.Common.{◌≡◌, ◌↔◌, map, option_map, drop}
use Rattle.asn_values.specs.View.{datum_of}
use Rattle.asn_values.proofs.equality.+same.Given as goal

-- the lists are the same where what is still to be compared is
abbrev pub invariant-same_entries-loop-index : goal.invariant-same_entries-loop-index
invariant-same_entries-loop-index l =
    (map (option_map datum_of) (drop l.index l.left) ≡ map (option_map datum_of) (drop l.index l.right))
    ↔ (map (option_map datum_of) l.left ≡ map (option_map datum_of) l.right)

abbrev pub invariant-same_elements-loop-index : goal.invariant-same_elements-loop-index
invariant-same_elements-loop-index l =
    (map datum_of (drop l.index l.left) ≡ map datum_of (drop l.index l.right)) ↔ (map datum_of l.left ≡ map datum_of l.right)
