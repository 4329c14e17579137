use Rattle.std.proofs.Common.{◌≡◌, ◌++◌, map, drop}
use Rattle.asn_values.specs.Profile.{has_twice, int_eq}
use Rattle.asn_values.specs.View.{label_of}
use Rattle.asn_values.proofs.enumerations.has_number_twice_by_pairs.Given as goal

-- what is left of the first list, before all of the second, decides
abbrev pub invariant-loop-index : goal.invariant-loop-index
invariant-loop-index l =
    has_twice int_eq (map (λ i. i.number) (map label_of (drop l.index l.root)) ++ map (λ i. i.number) (map label_of l.additions))
    ≡ has_twice int_eq (map (λ i. i.number) (map label_of l.root) ++ map (λ i. i.number) (map label_of l.additions))

-- what is left of the second decides
abbrev pub invariant-loop-index-2 : goal.invariant-loop-index-2
invariant-loop-index-2 l =
    has_twice int_eq (map (λ i. i.number) (map label_of (drop l.index l.additions)))
    ≡ has_twice int_eq (map (λ i. i.number) (map label_of l.root) ++ map (λ i. i.number) (map label_of l.additions))
