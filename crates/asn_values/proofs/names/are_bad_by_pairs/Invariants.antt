use Rattle.std.proofs.Common.{◌≡◌, ◌++◌, map, drop}
use Rattle.asn_values.specs.Profile as profile
use Rattle.asn_values.proofs.names.are_bad_by_pairs.Given as goal

-- what is left of the first list, before all of the second, decides
abbrev pub invariant-loop-index : goal.invariant-loop-index
invariant-loop-index g l =
    profile.bad_names (map g.T.Named.name_of (drop l.index l.root) ++ map g.T.Named.name_of l.additions)
    ≡ profile.bad_names (map g.T.Named.name_of l.root ++ map g.T.Named.name_of l.additions)

-- what is left of the second decides
abbrev pub invariant-loop-index-2 : goal.invariant-loop-index-2
invariant-loop-index-2 g l =
    profile.bad_names (map g.T.Named.name_of (drop l.index l.additions))
    ≡ profile.bad_names (map g.T.Named.name_of l.root ++ map g.T.Named.name_of l.additions)
