use Rattle.std.proofs.Common.{◌≡◌, ◌≤◌, ◌++◌, ℕ, List, [], false, drop, length, map, bytes_eq}
use Rattle.std.specs.Borrow.{Bor}
use Rattle.std.specs.HashSet.{contains}
use Rattle.std.specs.List.{list_any}
use Rattle.asn_values.specs.Profile.{has_twice}
use Rattle.asn_values.proofs.tables.is_name_twice.Given as goal

-- the table has the names of the additions from the index on, each of which stands there once
abbrev pub invariant-additions : goal.invariant-additions
invariant-additions g l = record {
  inside : l.index ≤ length l.additions;
  found : (q : Bor (List ℕ)) → contains (λ x y. bytes_eq x.now y.now) l.later q
      ≡ list_any (bytes_eq q.now) (drop l.index (map g.T.Named.name_of l.additions) ++ []);
  once : has_twice bytes_eq (drop l.index (map g.T.Named.name_of l.additions) ++ []) ≡ false;
}

abbrev pub decreases-additions : goal.decreases-additions
decreases-additions g l = l.index

-- and then those of the root before them
abbrev pub invariant-root : goal.invariant-root
invariant-root g l = record {
  inside : l.index ≤ length l.root;
  found : (q : Bor (List ℕ)) → contains (λ x y. bytes_eq x.now y.now) l.later q
      ≡ list_any (bytes_eq q.now) (drop l.index (map g.T.Named.name_of l.root) ++ map g.T.Named.name_of l.additions);
  once : has_twice bytes_eq (drop l.index (map g.T.Named.name_of l.root) ++ map g.T.Named.name_of l.additions) ≡ false;
}

abbrev pub decreases-root : goal.decreases-root
decreases-root g l = l.index
