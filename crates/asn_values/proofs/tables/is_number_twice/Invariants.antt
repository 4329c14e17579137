use Rattle.std.proofs.Common.{◌≡◌, ◌≤◌, ◌++◌, [], ℤ, false, drop, length}
use Rattle.std.specs.HashSet.{contains}
use Rattle.std.specs.List.{list_any}
use Rattle.std.specs.Ordering.{int_eq}
use Rattle.asn_values.specs.Profile as profile
use Rattle.asn_values.specs.View.{numbers_seen}
use Rattle.asn_values.proofs.tables.is_number_twice.Given as goal

-- the table has the numbers of the additions from the index on, each of which stands there once
abbrev pub invariant-additions : goal.invariant-additions
invariant-additions l = record {
  inside : l.index ≤ length l.additions;
  found : (q : ℤ) → contains int_eq l.later q ≡ list_any (profile.int_eq q) (drop l.index (numbers_seen l.additions) ++ []);
  once : profile.has_twice profile.int_eq (drop l.index (numbers_seen l.additions) ++ []) ≡ false;
}

abbrev pub decreases-additions : goal.decreases-additions
decreases-additions l = l.index

-- and then those of the root before them
abbrev pub invariant-root : goal.invariant-root
invariant-root l = record {
  inside : l.index ≤ length l.root;
  found : (q : ℤ) → contains int_eq l.later q ≡ list_any (profile.int_eq q) (drop l.index (numbers_seen l.root) ++ numbers_seen l.additions);
  once : profile.has_twice profile.int_eq (drop l.index (numbers_seen l.root) ++ numbers_seen l.additions) ≡ false;
}

abbrev pub decreases-root : goal.decreases-root
decreases-root l = l.index
