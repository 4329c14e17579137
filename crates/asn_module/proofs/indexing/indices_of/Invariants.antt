use Rattle.std.proofs.Common.{◌≡◌, ◌≤◌, false, ℕ, List, drop, length, bytes_eq}
use Rattle.std.specs.HashMap as hash
use Rattle.asn_values.specs.Profile.{has_twice}
use Rattle.asn_notation.specs.Tree.{assignments_view}
use Rattle.asn_module.specs.Lookup.{index_from, assigned_names}
use Rattle.asn_module.proofs.indexing.indices_of.Given as goal

abbrev pub invariant-names : goal.invariant-names
invariant-names l = record {
  inside : l.index ≤ length l.assignments;
  finds : (q : List ℕ) → hash.get_by (λ k. bytes_eq q k.now) l.indices ≡ index_from l.index q (drop l.index (assigned_names (assignments_view l.assignments)));
  distinct : has_twice bytes_eq (drop l.index (assigned_names (assignments_view l.assignments))) ≡ false;
}

abbrev pub decreases-names : goal.decreases-names
decreases-names l = l.index
