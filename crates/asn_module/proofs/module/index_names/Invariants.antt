use Rattle.std.proofs.Common.{◌≡◌, ◌≤◌, ℕ, List, drop, length}
use Rattle.std.specs.HashMap as hash
use Rattle.asn_module.specs.Lookup.{index_from, names_in}
use Rattle.asn_module.proofs.module.index_names.Given as goal

abbrev pub invariant-names : goal.invariant-names
invariant-names l = record {
  inside : l.index ≤ length l.types;
  finds : (q : List ℕ) → hash.get_by_text l.indices q ≡ index_from l.index q (drop l.index (names_in l.types));
}

abbrev pub decreases-names : goal.decreases-names
decreases-names l = l.index
