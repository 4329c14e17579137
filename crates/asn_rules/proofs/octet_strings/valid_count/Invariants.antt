use Rattle.std.proofs.Common.{length, ◌-◌, ◌≤◌, take, IsTrue}
use Rattle.std.specs.List.{AllByRecursion}
use Rattle.asn_values.specs.Fits.{is_of_kind}
use Rattle.asn_values.specs.View.{alphabet_of}
use Rattle.asn_rules.proofs.octet_strings.valid_count.Given as goal

abbrev pub invariant-loop-count : goal.invariant-loop-count
invariant-loop-count l = (l.count ≤ length l.octets) × AllByRecursion (λ c. IsTrue (is_of_kind (alphabet_of l.kind) c)) (take l.count l.octets)

abbrev pub decreases-loop-count : goal.decreases-loop-count
decreases-loop-count l = length l.octets - l.count
