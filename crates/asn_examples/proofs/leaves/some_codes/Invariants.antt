use Rattle.std.proofs.Common.{◌≡◌, length, IsTrue}
use Rattle.std.specs.List.{AllByRecursion}
use Rattle.asn_values.specs.Fits.{is_of_kind}
use Rattle.asn_values.specs.View.{alphabet_of}
use Rattle.asn_examples.proofs.leaves.some_codes.Given as goal

-- as many as were asked for so far, each of the kind
abbrev pub invariant-loop-i : goal.invariant-loop-i
invariant-loop-i l = record {
  count : length l.codes.items ≡ l.i;
  kind : AllByRecursion (λ c. IsTrue (is_of_kind (alphabet_of l.kind) c)) l.codes.items;
}
