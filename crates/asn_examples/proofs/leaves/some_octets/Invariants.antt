use Rattle.std.proofs.Common.{◌≡◌, ◌<◌, length}
use Rattle.std.specs.List.{AllByRecursion}
use Rattle.asn_examples.proofs.leaves.some_octets.Given as goal

-- as many as were asked for so far, each below 256
abbrev pub invariant-loop-i : goal.invariant-loop-i
invariant-loop-i l = record {
  count : length l.octets.items ≡ l.i;
  octets : AllByRecursion (λ o. o < 256) l.octets.items;
}
