use Rattle.std.proofs.Common.{◌≡◌, length}
use Rattle.asn_examples.proofs.leaves.some_bits.Given as goal

-- as many as were asked for so far
abbrev pub invariant-loop-i : goal.invariant-loop-i
invariant-loop-i l = length l.bits.items ≡ l.i
