use Rattle.std.proofs.Common.{◌≡◌, map, take}
use Rattle.asn_per.specs.Kinds.{truth_of}
use Rattle.asn_per.proofs.single_items.truths.Given as goal

abbrev pub invariant-loop-bit : goal.invariant-loop-bit
invariant-loop-bit l = l.truths.items ≡ map truth_of (take l.bit-index l.bits)
