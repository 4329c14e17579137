use Rattle.std.proofs.Common.{◌≡◌, ◌-◌, ◌++◌, length, map, take}
use Rattle.asn_bits.specs.Numbers.{bits}
use Rattle.asn_bits.specs.Sink.{bit_of}
use Rattle.asn_rules.proofs.bit_vectors.overwrite_bits.Given as goal

abbrev pub invariant-loop-i : goal.invariant-loop-i
invariant-loop-i l =
    (map bit_of (take l.i l.truths) ++ bits (length l.fn.truths - l.i) l.number ≡ bits (length l.fn.truths) l.number)
    × (length l.truths ≡ length l.fn.truths)
