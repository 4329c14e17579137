use Rattle.std.proofs.Common.{drop}
use Rattle.asn_bits.specs.Sets.{Touches}
use Rattle.asn_bits.proofs.intervals.Intervals.meets.Given as goal

abbrev pub invariant-loop-low : goal.invariant-loop-low
invariant-loop-low l = Touches 2 l.self l.prefix l.left → Touches 2 (drop l.low-index l.low-items) l.prefix l.left
