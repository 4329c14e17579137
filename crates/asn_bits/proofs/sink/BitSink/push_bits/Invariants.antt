use Rattle.std.proofs.Common.{length, ◌-◌}
use Rattle.asn_bits.proofs.ItemRows.{one_bit, Row}
use Rattle.asn_bits.proofs.sink.BitSink.push_bits.Given as goal

abbrev pub invariant-loop-done : goal.invariant-loop-done
invariant-loop-done l = Row one_bit l.truths l.fn.self l.self l.done

abbrev pub decreases-loop-done : goal.decreases-loop-done
decreases-loop-done l = length l.truths - l.done
