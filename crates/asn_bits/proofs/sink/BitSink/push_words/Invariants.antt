use Rattle.std.proofs.Common.{length}
use Rattle.asn_bits.proofs.RowsAdded.{Added}
use Rattle.asn_bits.proofs.sink.BitSink.push_words.Given as goal

abbrev pub invariant-loop-eight : goal.invariant-loop-eight
invariant-loop-eight l = Added l.initial.self l.self l.octets l.rest

abbrev pub decreases-loop-eight : goal.decreases-loop-eight
decreases-loop-eight l = length l.rest
