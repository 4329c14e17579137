use Rattle.std.proofs.Common.{map, take}
use Rattle.asn_bits.specs.Sink.{bit_of}
use Rattle.asn_bits.proofs.ItemRows.{Word}
use Rattle.asn_bits.proofs.bit_rows.word_of_bits.Given as goal

abbrev pub invariant-loop-truth : goal.invariant-loop-truth
invariant-loop-truth l = Word l.truth-index l.word (map bit_of (take l.truth-index l.truths))
