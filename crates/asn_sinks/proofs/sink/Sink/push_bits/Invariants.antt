use Rattle.std.proofs.Common.{◌≡◌, ◌++◌, ℕ, List, length, map}
use Rattle.asn_bits.specs.Sink.{bit_of}
use Rattle.asn_sinks.proofs.sink.Sink.push_bits.Given as goal

abbrev pub invariant-loop-rest : goal.invariant-loop-rest
invariant-loop-rest g l =
    (done : List ℕ) × (done ++ map bit_of l.rest ≡ map bit_of l.truths)
    × g.Self.Sink.pushes l.initial.self l.self done

abbrev pub decreases-loop-rest : goal.decreases-loop-rest
decreases-loop-rest g l = length l.rest
