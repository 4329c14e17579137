use Rattle.std.proofs.Common.{◌≡◌, ◌++◌, ℕ, List, length}
use Rattle.asn_bits.specs.Lengths.{general_octets}
use Rattle.asn_sinks.proofs.sink.Sink.push_general_octets.Given as goal

abbrev pub invariant-loop-rest : goal.invariant-loop-rest
invariant-loop-rest g l =
    (done : List ℕ) × (done ++ general_octets (λ u. u) l.rest ≡ general_octets (λ u. u) l.octets)
    × g.Self.Sink.pushes l.initial.self l.self done

abbrev pub decreases-loop-rest : goal.decreases-loop-rest
decreases-loop-rest g l = length l.rest
