use Rattle.std.proofs.Common.{◌≡◌, ◌++◌, ℕ, List, length}
use Rattle.asn_bits.specs.Numbers.{unpacked}
use Rattle.asn_sinks.specs.Sink.{Pushes}
use Rattle.asn_window.specs.Windows.{WindowStands}
use Rattle.asn_window.proofs.window.Window.put_inside.Given as goal

-- the octets before the rest were taken
abbrev pub invariant-loop-rest : goal.invariant-loop-rest
invariant-loop-rest g l =
    (done : List ℕ) × (l.octets ≡ done ++ l.rest)
    × Pushes (λ w c taken coming. WindowStands g.O.Output.held w c taken coming) l.initial.self l.self (unpacked done)

abbrev pub decreases-loop-rest : goal.decreases-loop-rest
decreases-loop-rest g l = length l.rest
