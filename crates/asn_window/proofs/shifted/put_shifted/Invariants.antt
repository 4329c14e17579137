use Rattle.std.proofs.Common.{◌++◌, ℕ, List, length}
use Rattle.asn_bits.specs.Numbers.{bits, unpacked}
use Rattle.asn_rules.specs.Held.{Held}
use Rattle.asn_window.specs.OctetWriters.{OctetsStand}
use Rattle.asn_window.proofs.shifted.put_shifted.Given as goal

-- the octets before the rest were taken, and the last bits of the last of them wait
abbrev pub invariant-loop-rest : goal.invariant-loop-rest
invariant-loop-rest g l =
    (start : Held) (coming all : List ℕ)
    → OctetsStand start (g.O.Output.held l.initial.output) l.initial.writer (bits l.count l.pending ++ (unpacked l.octets ++ coming)) all
    → OctetsStand start (g.O.Output.held l.output) l.writer (bits l.count l.high ++ (unpacked l.rest ++ coming)) all

abbrev pub decreases-loop-rest : goal.decreases-loop-rest
decreases-loop-rest g l = length l.rest
