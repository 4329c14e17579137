use Rattle.std.proofs.Common.{◌++◌, ℕ, List, length}
use Rattle.asn_bits.specs.Numbers.{unpacked}
use Rattle.asn_rules.specs.Held.{Held}
use Rattle.asn_window.specs.OctetWriters.{OctetsStand}
use Rattle.asn_window.proofs.octet_writer.OctetWriter.put_parts.Given as goal

-- the octets before the rest were taken
abbrev pub invariant-loop-rest : goal.invariant-loop-rest
invariant-loop-rest g l =
    (start : Held) (coming all : List ℕ)
    → OctetsStand start (g.O.Output.held l.initial.output) l.initial.self (unpacked l.octets ++ coming) all
    → OctetsStand start (g.O.Output.held l.output) l.self (unpacked l.rest ++ coming) all

abbrev pub decreases-loop-rest : goal.decreases-loop-rest
decreases-loop-rest g l = length l.rest
