use Rattle.std.proofs.Common.{length, ◌-◌, ◌≡◌, ◌≤◌, take}
use Rattle.std.specs.Io.KnownBytes.{Appends}
use Rattle.asn_rules.specs.Faults.{inner_of}
use Rattle.asn_convert.specs.HexHeld.{octets_known}
use Rattle.asn_convert.proofs.hex_writer.HexWriter.put.Given as goal

-- the octets before `done` were written, and others come unless the writer failed
abbrev pub invariant-loop-done : goal.invariant-loop-done
invariant-loop-done g l =
    (l.done ≤ length l.octets)
    × Appends (octets_known (g.W.Write.contents (inner_of l.initial.self.output.now)) l.initial.self.count l.initial.self.half)
    (octets_known (g.W.Write.contents (inner_of l.self.output.now)) l.self.count l.self.half) (take l.done l.octets)
    × (l.self.faults ≡ l.initial.self.faults)
    × (l.self.output.ghost_name ≡ l.initial.self.output.ghost_name)

abbrev pub decreases-loop-done : goal.decreases-loop-done
decreases-loop-done g l = length l.octets - l.done
