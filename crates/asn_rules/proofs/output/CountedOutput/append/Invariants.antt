use Rattle.std.proofs.Common.{length, ◌-◌, ◌≡◌, ◌≤◌, take}
use Rattle.std.specs.Io.KnownBytes.{Appends}
use Rattle.asn_rules.specs.Faults.{inner_of, faults_of}
use Rattle.asn_rules.proofs.output.CountedOutput.append.Given as goal

-- the octets before `done` were written, without a fault
abbrev pub invariant-loop-done : goal.invariant-loop-done
invariant-loop-done g l =
    (l.done ≤ length l.octets)
    × Appends (g.W.Write.contents (inner_of l.initial.self)) (g.W.Write.contents (inner_of l.self)) (take l.done l.octets)
    × (faults_of l.self ≡ faults_of l.initial.self)

abbrev pub decreases-loop-done : goal.decreases-loop-done
decreases-loop-done g l = length l.octets - l.done
