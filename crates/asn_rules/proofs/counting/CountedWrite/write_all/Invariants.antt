use Rattle.std.proofs.Common.{◌≡◌, ℕ, List, ◌++◌, length}
use Rattle.std.specs.Io.KnownBytes.{Appends}
use Rattle.asn_rules.specs.Faults.{inner_of, faults_of}
use Rattle.asn_rules.proofs.counting.CountedWrite.write_all.Given as goal

-- what is written so far stands before the rest, and there was no fault
abbrev pub invariant-loop-rest : goal.invariant-loop-rest
invariant-loop-rest g l = record {
  written : (front : List ℕ) × (Appends (g.W.Write.contents (inner_of l.fn.self)) (g.W.Write.contents (inner_of l.self)) front) × (front ++ l.rest ≡ l.buf);
  same : faults_of l.self ≡ faults_of l.fn.self;
}

abbrev pub decreases-loop-rest : goal.decreases-loop-rest
decreases-loop-rest g l = length l.rest
