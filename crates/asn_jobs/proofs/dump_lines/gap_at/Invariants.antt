use Rattle.std.proofs.Common.{◌≡◌, ◌+◌, length}
use Rattle.asn_jobs.specs.DumpLines.{gap_at}
use Rattle.asn_jobs.proofs.dump_lines.gap_at.Given as goal

-- no two blanks in a row so far
abbrev pub invariant-loop-rest : goal.invariant-loop-rest
invariant-loop-rest l = (gap_at l.initial.rest ≡ l.count + gap_at l.rest) × (length l.initial.rest ≡ l.count + length l.rest)

abbrev pub decreases-loop-rest : goal.decreases-loop-rest
decreases-loop-rest l = length l.rest
