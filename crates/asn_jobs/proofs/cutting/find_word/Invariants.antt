use Rattle.asn_jobs.proofs.Taken.{HasPassed}
use Rattle.asn_jobs.proofs.cutting.find_word.Given as goal

-- the lines so far were passed over
abbrev pub invariant-loop : goal.invariant-loop
invariant-loop g l = HasPassed (g.R.Read.remaining l.initial.input) l.initial.lines (g.R.Read.remaining l.input) l.lines
