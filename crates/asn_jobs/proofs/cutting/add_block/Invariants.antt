use Rattle.asn_jobs.proofs.Taken.{HasAdded}
use Rattle.asn_jobs.proofs.cutting.add_block.Given as goal

-- the lines so far were added
abbrev pub invariant-loop : goal.invariant-loop
invariant-loop g l = HasAdded (g.R.Read.remaining l.initial.input) l.initial.lines (g.R.Read.remaining l.input) l.lines l.initial.text.items l.text.items
