use Rattle.std.proofs.Common.{◌≡◌, ℕ, List, ◌++◌, length}
use Rattle.std.specs.Prelude.{option_map}
use Rattle.asn_jobs.specs.Lines.{lines_of, cut_at_mark}
use Rattle.asn_jobs.proofs.cut.cut_input.Given as goal

-- the lines in front of the rest are no mark
abbrev pub invariant-loop-line : goal.invariant-loop-line
invariant-loop-line l = (front : List ℕ) × (l.input ≡ front ++ l.rest) × (cut_at_mark (lines_of l.input) ≡ option_map (λ c. (front ++ c.0, c.1)) (cut_at_mark (lines_of l.rest)))

abbrev pub decreases-loop-line : goal.decreases-loop-line
decreases-loop-line l = length l.rest
