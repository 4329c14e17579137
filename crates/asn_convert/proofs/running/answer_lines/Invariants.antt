use Rattle.std.proofs.Common.{length}
use Rattle.asn_values.specs.View.{shape_of}
use Rattle.asn_rules.specs.Faults.{state_of}
use Rattle.asn_convert.specs.Answers.{rulings}
use Rattle.asn_jobs.specs.Lines.{lines_of}
use Rattle.asn_convert.specs.Text.{terms}
use Rattle.asn_convert.proofs.Told.{IsSoFar}
use Rattle.asn_convert.proofs.running.answer_lines.Given as goal

-- what was written, and then answers to the lines that are left, are answers to all
abbrev pub invariant-loop-line : goal.invariant-loop-line
invariant-loop-line g l = IsSoFar (terms (rulings g.A.Rules.ruling g.B.Rules.ruling g.A.OtherVersions.loose) l.rules l.order (shape_of l.planned)) (lines_of l.lines) (lines_of l.rest) l.all_good (state_of g.W.Write.contents l.fn.output) (state_of g.W.Write.contents l.output)

abbrev pub decreases-loop-line : goal.decreases-loop-line
decreases-loop-line g l = length l.rest
