use Rattle.std.proofs.Common.{rules}
use Rattle.asn_jobs.proofs.Lines.{line_passed}
use Rattle.asn_jobs.proofs.cut.cut_input.Goals as goal

pub loop-line-preserved : goal.loop-line-preserved
loop-line-preserved c =
    let before = c.loop-line.invariant in
    line_passed _ before.0 _ c.in-Some.line.now c.in-Some.later.now before.1 before.2 (search rules) (search rules)
