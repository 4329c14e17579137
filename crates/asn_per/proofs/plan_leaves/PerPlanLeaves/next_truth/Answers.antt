use Rattle.std.proofs.Common.{arith}
use Rattle.asn_per.specs.Rules.{per_ruling}
use Rattle.asn_per.specs.Walk.{per_coding}
use Rattle.asn_plan.specs.Words.{before}
use Rattle.asn_per.proofs.Plan.WordsRead.{bits_taken, truth_first}
use Rattle.asn_per.proofs.plan_leaves.PerPlanLeaves.next_truth.Goals as goal

pub returns : goal.returns
unfolding per_coding per_ruling
returns c us =
    truth_first c.in_ok-bit.bit (before per_coding c.args.word.now us) (before per_coding c.take.new.self us) (omega (arith, c.in_ok-bit.ensures.fits)) (bits_taken c.args.word.now c.take.new.self 1 c.in_ok-bit.bit us c.in_ok-bit.ensures.some)
