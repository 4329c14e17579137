use Rattle.std.proofs.Common.{arith}
use Rattle.std.proofs.lemmas.Bool.{ltb-true}
use Rattle.asn_per.specs.Rules.{per_ruling}
use Rattle.asn_per.specs.Walk.{per_coding}
use Rattle.asn_plan.specs.Words.{before}
use Rattle.asn_per.proofs.Plan.WordsRead.{bits_taken, unmarked_first, marked_first}
use Rattle.asn_per.proofs.plan_leaves.PerPlanLeaves.next_preamble.Goals as goal
use Rattle.asn_per.proofs.plan_leaves.PerPlanLeaves.next_preamble.Goals.{else-mark-gt0-via-then-mark-gt0+else-listed-eq0, else-mark-gt0-via-else-mark-gt0}

pub returns-in_default : goal.returns-in_default
unfolding per_coding per_ruling
returns-in_default c = record {
  some = λ us. rw c.in_default.is (unmarked_first c.args.count c.in_ok-alone.alone (before per_coding c.args.word.now us) (before per_coding c.take_below.new.self us) (omega (arith, c.in_ok-alone.ensures.fits, c.requires.mask)) (bits_taken c.args.word.now c.take_below.new.self c.args.count c.in_ok-alone.alone us c.in_ok-alone.ensures.some));
}

pub returns : goal.returns
unfolding per_coding per_ruling
returns c = record {
  some = λ us. marked_first c.args.count c.in-Some.listed c.in_ok-mark.mark c.in_ok-bitmap.bitmap c.args.additions (before per_coding c.args.word.now us) (before per_coding c.take.new.self us) (before per_coding c.take_below-2.new.self us) c.in-Some.is (omega (arith, c.in_ok-mark.ensures.fits)) (λ h. elim c.else-mark-gt0.branch [ else-mark-gt0-via-then-mark-gt0+else-listed-eq0 w ↦ omega (arith, w.if-listed-eq0.false) | else-mark-gt0-via-else-mark-gt0 w ↦ absurd (omega (arith, ltb-true 0 c.in_ok-mark.mark h, w.if-mark-gt0.false)) ]) (bits_taken c.args.word.now c.take.new.self 1 c.in_ok-mark.mark us c.in_ok-mark.ensures.some) (omega (arith, c.in_ok-bitmap.ensures.fits, c.requires.mask)) (bits_taken c.take.new.self c.take_below-2.new.self c.args.count c.in_ok-bitmap.bitmap us c.in_ok-bitmap.ensures.some);
}
