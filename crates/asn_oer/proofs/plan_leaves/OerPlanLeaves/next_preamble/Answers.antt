use Rattle.std.proofs.Common.{◌-◌, ◌%◌, refl, arith}
use Rattle.std.proofs.lemmas.Bool.{ltb-true}
use Rattle.asn_oer.specs.Rules.{oer_ruling}
use Rattle.asn_oer.specs.Walk.{oer_coding}
use Rattle.asn_oer.proofs.Plan.OctetsRead.{alone_held, marked_held}
use Rattle.asn_oer.proofs.plan_leaves.OerPlanLeaves.next_preamble.Goals as goal
use Rattle.asn_oer.proofs.plan_leaves.OerPlanLeaves.next_preamble.Goals.{else-mark-gt0-via-then-mark-gt0+else-listed-eq0, else-mark-gt0-via-else-mark-gt0}

pub returns-in_default : goal.returns-in_default
unfolding oer_coding oer_ruling
returns-in_default c = record {
  some = λ us. alone_held c.args.count c.in_ok-alone.alone ((8 - c.args.count % 8) % 8) c.args.additions c.args.word.now c.take_below.new.self c.next_zeros.new.word us c.in_default.is refl (omega (arith, c.in_ok-alone.ensures.fits, c.requires.mask)) c.in_ok-alone.ensures.some (c.in_ok-next_zeros.ensures refl);
}

pub returns : goal.returns
unfolding oer_coding oer_ruling
returns c = record {
  some = λ us. marked_held c.args.count c.in-Some.listed c.in_ok-mark.mark c.in_ok-bitmap.bitmap (7 - c.args.count % 8) c.args.additions c.args.word.now c.take.new.self c.take_below-2.new.self c.next_zeros-2.new.word us c.in-Some.is refl (omega (arith, c.in_ok-mark.ensures.fits)) (λ h. elim c.else-mark-gt0.branch [ else-mark-gt0-via-then-mark-gt0+else-listed-eq0 w ↦ omega (arith, w.if-listed-eq0.false) | else-mark-gt0-via-else-mark-gt0 w ↦ absurd (omega (arith, ltb-true 0 c.in_ok-mark.mark h, w.if-mark-gt0.false)) ]) (omega (arith, c.in_ok-bitmap.ensures.fits, c.requires.mask)) c.in_ok-mark.ensures.some c.in_ok-bitmap.ensures.some (c.in_ok-next_zeros-2.ensures refl);
}
