use Rattle.std.proofs.Common.{◌≡◌, ◌≤◌, ◌+ℤ◌, pos, arith}
use mir.Syntax.{w128}
use mir.Val.{to_z, of_z}
use Rattle.asn_bits.proofs.Above.{kept}
use Rattle.asn_bits.proofs.Splits.{two_pow_octets}
use Rattle.asn_oer.specs.Rules.{oer_ruling}
use Rattle.asn_oer.specs.Walk.{oer_coding}
use Rattle.asn_plan.specs.Words.{before}
use Rattle.asn_oer.proofs.Plan.OctetsRead.{octets_taken, least_fits, number_held, offset_within}
use Rattle.asn_plan.proofs.Bounds.{within, low_below_highest, low_kept}
use Rattle.asn_oer.proofs.plan_leaves.OerPlanLeaves.next_ranged.Goals as goal

pub offset_from-offset-requires-clause-least : goal.offset_from-offset-requires-clause-least
unfolding oer_coding oer_ruling
offset_from-offset-requires-clause-least c =
    least_fits c.args.range.now c.requires.ranged (c.requires.ranged.octets (omega (arith, c.if-range-eq0.false)))

pub offset_from-offset-requires-clause-octets : goal.offset_from-offset-requires-clause-octets
unfolding oer_coding oer_ruling
offset_from-offset-requires-clause-octets c =
    let r = c.args.range.now in
    omega (arith, c.in_ok-octets.ensures.fits, (c.requires.ranged.octets (omega (arith, c.if-range-eq0.false))).mask, two_pow_octets r.octets)

pub at_offset-requires-clause-within_low : goal.at_offset-requires-clause-within_low
unfolding oer_coding oer_ruling
at_offset-requires-clause-within_low c =
    let r = c.args.range.now in
    rw (low_kept r c.requires.ranged) (within r c.requires.ranged).0

pub at_offset-requires-clause-within_high : goal.at_offset-requires-clause-within_high
unfolding oer_coding oer_ruling
at_offset-requires-clause-within_high c =
    let r = c.args.range.now in
    rw (low_kept r c.requires.ranged) (low_below_highest r c.requires.ranged)

pub returns-clause-some : goal.returns-clause-some
unfolding oer_coding oer_ruling
returns-clause-some c us =
    let r = c.args.range.now in
    let held = c.requires.ranged.octets (omega (arith, c.if-range-eq0.false)) in
    let n = c.in_ok-octets.octets in
    let off = c.offset_from-offset.result in
    let few : off ≤ r.highest = omega (arith, c.if-offset-range.false) in
    let whole = number_held r n off (before oer_coding c.args.word.now us) (before oer_coding c.take_below.new.self us) c.requires.ranged held c.offset_from-offset.ensures few (octets_taken c.args.word.now c.take_below.new.self r.octets n us c.in_ok-octets.ensures.some) in
    let value : c.at_offset.result ≡ r.low +ℤ pos off = rw (low_kept r c.requires.ranged) at c.at_offset.ensures in
    let same : to_z w128 (of_z w128 (r.low +ℤ pos off)) ≡ r.low +ℤ pos off = kept (r.low +ℤ pos off) whole.spelt.fits.0.0 whole.spelt.fits.0.1 in
    rw (value, same) whole

pub returns-clause-of_integers : goal.returns-clause-of_integers
unfolding oer_coding oer_ruling
returns-clause-of_integers c =
    let r = c.args.range.now in
    let few : c.offset_from-offset.result ≤ r.highest = omega (arith, c.if-offset-range.false) in
    let z = offset_within r c.offset_from-offset.result c.requires.ranged few in
    let value : c.at_offset.result ≡ r.low +ℤ pos c.offset_from-offset.result = rw (low_kept r c.requires.ranged) at c.at_offset.ensures in
    let same : to_z w128 (of_z w128 (r.low +ℤ pos c.offset_from-offset.result)) ≡ r.low +ℤ pos c.offset_from-offset.result = kept (r.low +ℤ pos c.offset_from-offset.result) z.0 z.1 in
    rw (value, same) z
