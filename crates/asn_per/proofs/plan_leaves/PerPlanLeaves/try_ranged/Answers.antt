use Rattle.std.proofs.Common.{◌≡◌, ◌≤◌, ◌++◌, ◌+ℤ◌, pos, ap, ◌∙◌}
use mir.Syntax.{w128}
use mir.Val.{to_z, of_z}
use Rattle.asn_bits.specs.Numbers.{bits}
use Rattle.asn_bits.proofs.Above.{kept}
use Rattle.asn_bits.proofs.Weights.{bits_only}
use Rattle.asn_per.specs.Rules.{per_ruling}
use Rattle.asn_per.specs.Walk.{per_coding}
use Rattle.asn_plan.proofs.Bounds.{within, low_below_highest, low_kept}
use Rattle.asn_per.proofs.Plan.RangedRead.{number_first}
use Rattle.asn_per.proofs.plan_leaves.PerPlanLeaves.try_ranged.Goals as goal

pub at_offset-requires-clause-within_low : goal.at_offset-requires-clause-within_low
at_offset-requires-clause-within_low c =
    let r = c.args.range.now in
    rw (low_kept r c.requires.ranged) (within r c.requires.ranged).0

pub at_offset-requires-clause-within_high : goal.at_offset-requires-clause-within_high
at_offset-requires-clause-within_high c =
    let r = c.args.range.now in
    rw (low_kept r c.requires.ranged) (low_below_highest r c.requires.ranged)

pub returns-clause-some : goal.returns-clause-some
unfolding per_coding per_ruling
returns-clause-some c =
    let r = c.args.range.now in
    let n = c.in_ok-offset.offset in
    let first = c.in_ok-offset.ensures.some in
    let few : n ≤ r.highest = first.spelt.member.1 in
    let is = (bits_only r.bits n first.number first.spelt.digits).1 in
    let split : c.args.units.now ≡ bits r.bits n ++ c.try_number.new.bits = first.split ∙ ap (λ t. t ++ c.try_number.new.bits) is in
    let whole = number_first r n c.args.units.now c.try_number.new.bits c.requires.ranged few split in
    let value : c.at_offset.result ≡ r.low +ℤ pos n = rw (low_kept r c.requires.ranged) at c.at_offset.ensures in
    let same : to_z w128 (of_z w128 (r.low +ℤ pos n)) ≡ r.low +ℤ pos n = kept (r.low +ℤ pos n) whole.spelt.fits.0.0 whole.spelt.fits.0.1 in
    rw (value, same) whole

pub returns-clause-of_integers : goal.returns-clause-of_integers
unfolding per_coding per_ruling
returns-clause-of_integers c =
    let r = c.args.range.now in
    let n = c.in_ok-offset.offset in
    let first = c.in_ok-offset.ensures.some in
    let few : n ≤ r.highest = first.spelt.member.1 in
    let is = (bits_only r.bits n first.number first.spelt.digits).1 in
    let split : c.args.units.now ≡ bits r.bits n ++ c.try_number.new.bits = first.split ∙ ap (λ t. t ++ c.try_number.new.bits) is in
    let whole = number_first r n c.args.units.now c.try_number.new.bits c.requires.ranged few split in
    let value : c.at_offset.result ≡ r.low +ℤ pos n = rw (low_kept r c.requires.ranged) at c.at_offset.ensures in
    let same : to_z w128 (of_z w128 (r.low +ℤ pos n)) ≡ r.low +ℤ pos n = kept (r.low +ℤ pos n) whole.spelt.fits.0.0 whole.spelt.fits.0.1 in
    rw (value, same) (whole.spelt.fits.0.0, whole.spelt.fits.0.1)
