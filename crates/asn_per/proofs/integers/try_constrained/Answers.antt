use Rattle.std.proofs.Common.{◌≡◌, ◌+◌, ◌+ℤ◌, pos, Some, None}
use mir.Syntax.{w128}
use mir.Val.{to_z, of_z}
use Rattle.asn_bits.specs.Numbers.{above, width}
use Rattle.asn_bits.specs.Sets.{InSet}
use Rattle.asn_bits.proofs.Above.{kept}
use Rattle.asn_rules.specs.Languages.{Spells, Plain}
use Rattle.asn_rules.proofs.Numbers.Sets.{first_spells}
use Rattle.asn_per.specs.Per.{per_fields}
use Rattle.asn_rules.specs.NumberSets.{Admits, up_to}
use Rattle.asn_per.proofs.Types.IntegerLanguages.{constrained_leads}
use Rattle.asn_plan.proofs.IntegerRanges.{low_above_lowest, low_below_highest, high_below_highest, low_below_high, low_kept, high_kept}
use Rattle.asn_per.proofs.integers.try_constrained.Goals as goal

pub wide_offset_from-highest-requires-clause-ordered : goal.wide_offset_from-highest-requires-clause-ordered
wide_offset_from-highest-requires-clause-ordered c =
    let g = c.requires.of_profile in
    rw (low_kept c.args.low (Some c.args.high) g, high_kept c.args.low c.args.high g) (low_below_high c.args.low c.args.high g)

pub wide_offset_from-highest-requires-clause-within_low : goal.wide_offset_from-highest-requires-clause-within_low
wide_offset_from-highest-requires-clause-within_low c =
    let g = c.requires.of_profile in
    rw (low_kept c.args.low (Some c.args.high) g) (low_above_lowest c.args.low (Some c.args.high) g)

pub wide_offset_from-highest-requires-clause-within_high : goal.wide_offset_from-highest-requires-clause-within_high
wide_offset_from-highest-requires-clause-within_high c =
    let g = c.requires.of_profile in
    rw (high_kept c.args.low c.args.high g) (high_below_highest c.args.low c.args.high g)

pub at_offset-requires-clause-within_low : goal.at_offset-requires-clause-within_low
at_offset-requires-clause-within_low c =
    let g = c.requires.of_profile in
    rw (low_kept c.args.low (Some c.args.high) g) (low_above_lowest c.args.low (Some c.args.high) g)

pub at_offset-requires-clause-within_high : goal.at_offset-requires-clause-within_high
at_offset-requires-clause-within_high c =
    let g = c.requires.of_profile in
    rw (low_kept c.args.low (Some c.args.high) g) (low_below_highest c.args.low (Some c.args.high) g)

pub returns-clause-some : goal.returns-clause-some
returns-clause-some c =
    let g = c.requires.of_profile in
    let top : c.wide_offset_from-highest.result ≡ above c.args.low c.args.high = rw (low_kept c.args.low (Some c.args.high) g, high_kept c.args.low c.args.high g) at c.wide_offset_from-highest.ensures.is in
    let n = c.in_ok-offset.offset in
    let first : Spells per_fields (Plain (InSet c.width_up_to.result (λ m. Admits (up_to c.wide_offset_from-highest.result None) m))) n c.args.bits.now c.try_number.new.bits = first_spells per_fields c.in_ok-offset.ensures.some in
    let spelt : Spells per_fields (Plain (InSet (width (above c.args.low c.args.high + 1)) (λ m. Admits (up_to (above c.args.low c.args.high) None) m))) n c.args.bits.now c.try_number.new.bits =
    rw (c.width_up_to.ensures.width, top) at first in
    let whole = (constrained_leads c.args.low c.args.high None g tt c.args.bits.now).done n c.try_number.new.bits spelt in
    let value : c.at_offset.result ≡ c.args.low +ℤ pos n = rw (low_kept c.args.low (Some c.args.high) g) at c.at_offset.ensures in
    let same : to_z w128 (of_z w128 (c.args.low +ℤ pos n)) ≡ c.args.low +ℤ pos n = kept (c.args.low +ℤ pos n) whole.spelt.fits.0.0 whole.spelt.fits.0.1 in
    rw (value, same) whole

pub returns-clause-of_integers : goal.returns-clause-of_integers
returns-clause-of_integers c =
    let g = c.requires.of_profile in
    let top : c.wide_offset_from-highest.result ≡ above c.args.low c.args.high = rw (low_kept c.args.low (Some c.args.high) g, high_kept c.args.low c.args.high g) at c.wide_offset_from-highest.ensures.is in
    let n = c.in_ok-offset.offset in
    let first : Spells per_fields (Plain (InSet c.width_up_to.result (λ m. Admits (up_to c.wide_offset_from-highest.result None) m))) n c.args.bits.now c.try_number.new.bits = first_spells per_fields c.in_ok-offset.ensures.some in
    let spelt : Spells per_fields (Plain (InSet (width (above c.args.low c.args.high + 1)) (λ m. Admits (up_to (above c.args.low c.args.high) None) m))) n c.args.bits.now c.try_number.new.bits =
    rw (c.width_up_to.ensures.width, top) at first in
    let whole = (constrained_leads c.args.low c.args.high None g tt c.args.bits.now).done n c.try_number.new.bits spelt in
    let value : c.at_offset.result ≡ c.args.low +ℤ pos n = rw (low_kept c.args.low (Some c.args.high) g) at c.at_offset.ensures in
    let same : to_z w128 (of_z w128 (c.args.low +ℤ pos n)) ≡ c.args.low +ℤ pos n = kept (c.args.low +ℤ pos n) whole.spelt.fits.0.0 whole.spelt.fits.0.1 in
    rw (value, same) (whole.spelt.fits.0.0, whole.spelt.fits.0.1)
