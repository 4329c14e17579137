use Rattle.std.proofs.Common.{◌≡◌, ◌+ℤ◌, pos, None}
use Rattle.std.proofs.lemmas.Result.{err_from_is_err_and}
use mir.Syntax.{w128}
use mir.Val.{to_z, of_z}
use Rattle.asn_values.specs.Fits.{highest_integer}
use Rattle.asn_bits.specs.Numbers.{above}
use Rattle.asn_rules.specs.Counted.{Counted, number_of, Least}
use Rattle.asn_rules.specs.Languages.{Spells, Map}
use Rattle.asn_rules.specs.Stops.{Stops}
use Rattle.asn_rules.proofs.Languages.Leads.{stops_by}
use Rattle.asn_per.specs.Per.{per_fields}
use Rattle.asn_rules.specs.NumberSets.{Admits, up_to}
use Rattle.asn_per.proofs.Types.IntegerLanguages.{offset_of, left_out_open, counted_leads, counted_some}
use Rattle.asn_plan.proofs.IntegerRanges.{low_above_lowest, low_below_highest, low_kept}
use Rattle.asn_bits.proofs.Above.{kept}
use Rattle.asn_per.proofs.integers.read_from.Goals as goal

pub wide_offset_from-highest-requires-clause-ordered : goal.wide_offset_from-highest-requires-clause-ordered
wide_offset_from-highest-requires-clause-ordered c =
    rw (low_kept c.args.low None c.requires.of_profile) (low_below_highest c.args.low None c.requires.of_profile)

pub wide_offset_from-highest-requires-clause-within_low : goal.wide_offset_from-highest-requires-clause-within_low
wide_offset_from-highest-requires-clause-within_low c =
    rw (low_kept c.args.low None c.requires.of_profile) (low_above_lowest c.args.low None c.requires.of_profile)

pub at_wide_offset-requires-clause-within_low : goal.at_wide_offset-requires-clause-within_low
at_wide_offset-requires-clause-within_low c =
    rw (low_kept c.args.low None c.requires.of_profile) (low_above_lowest c.args.low None c.requires.of_profile)

pub at_wide_offset-requires-clause-within_high : goal.at_wide_offset-requires-clause-within_high
at_wide_offset-requires-clause-within_high c =
    rw (low_kept c.args.low None c.requires.of_profile) (low_below_highest c.args.low None c.requires.of_profile)

pub read_wide_semi_constrained-requires-clause-within : goal.read_wide_semi_constrained-requires-clause-within
read_wide_semi_constrained-requires-clause-within c =
    let top : c.wide_offset_from-highest.result ≡ above c.args.low highest_integer = rw (low_kept c.args.low None c.requires.of_profile) at c.wide_offset_from-highest.ensures.is in
    let out : c.excluded_offset-left_out.result ≡ offset_of c.args.low c.args.excluded = rw (low_kept c.args.low None c.requires.of_profile) at c.excluded_offset-left_out.ensures in
    rw (top, out) (left_out_open c.args.low c.args.excluded c.requires.within)

pub read_wide_semi_constrained-requires-clause-some : goal.read_wide_semi_constrained-requires-clause-some
read_wide_semi_constrained-requires-clause-some c =
    let top : c.wide_offset_from-highest.result ≡ above c.args.low highest_integer = rw (low_kept c.args.low None c.requires.of_profile) at c.wide_offset_from-highest.ensures.is in
    let out : c.excluded_offset-left_out.result ≡ offset_of c.args.low c.args.excluded = rw (low_kept c.args.low None c.requires.of_profile) at c.excluded_offset-left_out.ensures in
    rw (top, out) (counted_some c.args.low c.args.excluded c.requires.of_profile c.requires.within c.requires.some)

pub returns-in_err-offset-clause-stop : goal.returns-in_err-offset-clause-stop
returns-in_err-offset-clause-stop c =
    let top : c.wide_offset_from-highest.result ≡ above c.args.low highest_integer = rw (low_kept c.args.low None c.requires.of_profile) at c.wide_offset_from-highest.ensures.is in
    let out : c.excluded_offset-left_out.result ≡ offset_of c.args.low c.args.excluded = rw (low_kept c.args.low None c.requires.of_profile) at c.excluded_offset-left_out.ensures in
    let p = err_from_is_err_and c.from_residual.result c.from_residual.ensures.1 in
    let stop : Stops per_fields (Map number_of (Counted 2 8 (Least (λ n. Admits (up_to (above c.args.low highest_integer) (offset_of c.args.low c.args.excluded)) n)))) c.args.bits.now c.in_err-offset.field-0.0 =
    rw (top, out) at (c.in_err-offset.ensures.stop per_fields) in
    rw (p.1, p.2) (stops_by _ (counted_leads c.args.low c.args.excluded c.requires.of_profile c.requires.within c.args.bits.now).stops stop)

pub returns-clause-done : goal.returns-clause-done
returns-clause-done c =
    let top : c.wide_offset_from-highest.result ≡ above c.args.low highest_integer = rw (low_kept c.args.low None c.requires.of_profile) at c.wide_offset_from-highest.ensures.is in
    let out : c.excluded_offset-left_out.result ≡ offset_of c.args.low c.args.excluded = rw (low_kept c.args.low None c.requires.of_profile) at c.excluded_offset-left_out.ensures in
    let n = c.in_ok-offset.offset in
    let spelt : Spells per_fields (Map number_of (Counted 2 8 (Least (λ n. Admits (up_to (above c.args.low highest_integer) (offset_of c.args.low c.args.excluded)) n)))) n c.args.bits.now c.read_wide_semi_constrained.new.bits =
    rw (top, out) at (c.in_ok-offset.ensures.done per_fields) in
    let whole = (counted_leads c.args.low c.args.excluded c.requires.of_profile c.requires.within c.args.bits.now).done n c.read_wide_semi_constrained.new.bits spelt in
    let value : c.at_wide_offset.result ≡ c.args.low +ℤ pos n = rw (low_kept c.args.low None c.requires.of_profile) at c.at_wide_offset.ensures in
    let same : to_z w128 (of_z w128 (c.args.low +ℤ pos n)) ≡ c.args.low +ℤ pos n = kept (c.args.low +ℤ pos n) whole.spelt.fits.0.0 whole.spelt.fits.0.1 in
    rw (value, same) whole
