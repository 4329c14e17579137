use Rattle.std.proofs.Common.{◌≤ℤ◌, ℤ, sym, subst}
use Rattle.asn_values.specs.Fits.{lowest_integer}
use Rattle.asn_plan.proofs.IntegerRanges.{low_above_lowest, low_kept}
use Rattle.asn_per.proofs.integers.excluded_offset.Goals as goal

pub wide_offset_from-requires-clause-within_low : goal.wide_offset_from-requires-clause-within_low
wide_offset_from-requires-clause-within_low c =
    subst (λ (z : ℤ). lowest_integer ≤ℤ z) (sym (low_kept c.args.low c.args.high c.requires.of_profile)) (low_above_lowest c.args.low c.args.high c.requires.of_profile)
