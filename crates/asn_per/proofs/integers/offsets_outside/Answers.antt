use Rattle.std.proofs.Common.{◌≡◌, ◌+◌, ◌∙◌, arith}
use Rattle.asn_values.specs.Fits.{lowest_integer}
use Rattle.asn_values.specs.Profile.{lowest_of, highest_of}
use Rattle.asn_values.specs.View.{range_of}
use Rattle.asn_bits.specs.Numbers.{above}
use Rattle.asn_bits.proofs.Above.{kept}
use Rattle.asn_rules.proofs.Plain.IntegerSets.{low_inside, low_is, high_is, high_inside}
use Rattle.asn_per.specs.Reading.{low_offset, high_offset}
use Rattle.asn_plan.proofs.Bounds.{root_of_profile}
use Rattle.asn_per.proofs.Read.SignedOffsets.{low_offset_is, high_offset_is, outside_offsets, some_outside}
use Rattle.asn_per.proofs.integers.offsets_outside.Goals as goal

pub wide_offset_from-requires-clause-ordered : goal.wide_offset_from-requires-clause-ordered
wide_offset_from-requires-clause-ordered c =
    let b = range_of c.args.bounds.now in
    let l = low_inside b.low b.high (root_of_profile b c.requires.of_profile) in
    let same : c.unwrap_or-low.result ≡ lowest_of b.low = c.unwrap_or-low.ensures ∙ low_is b.low in
    rw (same, kept (lowest_of b.low) l.0 l.1) l.0

pub wide_offset_from-requires-clause-within_high : goal.wide_offset_from-requires-clause-within_high
wide_offset_from-requires-clause-within_high c =
    let b = range_of c.args.bounds.now in
    let l = low_inside b.low b.high (root_of_profile b c.requires.of_profile) in
    let same : c.unwrap_or-low.result ≡ lowest_of b.low = c.unwrap_or-low.ensures ∙ low_is b.low in
    rw (same, kept (lowest_of b.low) l.0 l.1) l.1

pub wide_offset_from-requires-2-clause-ordered : goal.wide_offset_from-requires-2-clause-ordered
wide_offset_from-requires-2-clause-ordered c =
    let b = range_of c.args.bounds.now in
    let h = high_inside b.low b.high (root_of_profile b c.requires.of_profile) in
    let same : c.unwrap_or-high.result ≡ highest_of b.high = c.unwrap_or-high.ensures ∙ high_is b.high in
    rw (same, kept (highest_of b.high) h.0 h.1) h.0

pub wide_offset_from-requires-2-clause-within_high : goal.wide_offset_from-requires-2-clause-within_high
wide_offset_from-requires-2-clause-within_high c =
    let b = range_of c.args.bounds.now in
    let h = high_inside b.low b.high (root_of_profile b c.requires.of_profile) in
    let same : c.unwrap_or-high.result ≡ highest_of b.high = c.unwrap_or-high.ensures ∙ high_is b.high in
    rw (same, kept (highest_of b.high) h.0 h.1) h.1

pub returns-clause-same : goal.returns-clause-same
returns-clause-same c =
    let b = range_of c.args.bounds.now in
    let good = root_of_profile b c.requires.of_profile in
    let l = low_inside b.low b.high good in
    let h = high_inside b.low b.high good in
    let first : c.wide_offset_from.result ≡ above lowest_integer (lowest_of b.low) = rw (c.unwrap_or-low.ensures, low_is b.low, kept (lowest_of b.low) l.0 l.1) at c.wide_offset_from.ensures.is in
    let last : c.wide_offset_from-2.result ≡ above lowest_integer (highest_of b.high) = rw (c.unwrap_or-high.ensures, high_is b.high, kept (highest_of b.high) h.0 h.1) at c.wide_offset_from-2.ensures.is in
    let below : c.wide_offset_from.result ≡ low_offset b.low = omega (arith, first, low_offset_is b.low) in
    let from : c.wide_offset_from-2.result + 1 ≡ high_offset b.high = omega (arith, last, high_offset_is b.high) in
    rw (below, from) (outside_offsets b c.requires.of_profile)

pub returns-clause-some : goal.returns-clause-some
returns-clause-some c =
    let b = range_of c.args.bounds.now in
    let good = root_of_profile b c.requires.of_profile in
    let l = low_inside b.low b.high good in
    let h = high_inside b.low b.high good in
    let first : c.wide_offset_from.result ≡ above lowest_integer (lowest_of b.low) = rw (c.unwrap_or-low.ensures, low_is b.low, kept (lowest_of b.low) l.0 l.1) at c.wide_offset_from.ensures.is in
    let last : c.wide_offset_from-2.result ≡ above lowest_integer (highest_of b.high) = rw (c.unwrap_or-high.ensures, high_is b.high, kept (highest_of b.high) h.0 h.1) at c.wide_offset_from-2.ensures.is in
    let below : c.wide_offset_from.result ≡ low_offset b.low = omega (arith, first, low_offset_is b.low) in
    let from : c.wide_offset_from-2.result + 1 ≡ high_offset b.high = omega (arith, last, high_offset_is b.high) in
    rw (below, from) (some_outside b c.requires.of_profile c.requires.mark)
