use Rattle.std.proofs.Common.{◌≡◌, ◌∙◌, Some, None}
use Rattle.asn_values.specs.Fits.{lowest_integer}
use Rattle.asn_values.specs.Profile.{lowest_of, highest_of}
use Rattle.asn_bits.specs.Numbers.{above}
use Rattle.asn_bits.proofs.Above.{kept}
use Rattle.asn_rules.specs.IntegerSets.{IsWithin, unmarked}
use Rattle.asn_rules.proofs.Plain.IntegerSets.{offsets_are, offsets_far, offsets_open, low_inside, low_is, high_is, high_inside}
use Rattle.asn_rules.proofs.integer_sets.offsets_of.Goals as goal

pub offset_of-start-requires-clause-low : goal.offset_of-start-requires-clause-low
offset_of-start-requires-clause-low c =
    let l = low_inside c.args.low c.args.high c.requires.of_profile in
    let same : c.unwrap_or.result ≡ lowest_of c.args.low = c.unwrap_or.ensures ∙ low_is c.args.low in
    rw (same, kept (lowest_of c.args.low) l.0 l.1) l.0

pub offset_of-start-requires-clause-high : goal.offset_of-start-requires-clause-high
offset_of-start-requires-clause-high c =
    let l = low_inside c.args.low c.args.high c.requires.of_profile in
    let same : c.unwrap_or.result ≡ lowest_of c.args.low = c.unwrap_or.ensures ∙ low_is c.args.low in
    rw (same, kept (lowest_of c.args.low) l.0 l.1) l.1

pub offset_of-end-requires-clause-low : goal.offset_of-end-requires-clause-low
offset_of-end-requires-clause-low c =
    let l = high_inside c.args.low c.args.high c.requires.of_profile in
    let same : c.unwrap_or-2.result ≡ highest_of c.args.high = c.unwrap_or-2.ensures ∙ high_is c.args.high in
    rw (same, kept (highest_of c.args.high) l.0 l.1) l.0

pub offset_of-end-requires-clause-high : goal.offset_of-end-requires-clause-high
offset_of-end-requires-clause-high c =
    let l = high_inside c.args.low c.args.high c.requires.of_profile in
    let same : c.unwrap_or-2.result ≡ highest_of c.args.high = c.unwrap_or-2.ensures ∙ high_is c.args.high in
    rw (same, kept (highest_of c.args.high) l.0 l.1) l.1

pub returns-in-Some-clause-same : goal.returns-in-Some-clause-same
returns-in-Some-clause-same c =
    let low = c.args.low in
    let high = c.args.high in
    let good = c.requires.of_profile in
    let l = low_inside low high good in
    let h = high_inside low high good in
    let first : c.offset_of-start.result ≡ above lowest_integer (lowest_of low) = rw (c.unwrap_or.ensures, low_is low, kept (lowest_of low) l.0 l.1) at c.offset_of-start.ensures in
    let last : c.offset_of-end.result ≡ above lowest_integer (highest_of high) = rw (c.unwrap_or-2.ensures, high_is high, kept (highest_of high) h.0 h.1) at c.offset_of-end.ensures in
    let d = c.in-Some.number in
    let w : IsWithin (unmarked low high) (Some d) = rw c.in-Some.is at c.requires.within in
    let below : c.offset_of.result ≡ above lowest_integer d = rw (kept d w.0.0 w.0.1) at c.offset_of.ensures in
    let from : c.offset_of-in-Some.result ≡ above lowest_integer d = rw (kept d w.0.0 w.0.1) at c.offset_of-in-Some.ensures in
    rw (first, below, from, last, c.in-Some.is) (offsets_are low high good (Some d) w)

pub returns-in-Some-clause-gap : goal.returns-in-Some-clause-gap
returns-in-Some-clause-gap c =
    let low = c.args.low in
    let high = c.args.high in
    let good = c.requires.of_profile in
    let l = low_inside low high good in
    let h = high_inside low high good in
    let first : c.offset_of-start.result ≡ above lowest_integer (lowest_of low) = rw (c.unwrap_or.ensures, low_is low, kept (lowest_of low) l.0 l.1) at c.offset_of-start.ensures in
    let last : c.offset_of-end.result ≡ above lowest_integer (highest_of high) = rw (c.unwrap_or-2.ensures, high_is high, kept (highest_of high) h.0 h.1) at c.offset_of-end.ensures in
    let d = c.in-Some.number in
    let w : IsWithin (unmarked low high) (Some d) = rw c.in-Some.is at c.requires.within in
    let below : c.offset_of.result ≡ above lowest_integer d = rw (kept d w.0.0 w.0.1) at c.offset_of.ensures in
    let from : c.offset_of-in-Some.result ≡ above lowest_integer d = rw (kept d w.0.0 w.0.1) at c.offset_of-in-Some.ensures in
    rw (first, below, from, last) (offsets_open low high good (Some d))

pub returns-in-None-clause-same : goal.returns-in-None-clause-same
returns-in-None-clause-same c =
    let low = c.args.low in
    let high = c.args.high in
    let good = c.requires.of_profile in
    let l = low_inside low high good in
    let h = high_inside low high good in
    let first : c.offset_of-start.result ≡ above lowest_integer (lowest_of low) = rw (c.unwrap_or.ensures, low_is low, kept (lowest_of low) l.0 l.1) at c.offset_of-start.ensures in
    let last : c.offset_of-end.result ≡ above lowest_integer (highest_of high) = rw (c.unwrap_or-2.ensures, high_is high, kept (highest_of high) h.0 h.1) at c.offset_of-end.ensures in
    rw (first, last, c.in-None.is) (offsets_are low high good None tt)

pub returns-in-None-clause-gap : goal.returns-in-None-clause-gap
returns-in-None-clause-gap c =
    let low = c.args.low in
    let high = c.args.high in
    let good = c.requires.of_profile in
    let l = low_inside low high good in
    let h = high_inside low high good in
    let first : c.offset_of-start.result ≡ above lowest_integer (lowest_of low) = rw (c.unwrap_or.ensures, low_is low, kept (lowest_of low) l.0 l.1) at c.offset_of-start.ensures in
    let last : c.offset_of-end.result ≡ above lowest_integer (highest_of high) = rw (c.unwrap_or-2.ensures, high_is high, kept (highest_of high) h.0 h.1) at c.offset_of-end.ensures in
    rw (first, last) (offsets_open low high good None)

pub returns-in-Some-clause-far : goal.returns-in-Some-clause-far
returns-in-Some-clause-far c =
    let low = c.args.low in
    let high = c.args.high in
    let good = c.requires.of_profile in
    let l = low_inside low high good in
    let h = high_inside low high good in
    let first : c.offset_of-start.result ≡ above lowest_integer (lowest_of low) = rw (c.unwrap_or.ensures, low_is low, kept (lowest_of low) l.0 l.1) at c.offset_of-start.ensures in
    let last : c.offset_of-end.result ≡ above lowest_integer (highest_of high) = rw (c.unwrap_or-2.ensures, high_is high, kept (highest_of high) h.0 h.1) at c.offset_of-end.ensures in
    let d = c.in-Some.number in
    let w : IsWithin (unmarked low high) (Some d) = rw c.in-Some.is at c.requires.within in
    let below : c.offset_of.result ≡ above lowest_integer d = rw (kept d w.0.0 w.0.1) at c.offset_of.ensures in
    let from : c.offset_of-in-Some.result ≡ above lowest_integer d = rw (kept d w.0.0 w.0.1) at c.offset_of-in-Some.ensures in
    rw (first, below, from, last) (offsets_far low high good (Some d))

pub returns-in-None-clause-far : goal.returns-in-None-clause-far
returns-in-None-clause-far c =
    let low = c.args.low in
    let high = c.args.high in
    let good = c.requires.of_profile in
    let l = low_inside low high good in
    let h = high_inside low high good in
    let first : c.offset_of-start.result ≡ above lowest_integer (lowest_of low) = rw (c.unwrap_or.ensures, low_is low, kept (lowest_of low) l.0 l.1) at c.offset_of-start.ensures in
    let last : c.offset_of-end.result ≡ above lowest_integer (highest_of high) = rw (c.unwrap_or-2.ensures, high_is high, kept (highest_of high) h.0 h.1) at c.offset_of-end.ensures in
    rw (first, last) (offsets_far low high good None)
