use Rattle.std.proofs.Common.{rules, to_z, of_z, ◌≡◌, ◌≤ℤ◌, ◌++◌, ℕ, suc, false, ap, ◌∙◌, arith}
use Rattle.std.proofs.lemmas.Int.{ints}
use mir.Syntax.{w128}
use Rattle.asn_values.specs.Profile.{InProfile}
use Rattle.asn_values.specs.Shape.{integer}
use Rattle.asn_bits.specs.Numbers.{above}
use Rattle.asn_bits.proofs.Above.{kept}
use Rattle.asn_rules.specs.Components.{extension_bit}
use Rattle.asn_sinks.proofs.Pushing.{pushed_same}
use Rattle.asn_per.specs.Kinds.{between}
use Rattle.asn_per.specs.Per.{constrained}
use Rattle.asn_plan.proofs.Bounds.{bounds_within, below_by_offset, between_fits}
use Rattle.asn_per.proofs.Write.BetweenBounds.{bits_between}
use Rattle.asn_per.proofs.integers.write_integer.Goals as goal

pub wide_offset_from-highest-requires-clause-ordered : goal.wide_offset_from-highest-requires-clause-ordered
wide_offset_from-highest-requires-clause-ordered g c =
    let low = c.in-Some-Some.low in
    let high = c.in-Some-Some.high in
    let ext = c.args.bounds.now.ext in
    let good : InProfile (integer (between low high ext)) = rw (c.in-Some-Some.is-0, c.in-Some-Some.is-1) at c.requires.of_profile in
    let w = bounds_within low high ext good in
    let low_stays : to_z w128 (of_z w128 low) ≡ low = kept low w.0 (omega (arith, ints, w.1, w.2)) in
    let high_stays : to_z w128 (of_z w128 high) ≡ high = kept high (omega (arith, ints, w.0, w.1)) w.2 in
    rw (low_stays, high_stays) w.1

pub wide_offset_from-highest-requires-clause-within_low : goal.wide_offset_from-highest-requires-clause-within_low
wide_offset_from-highest-requires-clause-within_low g c =
    let low = c.in-Some-Some.low in
    let high = c.in-Some-Some.high in
    let ext = c.args.bounds.now.ext in
    let good : InProfile (integer (between low high ext)) = rw (c.in-Some-Some.is-0, c.in-Some-Some.is-1) at c.requires.of_profile in
    let w = bounds_within low high ext good in
    let low_stays : to_z w128 (of_z w128 low) ≡ low = kept low w.0 (omega (arith, ints, w.1, w.2)) in
    rw low_stays w.0

pub wide_offset_from-highest-requires-clause-within_high : goal.wide_offset_from-highest-requires-clause-within_high
wide_offset_from-highest-requires-clause-within_high g c =
    let low = c.in-Some-Some.low in
    let high = c.in-Some-Some.high in
    let ext = c.args.bounds.now.ext in
    let good : InProfile (integer (between low high ext)) = rw (c.in-Some-Some.is-0, c.in-Some-Some.is-1) at c.requires.of_profile in
    let w = bounds_within low high ext good in
    let high_stays : to_z w128 (of_z w128 high) ≡ high = kept high (omega (arith, ints, w.0, w.1)) w.2 in
    rw high_stays w.2

pub offset_or_more-offset-requires-clause-within_low : goal.offset_or_more-offset-requires-clause-within_low
offset_or_more-offset-requires-clause-within_low g c =
    let low = c.in-Some-Some.low in
    let high = c.in-Some-Some.high in
    let ext = c.args.bounds.now.ext in
    let good : InProfile (integer (between low high ext)) = rw (c.in-Some-Some.is-0, c.in-Some-Some.is-1) at c.requires.of_profile in
    let w = bounds_within low high ext good in
    let low_stays : to_z w128 (of_z w128 low) ≡ low = kept low w.0 (omega (arith, ints, w.1, w.2)) in
    rw low_stays w.0

pub offset_or_more-offset-requires-clause-within_high : goal.offset_or_more-offset-requires-clause-within_high
offset_or_more-offset-requires-clause-within_high g c =
    let low = c.in-Some-Some.low in
    let high = c.in-Some-Some.high in
    let ext = c.args.bounds.now.ext in
    let good : InProfile (integer (between low high ext)) = rw (c.in-Some-Some.is-0, c.in-Some-Some.is-1) at c.requires.of_profile in
    let w = bounds_within low high ext good in
    let low_stays : to_z w128 (of_z w128 low) ≡ low = kept low w.0 (omega (arith, ints, w.1, w.2)) in
    rw low_stays (omega (arith, ints, w.1, w.2))

pub returns-then-is_near-clause-of_type : goal.returns-then-is_near-clause-of_type
returns-then-is_near-clause-of_type g c =
    let low = c.in-Some-Some.low in
    let high = c.in-Some-Some.high in
    let ext = c.args.bounds.now.ext in
    let good : InProfile (integer (between low high ext)) = rw (c.in-Some-Some.is-0, c.in-Some-Some.is-1) at c.requires.of_profile in
    let z = c.args.value in
    let w = bounds_within low high ext good in
    let low_stays : to_z w128 (of_z w128 low) ≡ low = kept low w.0 (omega (arith, ints, w.1, w.2)) in
    let high_stays : to_z w128 (of_z w128 high) ≡ high = kept high (omega (arith, ints, w.0, w.1)) w.2 in
    let same : to_z w128 (of_z w128 z) ≡ z = search rules in
    let near_by = c.is_near.ensures c.if-is_near.true in
    let top : c.wide_offset_from-highest.result ≡ above low high = rw (low_stays, high_stays) at c.wide_offset_from-highest.ensures.is in
    let least : low ≤ℤ z = rw (low_stays, same) at (c.offset_or_more-offset.ensures.below (omega (arith, near_by.1, c.wide_offset_from-highest.ensures.few))) in
    let near : c.offset_or_more-offset.result ≡ above low z = rw (low_stays, same) at (c.offset_or_more-offset.ensures.above (rw (low_stays, same) least)) in
    let most : z ≤ℤ high = below_by_offset low high z w.1 least (omega (arith, near, top, near_by.1)) in
    rw (c.in-Some-Some.is-0, c.in-Some-Some.is-1) (between_fits low high z ext good least most)

pub returns-then-is_near-clause-written : goal.returns-then-is_near-clause-written
returns-then-is_near-clause-written g c =
    let low = c.in-Some-Some.low in
    let high = c.in-Some-Some.high in
    let ext = c.args.bounds.now.ext in
    let good : InProfile (integer (between low high ext)) = rw (c.in-Some-Some.is-0, c.in-Some-Some.is-1) at c.requires.of_profile in
    let z = c.args.value in
    let w = bounds_within low high ext good in
    let low_stays : to_z w128 (of_z w128 low) ≡ low = kept low w.0 (omega (arith, ints, w.1, w.2)) in
    let high_stays : to_z w128 (of_z w128 high) ≡ high = kept high (omega (arith, ints, w.0, w.1)) w.2 in
    let same : to_z w128 (of_z w128 z) ≡ z = search rules in
    let near_by = c.is_near.ensures c.if-is_near.true in
    let top : c.wide_offset_from-highest.result ≡ above low high = rw (low_stays, high_stays) at c.wide_offset_from-highest.ensures.is in
    let least : low ≤ℤ z = rw (low_stays, same) at (c.offset_or_more-offset.ensures.below (omega (arith, near_by.1, c.wide_offset_from-highest.ensures.few))) in
    let near : c.offset_or_more-offset.result ≡ above low z = rw (low_stays, same) at (c.offset_or_more-offset.ensures.above (rw (low_stays, same) least)) in
    let most : z ≤ℤ high = below_by_offset low high z w.1 least (omega (arith, near, top, near_by.1)) in
    let bits =
    ap (λ (h : ℕ). extension_bit ext false ++ constrained (suc h) c.offset_or_more-offset.result) top
    ∙ ap (λ (o : ℕ). extension_bit ext false ++ constrained (suc (above low high)) o) near
    ∙ bits_between low high z ext good least most in
    rw (c.in-Some-Some.is-0, c.in-Some-Some.is-1) (pushed_same g.S.Sink.pushes c.args.sink.now c.write_near.new.sink bits c.in_ok-write_near.ensures)
