use Rattle.std.proofs.Common.{rules, ◌≡◌, ◌<ℤ◌, pos, arith, to_z, of_z}
use Rattle.std.proofs.lemmas.Int.{ints}
use mir.Syntax.{w128}
use Rattle.asn_plan.proofs.FixedSizes.{lt_of_test}
use Rattle.asn_oer.proofs.Write.WrittenNumbers.{narrow}
use Rattle.asn_oer.proofs.integer.greatest.Goals as goal

pub returns-then-high-lt-SIGNED_END-clause-below_zero : goal.returns-then-high-lt-SIGNED_END-clause-below_zero
returns-then-high-lt-SIGNED_END-clause-below_zero c = λ negative.
    let low = c.args.low in
    let high = c.args.high in
    let same_low : to_z w128 (of_z w128 low) ≡ low = search rules in
    let same_high : to_z w128 (of_z w128 high) ≡ high = search rules in
    let top : high <ℤ pos 9223372036854775808 = lt_of_test high (pos 9223372036854775808) (rw same_high at c.if-high-lt-SIGNED_END.true) in
    let narrow_low = narrow low c.requires.low (omega (arith, ints, negative)) in
    let narrow_high = narrow high (omega (arith, ints, c.requires.low, c.requires.order)) top in
    rw (same_low, same_high, narrow_low, narrow_high) at c.twice_farthest.ensures
