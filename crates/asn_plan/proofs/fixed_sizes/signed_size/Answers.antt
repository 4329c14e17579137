-- The size is told by the number that is farthest from zero.
use Rattle.std.proofs.Common.{rules, ◌≡◌, ◌<ℤ◌, ◌-ℤ◌, ◌*ℤ◌, refl, pos, negsuc, Some, sym, ◌∙◌, arith, to_z, of_z}
use Rattle.std.proofs.lemmas.Int.{ints, clamps}
use Rattle.std.specs.Int.{int_max}
use mir.Syntax.{w128}
use Rattle.asn_plan.specs.FixedSizes.{unsigned_octets}
use Rattle.asn_plan.proofs.FixedSizes.{farthest_is, lt_of_test, signed_is_twice, twice_kept}
use Rattle.asn_plan.proofs.fixed_sizes.signed_size.Goals as goal

pub returns-then-farthest-lt-SIGNED_END : goal.returns-then-farthest-lt-SIGNED_END
returns-then-farthest-lt-SIGNED_END c =
    let low = c.args.low in
    let high = c.args.high in
    let same_low : to_z w128 (of_z w128 low) ≡ low = search rules in
    let same_high : to_z w128 (of_z w128 high) ≡ high = search rules in
    let same_k : to_z w128 (of_z w128 c.max.result) ≡ c.max.result = search rules in
    let same_m : to_z w128 (of_z w128 c.max-farthest.result) ≡ c.max-farthest.result = search rules in
    let below : to_z w128 (of_z w128 (negsuc 0 -ℤ low)) ≡ (negsuc 0 -ℤ low) = search rules in
    let k : c.max.result ≡ int_max high (negsuc 0 -ℤ low) = rw (same_low, same_high, below) at c.max.ensures.value in
    let m : c.max-farthest.result ≡ int_max c.max.result (pos 0) = rw same_k at c.max-farthest.ensures.value in
    let less : c.max-farthest.result <ℤ pos 9223372036854775808 = lt_of_test c.max-farthest.result (pos 9223372036854775808) (rw same_m at c.if-farthest-lt-SIGNED_END.true) in
    let up : to_z w128 (of_z w128 (pos 2 *ℤ c.max-farthest.result)) ≡ (pos 2 *ℤ c.max-farthest.result) = twice_kept c.max-farthest.result (omega (arith, ints, clamps, m)) (omega (arith, ints, less)) in
    let size : unsigned_octets (pos 2 *ℤ c.max-farthest.result) ≡ Some c.unsigned_size.result = rw (same_m, up) at c.unsigned_size.ensures in
    sym (signed_is_twice low high (negsuc 0 -ℤ low) c.max-farthest.result refl (omega (arith, ints, clamps, k, m)) (omega (arith, ints, clamps, k, m)) (farthest_is high (negsuc 0 -ℤ low) c.max.result c.max-farthest.result k m) ∙ size)
