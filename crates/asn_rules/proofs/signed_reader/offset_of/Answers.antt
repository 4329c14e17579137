use Rattle.std.proofs.Common.{◌≡◌, ◌+◌, ◌-◌, ◌*◌, ◌^◌, ℕ, pos, ◌+ℤ◌, ap, ◌∙◌, arith}
use Rattle.asn_values.specs.Fits.{lowest_integer}
use Rattle.asn_bits.proofs.Octets.{half}
use Rattle.asn_rules.proofs.Plain.SignedNumbers.{offset_neg, weight_within}
use Rattle.asn_rules.proofs.signed_reader.offset_of.Goals as goal

pub overflow_add-result-else-number-weight : goal.overflow_add-result-else-number-weight
overflow_add-result-else-number-weight c =
    let few = weight_within c.args.count c.requires.some c.requires.few in
    let two = half c.args.count c.requires.some in
    omega (arith, few, two, c.requires.fits, c.power_of_two-weight.ensures, c.power_of_two.ensures, c.if-number-weight.false)

pub returns-else-number-weight : goal.returns-else-number-weight
returns-else-number-weight c =
    let k = c.args.count in
    let n = c.args.number in
    let w = c.power_of_two-weight.result in
    let few = weight_within k c.requires.some c.requires.few in
    let sum : n - w + (c.power_of_two.result - w) ≡ 9223372036854775808 + n - 2 * 2 ^ (8 * k - 1) = omega (arith, few, c.power_of_two-weight.ensures, c.power_of_two.ensures, c.if-number-weight.false) in
    ap (λ (i : ℕ). lowest_integer +ℤ pos i) sum ∙ offset_neg k n c.requires.some c.requires.few (omega (arith, c.if-number-weight.false, c.power_of_two-weight.ensures)) c.requires.fits
