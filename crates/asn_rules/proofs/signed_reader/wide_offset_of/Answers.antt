use Rattle.std.proofs.Common.{◌≡◌, ◌+◌, ◌-◌, ◌*◌, ◌^◌, ℕ, pos, ◌+ℤ◌, ap, ◌∙◌, arith}
use Rattle.asn_values.specs.Fits.{lowest_integer}
use Rattle.asn_bits.proofs.Octets.{half}
use Rattle.asn_rules.proofs.Plain.SignedNumbers.{offset_low, offset_high}
use Rattle.asn_rules.proofs.signed_reader.wide_offset_of.Goals as goal

pub returns-then-number-weight-clause-same : goal.returns-then-number-weight-clause-same
returns-then-number-weight-clause-same c = offset_high c.args.count c.args.number (omega (arith, c.if-number-weight.true, c.sign_weight-weight.ensures.is))

pub overflow_add-result-else-number-weight : goal.overflow_add-result-else-number-weight
overflow_add-result-else-number-weight c =
    omega (arith, c.requires.fits, half c.args.count c.requires.some, c.sign_weight-weight.ensures.is, c.sign_weight-weight.ensures.few)

pub returns-else-number-weight-clause-same : goal.returns-else-number-weight-clause-same
returns-else-number-weight-clause-same c =
    let k = c.args.count in
    let n = c.args.number in
    let o = offset_low k n c.requires.some (omega (arith, c.if-number-weight.false, c.sign_weight-weight.ensures.is)) c.requires.fits c.requires.within in
    let sum : 9223372036854775808 + n - 2 * c.sign_weight-weight.result ≡ 9223372036854775808 + n - 2 * 2 ^ (8 * k - 1) = omega (arith, c.sign_weight-weight.ensures.is) in
    ap (λ (i : ℕ). lowest_integer +ℤ pos i) sum ∙ o.1

pub returns-else-number-weight-clause-few : goal.returns-else-number-weight-clause-few
returns-else-number-weight-clause-few c =
    omega (arith, c.requires.fits, half c.args.count c.requires.some, c.sign_weight-weight.ensures.is, c.sign_weight-weight.ensures.few)
