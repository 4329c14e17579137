-- Below 0, what is left of the numbers that the octets hold.
use Rattle.std.proofs.Common.{◌≡◌, ◌-◌, ◌*◌, ◌/◌, ◌^◌, ap, sym, ◌∙◌, arith}
use Rattle.asn_bits.specs.Numbers.{octets, magnitude}
use Rattle.asn_bits.proofs.Above.{kept}
use Rattle.asn_bits.proofs.Octets.{half, residue_below}
use Rattle.asn_bits.proofs.Reading.{word_mask}
use Rattle.asn_bits.proofs.Splits.{two_pow_octets}
use Rattle.asn_bits.proofs.numbers.signed_residue.Goals as goal

pub overflow_sub-result-then-z-lt0 : goal.overflow_sub-result-then-z-lt0
overflow_sub-result-then-z-lt0 c =
    let k = c.args.count in
    let is : c.magnitude-below.result ≡ magnitude c.args.z = rw (kept c.args.z c.requires.low c.requires.high) at c.magnitude-below.ensures in
    omega (arith, is, c.requires.room, word_mask (8 * k) (omega arith), two_pow_octets k, half k c.requires.some)

pub returns-then-z-lt0-clause-fits : goal.returns-then-z-lt0-clause-fits
returns-then-z-lt0-clause-fits c =
    let k = c.args.count in
    omega (arith, word_mask (8 * k) (omega arith), two_pow_octets k, half k c.requires.some)

pub returns-then-z-lt0-clause-octets : goal.returns-then-z-lt0-clause-octets
returns-then-z-lt0-clause-octets c =
    let k = c.args.count in
    let is : c.magnitude-below.result ≡ magnitude c.args.z = rw (kept c.args.z c.requires.low c.requires.high) at c.magnitude-below.ensures in
    let mask : 18446744073709551615 / 2 ^ (64 - 8 * k) ≡ 256 ^ k - 1 = word_mask (8 * k) (omega arith) ∙ ap (λ t. t - 1) (sym (two_pow_octets k)) in
    residue_below k c.args.z (rw (kept c.args.z c.requires.low c.requires.high) at c.if-z-lt0.true) ∙ ap (octets k) (omega (arith, is, mask))
