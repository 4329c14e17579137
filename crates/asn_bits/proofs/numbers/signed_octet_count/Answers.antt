-- The bits of what stands beside the sign, and the sign.
use Rattle.std.proofs.Common.{◌≡◌, ◌-◌, ◌/◌, ap, ◌∙◌, arith}
use Rattle.asn_bits.specs.Numbers.{magnitude, most_signed_octets}
use Rattle.asn_bits.proofs.Fewest.{signed_count_leading, magnitude_below, magnitude_word, magnitude_short}
use Rattle.asn_bits.proofs.Octets.{signed_count_below}
use Rattle.asn_bits.proofs.Above.{kept}
use lib.Count.{count_leading_zeros}
use Rattle.asn_bits.proofs.numbers.signed_octet_count.Goals as goal

pub returns-clause-count : goal.returns-clause-count
returns-clause-count c =
    let is : c.magnitude.result ≡ magnitude c.args.z = rw (kept c.args.z c.requires.low c.requires.high) at c.magnitude.ensures in
    let few = magnitude_word c.args.z c.requires.low c.requires.high in
    ap (λ t. (72 - count_leading_zeros 64 t) / 8) is ∙ signed_count_leading c.args.z few

pub returns-clause-few : goal.returns-clause-few
returns-clause-few c =
    let is : c.magnitude.result ≡ magnitude c.args.z = rw (kept c.args.z c.requires.low c.requires.high) at c.magnitude.ensures in
    let few = magnitude_word c.args.z c.requires.low c.requires.high in
    let e = ap (λ t. (72 - count_leading_zeros 64 t) / 8) is ∙ signed_count_leading c.args.z few in
    let most = signed_count_below c.args.z most_signed_octets (omega arith) (magnitude_below c.args.z c.requires.low c.requires.high) in
    omega (arith, e, most)

pub returns-clause-short : goal.returns-clause-short
returns-clause-short c h =
    let is : c.magnitude.result ≡ magnitude c.args.z = rw (kept c.args.z c.requires.low c.requires.high) at c.magnitude.ensures in
    let few = magnitude_word c.args.z c.requires.low c.requires.high in
    let e = ap (λ t. (72 - count_leading_zeros 64 t) / 8) is ∙ signed_count_leading c.args.z few in
    let short = magnitude_short c.args.z c.requires.low h in
    let most = signed_count_below c.args.z 8 (omega arith) short in
    omega (arith, e, most)
