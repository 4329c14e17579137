-- Eight bits an octet.
use Rattle.std.proofs.Common.{◌≡◌, ◌<◌, ◌+◌, ◌-◌, ◌*◌, ◌/◌, ◌^◌, subst, sym, arith}
use Rattle.asn_bits.proofs.Fewest.{octet_count_leading}
use Rattle.asn_bits.proofs.Octets.{octet_count_fits}
use Rattle.asn_bits.proofs.Splits.{two_pow_octets}
use Rattle.asn_bits.specs.Numbers.{octet_count}
use lib.Count.{count_leading_zeros}
use Rattle.asn_bits.proofs.numbers.octet_count.Goals as goal

pub returns-clause-count : goal.returns-clause-count
returns-clause-count c = octet_count_leading 64 c.args.n (omega arith) (omega arith)

pub returns-clause-fits : goal.returns-clause-fits
returns-clause-fits c =
    let k = (64 - count_leading_zeros 64 c.args.n + 7) / 8 in
    let e : octet_count c.args.n ≡ k = sym (octet_count_leading 64 c.args.n (omega arith) (omega arith)) in
    subst (λ t. c.args.n < 2 ^ (8 * t)) e (omega (arith, octet_count_fits c.args.n, two_pow_octets (octet_count c.args.n)))
