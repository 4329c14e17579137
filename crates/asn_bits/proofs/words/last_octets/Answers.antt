-- What stands above the last octets does not change them.
use Rattle.std.proofs.Common.{rules, ◌≡◌, ◌*◌, ◌%◌, ◌^◌, ap, ◌∙◌, arith}
use Rattle.asn_bits.specs.Numbers.{bits}
use Rattle.asn_bits.proofs.Splits.{digits-mod}
use Rattle.asn_bits.proofs.words.last_octets.Goals as goal

pub returns-clause-same : goal.returns-clause-same
returns-clause-same c =
    let k = c.args.count in
    let n = c.args.n in
    let power : 1 * 2 ^ (8 * k) % 18446744073709551616 ≡ 2 ^ (8 * k) = search (rules, arith) in
    ap (λ t. bits (8 * k) (n % t)) power ∙ digits-mod 2 (omega arith) (8 * k) n
