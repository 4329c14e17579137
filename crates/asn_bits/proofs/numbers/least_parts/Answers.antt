-- The count and the octets are two numbers in bits.
use Rattle.std.proofs.Common.{◌≡◌, ◌*◌, ◌++◌, ap, sym, ◌∙◌, arith}
use Rattle.asn_bits.specs.Numbers.{bits, octet_count}
use Rattle.asn_bits.proofs.LeastLengths.{general_least, nine_octets}
use Rattle.asn_bits.proofs.numbers.least_parts.Goals as goal

pub returns-then-count-gt8-clause-same : goal.returns-then-count-gt8-clause-same
returns-then-count-gt8-clause-same c =
    let e : 9 ≡ octet_count c.args.n = omega (arith, c.wide_octet_count-count.ensures.count, c.wide_octet_count-count.ensures.few, c.if-count-gt8.true) in
    general_least c.args.n 9 (omega arith) e ∙ nine_octets c.args.n c.requires

pub returns-clause-same : goal.returns-clause-same
returns-clause-same c =
    let k = c.wide_octet_count-count.result in
    general_least c.args.n k (omega (arith, c.wide_octet_count-count.ensures.few)) c.wide_octet_count-count.ensures.count
    ∙ ap (λ t. bits 8 t ++ bits (8 * k) c.args.n) (sym c.from.ensures)
