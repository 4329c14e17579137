-- The count and the octets are two numbers in bits.
use Rattle.std.proofs.Common.{rules, ◌≡◌, ◌<◌, ◌*◌, ◌++◌, ap, sym, ◌∙◌, arith}
use Rattle.std.proofs.lemmas.Int.{ints}
use Rattle.asn_bits.specs.Numbers.{bits, signed_octet_count}
use Rattle.asn_bits.proofs.Above.{kept}
use Rattle.asn_bits.proofs.Octets.{signed_fits}
use Rattle.asn_bits.proofs.LeastLengths.{general_signed, nine_from, nine_signed}
use Rattle.asn_bits.proofs.numbers.least_signed_parts.Goals as goal

pub signed_residue-requires-clause-room : goal.signed_residue-requires-clause-room
signed_residue-requires-clause-room c =
    let z = kept c.args.z c.requires.low c.requires.high in
    rw (c.signed_octet_count-count.ensures.count, z) (signed_fits c.args.z)

pub returns-clause-same : goal.returns-clause-same
returns-clause-same c =
    let k = c.signed_octet_count-count.result in
    let n = c.signed_residue.result in
    let z = kept c.args.z c.requires.low c.requires.high in
    general_signed c.args.z n k (rw z at c.signed_residue.ensures.octets) (omega (arith, c.signed_octet_count-count.ensures.few)) (rw z at c.signed_octet_count-count.ensures.count)
    ∙ ap (λ t. bits 8 t ++ bits (8 * k) n) (sym c.from.ensures)

pub overflow_cast-result : goal.overflow_cast-result
overflow_cast-result c =
    let z = kept c.args.z c.requires.low c.requires.high in
    let count : c.signed_octet_count-count.result ≡ signed_octet_count c.args.z = rw z at c.signed_octet_count-count.ensures.count in
    let from = nine_from c.args.z (omega (arith, count, c.if-count-gt8.true)) c.requires.low in
    let most = c.requires.high in
    rw z (omega (arith, ints, from, most))

pub returns-then-count-gt8-clause-same : goal.returns-then-count-gt8-clause-same
returns-then-count-gt8-clause-same c =
    let z = kept c.args.z c.requires.low c.requires.high in
    let count : c.signed_octet_count-count.result ≡ signed_octet_count c.args.z = rw z at c.signed_octet_count-count.ensures.count in
    rw z (nine_signed c.args.z (omega (arith, count, c.signed_octet_count-count.ensures.few, c.if-count-gt8.true)) c.requires.low c.requires.high)
