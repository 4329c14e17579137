-- The field of the first eight octets' number.
use Rattle.std.proofs.Common.{◌≡◌, ◌++◌, ◌<◌, ◌-◌, ◌*◌, ℕ, get_or, drop, subst, arith}
use Rattle.asn_bits.specs.Numbers.{bits, unpacked}
use Rattle.asn_bits.proofs.Reading.{octets_eight, field_read}
use Rattle.asn_bits.proofs.cursor.number_in_octets.Goals as goal

pub returns-clause-here : goal.returns-clause-here
returns-clause-here c =
    let os = c.args.octets.now in
    let a = c.from_be_bytes.result in
    let front = c.in-Some.ensures.cases in
    let range : (i : ℕ) → get_or os i 0 < 256 = λ i. omega (arith, c.type_inv.octets i) in
    let eight = octets_eight os c.in-Some.eight.now a front.0 (omega (arith, front.2)) range c.from_be_bytes.ensures in
    let n = c.field.result in
    subst (λ i. unpacked os ≡ bits (8 * c.args.count) n ++ drop i (unpacked os)) (omega arith)
    (field_read os 0 (8 * c.args.count) (64 - 8 * c.args.count) 8 a n eight (omega arith) c.field.ensures)
