-- The field of the first eight octets' number.
use Rattle.std.proofs.Common.{◌<◌, ◌+◌, ◌-◌, ℕ, get_or, arith}
use Rattle.asn_bits.proofs.Reading.{octets_eight, field_read}
use Rattle.asn_bits.proofs.cursor.number_in_word.Goals as goal

pub returns-clause-here : goal.returns-clause-here
returns-clause-here c =
    let os = c.args.octets.now in
    let a = c.from_be_bytes.result in
    let front = c.in-Some.ensures.cases in
    let range : (i : ℕ) → get_or os i 0 < 256 = λ i. omega (arith, c.type_inv.octets i) in
    let eight = octets_eight os c.in-Some.eight.now a front.0 (omega (arith, front.2)) range c.from_be_bytes.ensures in
    field_read os c.args.offset c.args.k (64 - (c.args.offset + c.args.k)) 8 a c.field_after.result eight (omega arith) c.field_after.ensures
