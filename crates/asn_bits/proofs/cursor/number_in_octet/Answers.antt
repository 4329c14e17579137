-- The field of the first octet.
use Rattle.std.proofs.Common.{◌+◌, ◌-◌, ◌∙◌, arith}
use Rattle.asn_bits.proofs.Reading.{octets_one, field_read}
use Rattle.asn_bits.proofs.cursor.number_in_octet.Goals as goal

pub returns-clause-here : goal.returns-clause-here
returns-clause-here c =
    let os = c.args.octets.now in
    let o = c.from.result in
    let first = c.in-Some.ensures.item.3 in
    let one = octets_one os o (omega (arith, c.type_inv.octets 0, c.from.ensures, first.1 0)) first.0 (c.from.ensures ∙ first.1 0) in
    field_read os c.args.offset c.args.k (8 - (c.args.offset + c.args.k)) 1 o c.field.result one (omega arith) c.field.ensures
