use Rattle.std.proofs.Common.{[], arith}
use Rattle.asn_bits.specs.Moves.{Taken}
use Rattle.asn_bits.proofs.FilledBits.{length-packed}
use Rattle.asn_rules.proofs.Octets.OctetReading.{row_taken, row_whole}
use Rattle.asn_rules.proofs.octet_length_reader.try_row.Goals as goal

pub take_row-requires : goal.take_row-requires
take_row-requires c = omega (arith, length-packed c.args.units.now c.requires.at_octet, c.octets_left.ensures.count, c.if-octets_left-count.false)

pub returns-in-Ok-clause-at_octet : goal.returns-in-Ok-clause-at_octet
returns-in-Ok-clause-at_octet c =
    let t : Taken c.args.count c.args.units.now c.take_row.new.self [] c.in-Ok.octets.items = c.in-Ok.ensures.ok in
    row_whole c.args.count c.args.units.now c.take_row.new.self c.in-Ok.octets.items c.requires.at_octet t

pub returns-in-Ok-clause-done : goal.returns-in-Ok-clause-done
returns-in-Ok-clause-done c =
    let t : Taken c.args.count c.args.units.now c.take_row.new.self [] c.in-Ok.octets.items = c.in-Ok.ensures.ok in
    row_taken c.args.count c.args.units.now c.take_row.new.self c.in-Ok.octets.items t
