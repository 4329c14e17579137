use Rattle.std.proofs.Common.{[], arith}
use Rattle.asn_bits.specs.Moves.{Taken}
use Rattle.asn_bits.proofs.FilledBits.{length-packed}
use Rattle.asn_rules.proofs.Octets.OctetReading.{row_short, row_taken, row_whole}
use Rattle.asn_rules.proofs.octet_length_reader.read_row.Goals as goal

pub returns-then-octets_left-count-clause-stop : goal.returns-then-octets_left-count-clause-stop
returns-then-octets_left-count-clause-stop c =
    record { told = row_short c.args.count c.args.units.now c.octets_left.ensures.bits (omega (arith, c.octets_left.ensures.count, c.if-octets_left-count.true)) }

pub take_row-requires : goal.take_row-requires
take_row-requires c = omega (arith, length-packed c.args.units.now c.requires.at_octet, c.octets_left.ensures.count, c.if-octets_left-count.false)

pub returns-clause-at_octet : goal.returns-clause-at_octet
returns-clause-at_octet c =
    let t : Taken c.args.count c.args.units.now c.take_row.new.self [] c.in_ok-octets.octets.items = c.in_ok-octets.ensures.ok in
    row_whole c.args.count c.args.units.now c.take_row.new.self c.in_ok-octets.octets.items c.requires.at_octet t

pub returns-clause-done : goal.returns-clause-done
returns-clause-done c =
    let t : Taken c.args.count c.args.units.now c.take_row.new.self [] c.in_ok-octets.octets.items = c.in_ok-octets.ensures.ok in
    row_taken c.args.count c.args.units.now c.take_row.new.self c.in_ok-octets.octets.items t
