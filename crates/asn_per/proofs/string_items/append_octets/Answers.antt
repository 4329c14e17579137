use Rattle.std.proofs.Common.{arith}
use Rattle.asn_rules.proofs.Numbers.OctetRows.{octet_bits_few}
use Rattle.asn_per.proofs.Read.Appending.{appends_taken}
use Rattle.asn_per.proofs.Encodings.PerFields.{per_fields_part}
use Rattle.asn_per.proofs.string_items.append_octets.Goals as goal

pub returns-then-bits_left-count-clause-stop : goal.returns-then-bits_left-count-clause-stop
returns-then-bits_left-count-clause-stop c = record { told = octet_bits_few per_fields_part c.args.count c.args.cursor.now c.bits_left.ensures.bits (omega (arith, c.bits_left.ensures.count, c.if-bits_left-count.true)) }

pub returns-clause-done : goal.returns-clause-done
returns-clause-done c = appends_taken c.args.count c.in_ok-take_octets.ensures.ok
