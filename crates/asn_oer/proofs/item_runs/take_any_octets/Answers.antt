use Rattle.std.proofs.Common.{arith}
use Rattle.asn_oer.proofs.InPieces.Runs.{octets_taken, octets_whole}
use Rattle.asn_oer.proofs.item_runs.take_any_octets.Goals as goal

pub take_octets-requires : goal.take_octets-requires
take_octets-requires c = omega (arith, c.octets_left.ensures.count, c.min-count.ensures)

pub returns-clause-at_octet : goal.returns-clause-at_octet
returns-clause-at_octet c = octets_whole c.min-count.result c.args.units.now c.take_octets.new.self c.args.into.now.items c.take_octets.new.into.items c.requires.at_octet c.in_ok-take_octets.ensures.ok

pub returns-clause-done : goal.returns-clause-done
returns-clause-done c = octets_taken c.min-count.result c.args.units.now c.take_octets.new.self c.args.into.now.items c.take_octets.new.into.items c.in_ok-take_octets.ensures.ok
