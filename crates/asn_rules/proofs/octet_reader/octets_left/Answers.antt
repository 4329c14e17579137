use Rattle.std.proofs.Common.{arith}
use Rattle.asn_bits.proofs.FilledBits.{length-packed}
use Rattle.asn_rules.proofs.octet_reader.octets_left.Goals as goal

pub returns-clause-count : goal.returns-clause-count
returns-clause-count c = omega (arith, c.octets_left.ensures.count, length-packed c.args.units.now c.requires.at_octet)
