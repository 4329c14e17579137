use Rattle.std.proofs.Common.{arith}
use Rattle.asn_bits.proofs.Octets.{octet_count_some}
use Rattle.asn_rules.proofs.whole_number_reader.highest_count.Goals as goal

pub least_with-requires-clause-some : goal.least_with-requires-clause-some
least_with-requires-clause-some c = omega (arith, octet_count_some c.args.high, c.octet_count-most.ensures.count)
