use Rattle.std.proofs.Common.{arith}
use Rattle.asn_bits.proofs.Octets.{octet_count_some}
use Rattle.asn_rules.proofs.whole_number_reader.wide_highest_count.Goals as goal

pub wide_least_with-requires-clause-some : goal.wide_least_with-requires-clause-some
wide_least_with-requires-clause-some c = omega (arith, octet_count_some c.args.high, c.wide_octet_count-most.ensures.count)
