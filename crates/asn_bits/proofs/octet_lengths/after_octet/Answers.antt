use Rattle.std.proofs.Common.{arith}
use Rattle.asn_bits.proofs.LengthsInOctets.{long_next_at, long_small, after_long_at}
use Rattle.asn_bits.proofs.octet_lengths.after_octet.Goals as goal

pub returns-then-left-eq0-clause-none : goal.returns-then-left-eq0-clause-none
returns-then-left-eq0-clause-none c e n few s = after_long_at c.args.state c.in-Long.count c.in-Long.prefix c.in-Long.left c.args.octet n c.in-Long.is (omega arith) s

pub overflow_mul-result : goal.overflow_mul-result
overflow_mul-result c = omega (arith, long_small c.args.state c.in-Long.count c.in-Long.prefix c.in-Long.left c.in-Long.is c.requires (omega arith))

pub overflow_add-result : goal.overflow_add-result
overflow_add-result c = omega (arith, c.from-in-Long.ensures, long_small c.args.state c.in-Long.count c.in-Long.prefix c.in-Long.left c.in-Long.is c.requires (omega arith))

pub returns-else-left-eq0-clause-state : goal.returns-else-left-eq0-clause-state
returns-else-left-eq0-clause-state c = (long_next_at c.args.state c.in-Long.count c.in-Long.prefix c.in-Long.left c.args.octet c.from-in-Long.result c.in-Long.is c.requires (omega arith) c.from-in-Long.ensures (omega arith)).0

pub returns-else-left-eq0-clause-octets : goal.returns-else-left-eq0-clause-octets
returns-else-left-eq0-clause-octets c = (long_next_at c.args.state c.in-Long.count c.in-Long.prefix c.in-Long.left c.args.octet c.from-in-Long.result c.in-Long.is c.requires (omega arith) c.from-in-Long.ensures (omega arith)).1
