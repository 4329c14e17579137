use Rattle.std.proofs.Common.{◌-◌, arith}
use Rattle.asn_bits.proofs.LengthsInOctets.{long_room, long_prefix, long_lower, long_exact_at}
use Rattle.asn_bits.proofs.octet_lengths.lengths_after.Goals as goal

pub scaled-low-requires-clause-room : goal.scaled-low-requires-clause-room
scaled-low-requires-clause-room c = omega (arith, long_room c.args.state c.in-Long.count c.in-Long.prefix c.in-Long.left c.in-Long.is c.requires.octets)

pub overflow_add-prefix : goal.overflow_add-prefix
overflow_add-prefix c = omega (arith, long_prefix c.args.state c.in-Long.count c.in-Long.prefix c.in-Long.left c.in-Long.is c.requires.octets)

pub scaled-high-requires-clause-room : goal.scaled-high-requires-clause-room
scaled-high-requires-clause-room c = long_room c.args.state c.in-Long.count c.in-Long.prefix c.in-Long.left c.in-Long.is c.requires.octets

pub returns-in-Long-clause-low : goal.returns-in-Long-clause-low
returns-in-Long-clause-low c = omega (arith, c.max.ensures, c.least_long.ensures.narrow, c.scaled-low.ensures, long_lower c.args.state c.in-Long.count c.in-Long.prefix c.in-Long.left c.in-Long.is c.requires.octets)

pub returns-in-Long-clause-high : goal.returns-in-Long-clause-high
returns-in-Long-clause-high c = omega (arith, c.scaled-high.ensures, long_lower c.args.state c.in-Long.count c.in-Long.prefix c.in-Long.left c.in-Long.is c.requires.octets, long_room c.args.state c.in-Long.count c.in-Long.prefix c.in-Long.left c.in-Long.is c.requires.octets)

pub returns-in-Long-clause-exact : goal.returns-in-Long-clause-exact
returns-in-Long-clause-exact c =
    long_exact_at c.args.state c.in-Long.count c.in-Long.prefix c.in-Long.left c.max.result (c.scaled-high.result - 1) c.in-Long.is c.requires.octets (omega (arith, c.max.ensures, c.scaled-low.ensures, c.least_long.ensures.least)) (omega (arith, c.scaled-high.ensures, long_lower c.args.state c.in-Long.count c.in-Long.prefix c.in-Long.left c.in-Long.is c.requires.octets))
