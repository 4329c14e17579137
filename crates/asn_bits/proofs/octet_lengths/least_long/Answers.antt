use Rattle.std.proofs.Common.{◌∙◌, arith}
use Rattle.asn_bits.proofs.LengthsInOctets.{least_more, least_room}
use Rattle.asn_bits.proofs.octet_lengths.least_long.Goals as goal

pub scaled-requires-clause-room : goal.scaled-requires-clause-room
scaled-requires-clause-room c = omega (arith, least_room c.args.count (omega arith) c.requires.few)

pub returns-clause-least : goal.returns-clause-least
returns-clause-least c = c.scaled.ensures ∙ least_more c.args.count (omega arith)

pub returns-clause-narrow : goal.returns-clause-narrow
returns-clause-narrow c = omega (arith, c.scaled.ensures, least_room c.args.count (omega arith) c.requires.few)
