-- The bits of the highest value, counted from 0.
use Rattle.std.proofs.Common.{◌+◌, arith}
use Rattle.asn_bits.proofs.Fewest.{width_counted}
use Rattle.asn_bits.proofs.numbers.width_up_to.Goals as goal

pub returns-clause-width : goal.returns-clause-width
returns-clause-width c = width_counted 64 (c.args.highest + 1) c.args.highest (omega arith) (omega arith)
