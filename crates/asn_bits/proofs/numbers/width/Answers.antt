-- The bits of the highest value, counted from 0.
use Rattle.std.proofs.Common.{arith}
use Rattle.asn_bits.proofs.Fewest.{width_counted, width_below}
use Rattle.asn_bits.proofs.numbers.width.Goals as goal

pub returns-clause-width : goal.returns-clause-width
returns-clause-width c = width_counted 128 c.args.values c.saturating_sub.result (omega arith) (omega arith)

pub returns-clause-few : goal.returns-clause-few
returns-clause-few c h =
    omega (arith, width_counted 128 c.args.values c.saturating_sub.result (omega arith) (omega arith), width_below c.args.values 64 h)

pub returns-clause-wide : goal.returns-clause-wide
returns-clause-wide c h =
    omega (arith, width_counted 128 c.args.values c.saturating_sub.result (omega arith) (omega arith), width_below c.args.values 72 h)
