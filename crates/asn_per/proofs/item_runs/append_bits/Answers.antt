use Rattle.std.proofs.Common.{arith}
use Rattle.asn_per.proofs.InPieces.Runs.{next_held}
use Rattle.asn_per.proofs.item_runs.append_bits.Goals as goal

pub loop-i-preserved : goal.loop-i-preserved
loop-i-preserved c = (
  next_held c.loop-i.i c.args.count c.args.word c.bit_at.result (omega (arith, c.loop-i-test.true)) c.bit_at.ensures c.push_reserved.ensures.items c.loop-i.invariant.0,
  omega (arith, c.push_reserved.ensures.len, c.loop-i.invariant.1),
  omega (arith, c.push_reserved.ensures.capacity, c.loop-i.invariant.2),
)
