use Rattle.asn_rules.proofs.Plain.BitVectors.{next_bit}
use Rattle.asn_rules.proofs.bit_vectors.push_bits.Goals as goal

pub loop-i-preserved : goal.loop-i-preserved
loop-i-preserved c =
    next_bit c.args.count c.loop-i.i c.args.number c.bit_at.result c.loop-i.into.items c.args.into.now.items c.push.new.self.items c.loop-i-test.true c.bit_at.ensures c.loop-i.invariant c.in_ok-push.ensures.items
