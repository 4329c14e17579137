use Rattle.std.proofs.Common.{refl}
use Rattle.asn_fields.proofs.Tiling.{lays_more}
use Rattle.asn_fields.proofs.laying.push_left.Goals as goal

pub loop-value-preserved : goal.loop-value-preserved
loop-value-preserved c =
    lays_more c.args.fields.now.items c.loop-value.fields.items c.push.new.self.items _ c.args.at c.args.values.now c.loop-value.value-index c.value-item.result c.in_ok-copy.copy
    c.loop-value-test.true c.value-item.is c.in_ok-copy.ensures.cases c.in_ok-push.ensures.items refl refl refl c.loop-value.invariant
