use Rattle.std.proofs.Common.{refl}
use Rattle.asn_values.specs.View.{entries_seen}
use Rattle.asn_message.proofs.Restored.{restored_one}
use Rattle.asn_message.proofs.restoring.value_of.Goals as goal

pub loop-i-preserved : goal.loop-i-preserved
loop-i-preserved c =
    let told = c.in_ok-restore.ensures refl in
    restored_one c.args.octets.now c.in-Some.others.now c.loop-i.i _ _ (entries_seen c.loop-i.left.items) (entries_seen c.restore.new.left.items) c.loop-i-test.true refl c.loop-i.invariant told
