use Rattle.std.proofs.Common.{refl, arith}
use Rattle.asn_message.proofs.Filled.{absent_more}
use Rattle.asn_message.proofs.flat.FlatBuild.absent.Goals as goal

pub returns : goal.returns
returns c some s es h =
    absent_more s c.args.room.now _ c.args.entries.now _ es h refl refl (omega (arith, c.in_ok-room.ensures)) (omega (arith, c.in_ok-room.ensures)) (omega arith)
