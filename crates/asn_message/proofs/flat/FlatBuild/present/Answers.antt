use Rattle.std.proofs.Common.{arith}
use Rattle.asn_message.proofs.Filled.{present_more}
use Rattle.asn_message.proofs.flat.FlatBuild.present.Goals as goal

pub returns : goal.returns
returns c some s m es d h k =
    present_more s m c.args._room.now c.args.entries.now _ es d h k (omega arith)
