use Rattle.std.proofs.Common.{arith}
use Rattle.asn_message.proofs.Filled.{element_more}
use Rattle.asn_message.proofs.flat.FlatBuild.element.Goals as goal

pub returns : goal.returns
returns c some s m ds d h k =
    element_more s m c.args._room.now c.args.row.now _ ds d h k (omega arith)
