use Rattle.std.proofs.Common.{refl}
use Rattle.asn_message.proofs.Filled.{choice_put}
use Rattle.asn_message.proofs.flat.FlatBuild.choice.Goals as goal

pub returns : goal.returns
returns c s m d h k =
    let p = c.in_ok-close.ensures in
    choice_put s m c.args.room.now c.close.new.self c.args.chosen c.args.place d h.0 h.1 k p.octets p.absent (p.slots refl)
