use Rattle.std.proofs.Common.{refl}
use Rattle.asn_message.proofs.Filled.{list_put}
use Rattle.asn_message.proofs.flat.FlatBuild.list.Goals as goal

pub returns : goal.returns
returns c s ds h =
    let p = c.in_ok-close.ensures in
    list_put s c.args.room.now c.close.new.self c.args.row ds h (p.few refl) p.octets p.absent (p.slots refl)
