use Rattle.asn_message.proofs.Filled.{put_alone}
use Rattle.asn_message.proofs.flat.put_slot.Goals as goal

pub returns : goal.returns
returns c some r d grows same before none is =
    let p = c.push.ensures in
    put_alone r c.args.room.now c.push.new.self c.args.content d grows same before p.octets (p.absent some) (p.slots some) none is
