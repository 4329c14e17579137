use Rattle.std.proofs.Common.{pos, refl}
use Rattle.asn_message.specs.declared.slots.Content.TheVariants as content
use Rattle.asn_message.proofs.Filled.{begun}
use Rattle.asn_message.proofs.flat.FlatBuild.choosing.Goals as goal

pub returns : goal.returns
returns c =
    let p = c.in_ok-chosen.ensures in
    (begun c.args.room.now c.begin.new.self (content.Number (pos 0)) _ p.octets (p.slots refl) p.at, p.absent refl)
