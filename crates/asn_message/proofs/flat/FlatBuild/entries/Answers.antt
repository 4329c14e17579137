use Rattle.std.proofs.Common.{pos, refl}
use Rattle.asn_message.specs.declared.slots.Content.TheVariants as content
use Rattle.asn_message.proofs.Filled.{no_entries}
use Rattle.asn_message.proofs.flat.FlatBuild.entries.Goals as goal

pub returns : goal.returns
returns c =
    let p = c.in_ok-at.ensures in
    no_entries c.args.room.now c.begin.new.self _ (content.Number (pos 0)) p.octets (p.absent refl) (p.slots refl) p.at refl
