use Rattle.std.proofs.Common.{rules, ◌≡◌, ◌+◌, ◌-◌, ◌%◌, ◌^◌, refl, arith}
use Rattle.asn_message.proofs.Filled.{sequence_put}
use Rattle.asn_message.proofs.flat.FlatBuild.sequence.Goals as goal

pub returns : goal.returns
returns c s es h =
    let p = c.in_ok-close.ensures in
    let e = c.args.entries in
    let taken : c.in_ok-taken.taken ≡ (e.count + 2 ^ 64 - c.args.room.now.absent) % 2 ^ 64 = search (rules, arith) in
    sequence_put s c.args.room.now c.close.new.self e c.in_ok-taken.taken es h (p.few refl) taken p.octets p.absent (p.slots refl)
