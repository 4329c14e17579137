use Rattle.std.proofs.Common.{◌≡◌, ◌-◌, length, drop, refl}
use Rattle.asn_message.proofs.RowSteps.{rest_of}
use Rattle.asn_message.proofs.Sourced.{leaves_last}
use Rattle.asn_message.proofs.leafed.Leafed.at.Goals as goal

pub invariant_of-result : goal.invariant_of-result
invariant_of-result c =
    let s = c.args.self in
    let n = c.requires.last.0 in
    let slots : c.args.row.slots.now ≡ drop n s.row.slots.now = c.requires.last.1 in
    let octets : c.args.row.octets.now ≡ s.row.octets.now = c.requires.octets in
    let count = length (drop n s.row.slots.now) in
    record { leafed = rw (octets, slots, rest_of (length s.leaves.now - 1 - count) s.leaves.now) (leaves_last s.row.octets.now s.row.slots.now s.leaves.now n count s.leafed refl) }
