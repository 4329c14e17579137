-- Where no bits wait the octets follow at once.
use Rattle.std.proofs.Common.{◌≡◌, ◌<◌, ◌++◌, ◌*◌, ap, ◌∙◌, arith}
use Rattle.asn_bits.specs.Numbers.{bits, unpacked}
use Rattle.asn_bits.proofs.Packing.{octets_after}
use Rattle.asn_bits.proofs.sink.BitSink.push_low_octets.Goals as goal

pub push_low-requires-clause-room : goal.push_low-requires-clause-room
push_low-requires-clause-room c =
    let s = c.self.inside in
    let some : 0 < s.limit = omega arith in
    let room = (c.self.invariant.1.1 some).1 in
    omega (arith, room)

pub invariant_of-self : goal.invariant_of-self
invariant_of-self c =
    let s = c.self.inside in
    let some : 0 < s.limit = omega arith in
    let w = c.self.invariant.1.1 some in
    let none = w.0 in
    let room = w.1 in
    (omega (arith, none), (λ h. omega (arith, none, h), λ h. (none, omega (arith, room, c.push_low.ensures.capacity))))

pub returns-clause-ok : goal.returns-clause-ok
returns-clause-ok c =
    let s = c.self.inside in
    let a = c.args in
    let some : 0 < s.limit = omega arith in
    let none = (c.self.invariant.1.1 some).0 in
    let v : unpacked s.octets.items ++ bits s.count s.pending ≡ a.self.now = c.self.view_is in
    octets_after s.octets.items c.push_low.new.bytes.items s.count s.pending a.count a.n none c.push_low.ensures.items
    ∙ ap (λ t. t ++ bits (8 * a.count) a.n) v
