-- The octets that wait go out, and the new ones follow them.
use Rattle.std.proofs.Common.{◌≡◌, ◌++◌, ◌*◌, ◌/◌, ◌%◌, refl, ap, ◌∙◌, arith}
use Rattle.asn_bits.specs.Numbers.{bits, octets, unpacked}
use Rattle.asn_bits.proofs.Packing.{octets_after, unpacked_whole, waiting_out}
use Rattle.asn_bits.proofs.sink.BitSink.append_after_bits.Goals as goal

pub returns-clause-ok : goal.returns-clause-ok
returns-clause-ok c =
    let s = c.self.inside in
    let a = c.args in
    let mid = c.push_low.new.bytes.items in
    let v : unpacked s.octets.items ++ bits s.count s.pending ≡ a.self.now = c.self.view_is in
    let whole : s.count % 8 ≡ 0 = omega arith in
    let out : mid ≡ s.octets.items ++ octets (s.count / 8) s.pending =
    c.push_low.ensures.items ∙ ap (λ t. t ++ octets (s.count / 8) s.pending) c.make_room.ensures.items in
    let front : unpacked mid ++ bits 0 s.pending ≡ a.self.now =
    unpacked_whole mid 0 s.pending refl ∙ waiting_out s.octets.items mid s.count s.pending whole out ∙ v in
    octets_after mid c.push_low-2.new.bytes.items 0 s.pending a.count a.n refl c.push_low-2.ensures.items
    ∙ ap (λ t. t ++ bits (8 * a.count) a.n) front
