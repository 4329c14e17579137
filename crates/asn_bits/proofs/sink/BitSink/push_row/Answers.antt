-- Where no bits wait the octets follow at once.
use Rattle.std.proofs.Common.{◌≡◌, ◌++◌, ap, ◌∙◌, arith}
use Rattle.asn_bits.specs.Numbers.{bits, unpacked}
use Rattle.asn_bits.proofs.Packing.{whole_after}
use Rattle.asn_bits.proofs.sink.BitSink.push_row.Goals as goal

pub returns-then-capacity-len-clause-ok : goal.returns-then-capacity-len-clause-ok
returns-then-capacity-len-clause-ok c =
    let s = c.self.inside in
    let a = c.args in
    let v : unpacked s.octets.items ++ bits s.count s.pending ≡ a.self.now = c.self.view_is in
    let none : s.count ≡ 0 = omega (arith, c.if-self-eq0.true) in
    whole_after s.octets.items c.push_all.new.into.items a.octets.now s.count s.pending none c.push_all.ensures.items
    ∙ ap (λ t. t ++ unpacked a.octets.now) v
