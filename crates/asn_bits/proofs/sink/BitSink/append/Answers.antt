-- In the word that waits, the new bits follow those that waited.
use Rattle.std.proofs.Common.{◌≡◌, ◌<◌, ◌++◌, arith, ap, ◌∙◌}
use Rattle.asn_bits.specs.Numbers.{bits, unpacked}
use Rattle.asn_bits.proofs.Packing.{waiting_view}
use Rattle.asn_bits.proofs.sink.BitSink.append.Goals as goal

pub returns-clause-ok : goal.returns-clause-ok
returns-clause-ok c =
    let s = c.self.inside in
    let a = c.args in
    let v : unpacked s.octets.items ++ bits s.count s.pending ≡ a.self.now = c.self.view_is in
    waiting_view s.octets.items s.count s.pending a.k a.n c.shift_in-self-inside.result c.requires.fits (omega arith) c.shift_in-self-inside.ensures ∙ ap (λ t. t ++ bits a.k a.n) v

pub invariant_of-self : goal.invariant_of-self
invariant_of-self c =
    let h = c.self.invariant.0 in
    let some : 0 < c.self.inside.most = omega (arith, c.if-count-self.false) in
    let w = h.2 some in
    ((omega (arith, c.if-count-self.false, h.1), h.1, h.2), (λ k. w.1, λ k. absurd (omega (arith, k, w.0))))
