-- The bits fill octets exactly where those that wait do.
use Rattle.std.proofs.Common.{◌≡◌, ◌++◌, ◌*◌, ◌+◌, ◌%◌, length, arith, ap, sym, ◌∙◌, eq-eqb, eqb-true}
use Rattle.asn_bits.specs.Numbers.{bits, unpacked}
use Rattle.asn_bits.proofs.Packing.{length-unpacked_bits}
use Rattle.asn_bits.proofs.sink.BitSink.ends_at_octet.Goals as goal

pub returns : goal.returns
returns c =
    let s = c.self.inside in
    let v : unpacked s.octets.items ++ bits s.count s.pending ≡ c.args.self.now = c.self.view_is in
    let l : length c.args.self.now ≡ 8 * length s.octets.items + s.count = ap length (sym v) ∙ length-unpacked_bits s.octets.items s.count s.pending in
    (λ t. let z : s.count % 8 ≡ 0 = eqb-true (s.count % 8) 0 t in omega arith, λ e. eq-eqb (s.count % 8) 0 (omega arith))
