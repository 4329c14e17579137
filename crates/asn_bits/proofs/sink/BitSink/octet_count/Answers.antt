-- The octets, and those of the bits that wait.
use Rattle.std.proofs.Common.{◌≡◌, ◌++◌, ◌%◌, length, arith, ap, ◌∙◌}
use Rattle.asn_bits.specs.Numbers.{bits, unpacked}
use Rattle.asn_bits.proofs.Packing.{octets_wait, length-unpacked_bits}
use Rattle.asn_bits.proofs.sink.BitSink.octet_count.Goals as goal

pub returns : goal.returns
returns c =
    let s = c.self.inside in
    let v : unpacked s.octets.items ++ bits s.count s.pending ≡ c.args.self.now = c.self.view_is in
    let r : length (unpacked s.octets.items ++ bits s.count s.pending) % 8 ≡ 0 = ap (λ t. length t % 8) v ∙ c.requires in
    let z = octets_wait s.octets.items s.count s.pending r in
    omega (arith, z, ap length v, length-unpacked_bits s.octets.items s.count s.pending, c.len.ensures)
