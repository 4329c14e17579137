-- All bits wait, or a word of them goes out.
use Rattle.std.proofs.Common.{arith}
use Rattle.asn_window.proofs.Delivered.{stands_same}
use Rattle.asn_window.proofs.Shifting.{waits}
use Rattle.asn_window.proofs.bit_writer.BitWriter.put.Goals as goal

pub returns-then-self-k-lt64 : goal.returns-then-self-k-lt64
returns-then-self-k-lt64 g c start coming all told =
    let a = c.args in
    let w = a.self.now in
    stands_same w.octets (waits w.count w.pending a.k a.n c.shift_in-self.result coming c.requires.fits (omega arith) c.shift_in-self.ensures) told
