-- The octets that wait go out, and then the others, shifted.
use Rattle.std.proofs.Common.{◌++◌, ◌%◌}
use Rattle.asn_bits.specs.Numbers.{bits, unpacked}
use Rattle.asn_window.proofs.Delivered.{stands_same}
use Rattle.asn_window.proofs.Shifting.{whole_out}
use Rattle.asn_window.proofs.bit_writer.BitWriter.put_octets.Goals as goal

pub returns : goal.returns
returns g c start coming all told =
    let w = c.args.self.now in
    let os = unpacked c.args.octets.now in
    c.put_shifted-self.ensures start coming all
    (c.put_low.ensures start (bits (w.count % 8) w.pending ++ (os ++ coming)) all (stands_same w.octets (whole_out w.count w.pending (os ++ coming)) told))
