-- The octets come after those that wait.
use Rattle.std.proofs.Common.{refl}
use Rattle.asn_bits.specs.Numbers.{unpacked}
use Rattle.asn_window.proofs.Delivered.{retold}
use Rattle.asn_window.proofs.Shifting.{after_waiting}
use Rattle.asn_window.proofs.octet_writer.OctetWriter.put_octets.Goals as goal

pub returns-then-octets-room : goal.returns-then-octets-room
returns-then-octets-room g c start coming all told =
    let os = c.args.octets.now in
    retold (after_waiting c.args.self.now.buffer os (unpacked os) coming c.extend.new.self c.extend.ensures refl) told
