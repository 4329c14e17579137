-- The octets come after those that wait.
use Rattle.std.proofs.Common.{◌≡◌, ◌++◌, ap, ◌∙◌}
use Rattle.asn_bits.specs.Numbers.{bits, octets, unpacked}
use Rattle.asn_bits.proofs.Splits.{bytes-octets, unpacked-octets}
use Rattle.asn_window.proofs.Delivered.{retold}
use Rattle.asn_window.proofs.Shifting.{after_waiting}
use Rattle.asn_window.proofs.octet_writer.OctetWriter.put_word.Goals as goal

pub returns : goal.returns
returns g c start coming all told =
    let n = c.args.n in
    let bytes = c.to_be_bytes.result in
    let word : bytes ≡ octets 8 n = c.to_be_bytes.ensures ∙ bytes-octets 8 n in
    retold (after_waiting c.make_room.new.self.buffer bytes (bits 64 n) coming c.extend.new.self c.extend.ensures (ap unpacked word ∙ unpacked-octets 8 n))
    (c.make_room.ensures.told start (bits 64 n ++ coming) all told)
