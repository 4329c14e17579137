-- The octets come after those that wait.
use Rattle.std.proofs.Common.{◌≡◌, ◌*◌, ◌-◌, ◌%◌, ◌^◌, ◌++◌, take, ◌∙◌}
use Rattle.asn_bits.specs.Numbers.{bits, octets}
use Rattle.asn_bits.proofs.Splits.{bytes-octets}
use Rattle.asn_window.proofs.Delivered.{retold}
use Rattle.asn_window.proofs.Shifting.{after_waiting, first_of_eight}
use Rattle.asn_window.proofs.octet_writer.OctetWriter.put_low.Goals as goal

pub returns : goal.returns
returns g c start coming all told =
    let n = c.args.n in
    let count = c.args.count in
    let bytes = c.to_be_bytes-octets.result in
    let word : bytes ≡ octets 8 (n * 2 ^ (64 - 8 * count) % 2 ^ 64) = c.to_be_bytes-octets.ensures ∙ bytes-octets 8 (n * 2 ^ (64 - 8 * count) % 2 ^ 64) in
    retold (after_waiting c.make_room.new.self.buffer (take count bytes) (bits (8 * count) n) coming c.extend_first.new.self c.extend_first.ensures
    (first_of_eight count n bytes c.requires word))
    (c.make_room.ensures.told start (bits (8 * count) n ++ coming) all told)
