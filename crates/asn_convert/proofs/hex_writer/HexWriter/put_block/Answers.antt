use Rattle.std.proofs.Common.{◌≡◌, ◌≤◌, ◌*◌, ◌+◌, ◌/◌, arith, length, subst, ap, take}
use Rattle.std.specs.Io.KnownBytes.{Appends}
use Rattle.hex.specs.Hex.{encode_lower}
use Rattle.asn_rules.specs.Faults.{inner_of}
use Rattle.asn_convert.proofs.HexDigits.{more_known, digits_twice}
use Rattle.asn_convert.proofs.hex_writer.HexWriter.put_block.Goals as goal

pub returns-clause-written : goal.returns-clause-written
returns-clause-written g c =
    let xs = c.args.octets.now in
    let sent = c.append-sent.result in
    let old = g.W.Write.contents (inner_of c.args.self.now.output.now) in
    let new = g.W.Write.contents (inner_of c.append-sent.new.self) in
    let digits : c.digits_of-digits.result.now ≡ encode_lower xs = c.digits_of-digits.ensures.digits in
    let wrote : Appends old new (take sent (encode_lower xs)) = subst (λ ds. Appends old new (take sent ds)) digits c.append-sent.ensures.written in
    let few : sent ≤ 2 * length xs = omega (arith, c.append-sent.ensures.few, ap length digits, digits_twice xs) in
    let none = c.requires.whole in
    let half : c.div_ceil-taken.result ≡ (sent + 1) / 2 = omega (arith, c.div_ceil-taken.ensures) in
    rw (none, half, c.half_of-self.ensures) (more_known old new c.args.self.now.count sent xs (λ i. omega (arith, c.type_inv.octets i)) few wrote)
