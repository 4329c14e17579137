-- Bits that fill octets go out before the octets.
use Rattle.std.proofs.Common.{◌≡◌, ◌*◌, ◌/◌, ◌++◌, sym, ap, arith}
use Rattle.asn_bits.specs.Numbers.{bits}
use Rattle.asn_window.proofs.Delivered.{stands_same}
use Rattle.asn_window.proofs.bit_writer.BitWriter.put_low_after_bits.Goals as goal

pub returns-then-self-gt0 : goal.returns-then-self-gt0
returns-then-self-gt0 g c start coming all told =
    let w = c.args.self.now in
    c.put.ensures start coming all
    (stands_same w.octets (ap (λ xs. bits w.count w.pending ++ (xs ++ coming)) (sym c.last_octets.ensures.same)) told)

pub returns : goal.returns
returns g c start coming all told =
    let w = c.args.self.now in
    let new = bits (8 * c.args.count) c.args.n ++ coming in
    let whole : w.count ≡ 8 * (w.count / 8) = omega arith in
    c.put_low-2.ensures start coming all
    (c.put_low.ensures start new all (stands_same w.octets (ap (λ i. bits i w.pending ++ new) whole) told))
