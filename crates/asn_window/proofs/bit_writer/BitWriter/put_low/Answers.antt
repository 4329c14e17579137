-- Where no bits wait the octets come after those that do.
use Rattle.std.proofs.Common.{◌≡◌, ◌*◌, ◌++◌, sym, ap, arith}
use Rattle.asn_bits.specs.Numbers.{bits}
use Rattle.asn_window.proofs.Delivered.{stands_same}
use Rattle.asn_window.proofs.bit_writer.BitWriter.put_low.Goals as goal

pub returns-then-self-eq0 : goal.returns-then-self-eq0
returns-then-self-eq0 g c start coming all told =
    let w = c.args.self.now in
    let none : w.count ≡ 0 = omega arith in
    let new = bits (8 * c.args.count) c.args.n ++ coming in
    stands_same c.put_low.new.self (ap (λ i. bits i w.pending ++ coming) (sym none))
    (c.put_low.ensures start coming all (stands_same w.octets (ap (λ i. bits i w.pending ++ new) none) told))
