-- A word goes out, and the bits after it wait.
use Rattle.std.proofs.Common.{◌≡◌, ◌++◌, ◌+◌, ◌-◌, refl, sym, ap, ◌∙◌, arith}
use Rattle.asn_bits.specs.Numbers.{bits}
use Rattle.asn_window.proofs.Delivered.{stands_same}
use Rattle.asn_window.proofs.Shifting.{shifted_on}
use Rattle.asn_window.proofs.bit_writer.BitWriter.put_across.Goals as goal

pub returns-then-count-eq0 : goal.returns-then-count-eq0
returns-then-count-eq0 g c start coming all told =
    let a = c.args in
    let w = a.self.now in
    let none : w.count ≡ 0 = omega arith in
    let whole : a.k ≡ 64 = omega (arith, none) in
    stands_same c.put_word.new.self (ap (λ i. bits i w.pending ++ coming) (sym none))
    (c.put_word.ensures start coming all
    (stands_same w.octets (ap (λ i. bits i w.pending ++ (bits a.k a.n ++ coming)) none ∙ ap (λ i. bits i a.n ++ coming) whole) told))

pub returns : goal.returns
returns g c start coming all told =
    let a = c.args in
    let w = a.self.now in
    let left = w.count + a.k - 64 in
    c.put_word-2.ensures start (bits left a.n ++ coming) all
    (stands_same w.octets (shifted_on w.count w.pending a.k a.n 64 left c.full_word.result (bits a.k a.n) coming c.requires.fits (omega arith) (omega arith) (omega arith) c.full_word.ensures refl) told)
