-- Where a word holds both numbers, they are one.
use Rattle.std.proofs.Common.{◌≡◌, ◌++◌, ◌+◌, ◌∙◌, [], append_assoc, ap, sym}
use Rattle.std.proofs.lemmas.Result.{on_ok_weaker}
use Rattle.asn_bits.specs.Numbers.{bits}
use Rattle.asn_bits.proofs.Packing.{waiting_view, both_fit}
use Rattle.asn_bits.proofs.sink.BitSink.append_both.Goals as goal

pub append-requires-clause-fits : goal.append-requires-clause-fits
append-requires-clause-fits c =
    both_fit c.args.j c.args.m c.args.k c.args.n c.shift_in.result c.requires.fits.0 c.requires.fits.1 c.shift_in.ensures

pub returns-then-j-k-le64-clause-ok : goal.returns-then-j-k-le64-clause-ok
returns-then-j-k-le64-clause-ok c =
    let a = c.args in
    let old = a.self.now in
    let both : bits (a.j + a.k) c.shift_in.result ≡ bits a.j a.m ++ bits a.k a.n =
    waiting_view [] a.j a.m a.k a.n c.shift_in.result c.requires.fits.1 c.if-j-k-le64.true c.shift_in.ensures in
    on_ok_weaker c.append.result (λ e. e ∙ ap (λ t. old ++ t) both ∙ sym (append_assoc old (bits a.j a.m) (bits a.k a.n))) c.append.ensures.ok
