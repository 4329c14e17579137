-- The number takes the bits that the shift left free.
use Rattle.std.proofs.Common.{◌+◌, ◌-◌, ◌%◌, ◌^◌, bit_or, arith, ap, sym, ◌∙◌}
use Rattle.std.proofs.lemmas.Nat.{or_shifted}
use Rattle.asn_bits.proofs.Packing.{shifted_out}
use Rattle.asn_bits.proofs.words.shift_in.Goals as goal

pub returns : goal.returns
returns c =
    let a = c.args in
    let e = shifted_out a.high a.k 64 (omega arith) in
    ap (λ t. bit_or t a.n) e ∙ or_shifted (a.high % 2 ^ (64 - a.k)) a.k a.n c.requires.fits ∙ ap (λ t. t + a.n) (sym e)
