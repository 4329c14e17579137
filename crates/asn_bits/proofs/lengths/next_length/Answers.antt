-- 10 and 14 bits are a number in 16.
use Rattle.std.proofs.Common.{◌≡◌, ◌+◌, ◌*◌, ◌^◌, ap, sym, ◌∙◌, arith}
use Rattle.asn_bits.specs.Numbers.{bits}
use Rattle.asn_bits.proofs.FirstLengths.{first_many, many_bits}
use Rattle.asn_bits.proofs.lengths.next_length.Goals as goal

pub returns-then-n-lt-BLOCK-clause-bits : goal.returns-then-n-lt-BLOCK-clause-bits
returns-then-n-lt-BLOCK-clause-bits c =
    let n = c.args.n in
    let e : 32768 + n ≡ 2 * 2 ^ 14 + n = omega arith in
    ap (bits 16) e ∙ many_bits n (omega arith) ∙ sym (ap (λ l. l.bits) (first_many n (omega arith) (omega arith)))
