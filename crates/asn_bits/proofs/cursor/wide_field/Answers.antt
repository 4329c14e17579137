-- The mask keeps the last k bits.
use Rattle.std.proofs.Common.{◌-◌, ◌/◌, ◌^◌, bit_and, arith, ap, ◌∙◌}
use Rattle.std.proofs.lemmas.Nat.{and_mask, one_shl}
use Rattle.asn_bits.proofs.cursor.wide_field.Goals as goal

pub returns : goal.returns
returns c =
    let q = c.args.n / 2 ^ c.args.below in
    ap (λ t. bit_and q (t - 1)) (one_shl c.args.k 128 (omega arith)) ∙ and_mask q c.args.k
