-- The mask keeps the last k bits.
use Rattle.std.proofs.Common.{◌/◌, ◌^◌, bit_and, ap, ◌∙◌}
use Rattle.std.proofs.lemmas.Nat.{and_mask}
use Rattle.asn_bits.proofs.Reading.{word_mask}
use Rattle.asn_bits.proofs.cursor.field.Goals as goal

pub returns : goal.returns
returns c =
    let q = c.args.n / 2 ^ c.args.below in
    ap (bit_and q) (word_mask c.args.k c.requires.few) ∙ and_mask q c.args.k
