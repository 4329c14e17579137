-- The first bits of the number follow the last ones of what is above them.
use Rattle.std.proofs.Common.{arith, ◌∙◌}
use Rattle.asn_bits.proofs.Packing.{above_last, middle_is}
use Rattle.asn_bits.proofs.words.full_word.Goals as goal

pub shift_in-requires-clause-fits : goal.shift_in-requires-clause-fits
shift_in-requires-clause-fits c = above_last c.args.k c.args.n c.args.left c.requires.fits c.requires.within

pub returns : goal.returns
returns c =
    let a = c.args in
    c.shift_in.ensures ∙ middle_is a.high a.k a.n a.left c.requires.fits c.requires.within (omega arith)
