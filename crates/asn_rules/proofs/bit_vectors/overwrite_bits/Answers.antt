-- Each turn writes the next bit.
use Rattle.std.proofs.Common.{[], length, take, ◌∙◌, arith}
use Rattle.std.proofs.lemmas.List.{take_more_set, length-set}
use Rattle.asn_rules.proofs.Plain.BitVectors.{next_bit}
use Rattle.asn_rules.proofs.bit_vectors.overwrite_bits.Goals as goal

pub loop-i-preserved : goal.loop-i-preserved
loop-i-preserved c =
    let l = c.loop-i in
    let b = c.bit_at.result in
    let next = take_more_set l.truths l.i b (omega (arith, c.loop-i-test.true, l.invariant.1)) in (
      next_bit (length c.args.truths.now) l.i c.args.number b (take l.i l.truths) [] _ c.loop-i-test.true c.bit_at.ensures l.invariant.0 next,
      length-set l.truths l.i b ∙ l.invariant.1,
    )
