use Rattle.std.proofs.Common.{◌≡◌, ◌%◌, arith}
use Rattle.asn_oer.specs.Rules.{oer_ruling}
use Rattle.asn_oer.specs.Walk.{oer_coding}
use Rattle.asn_oer.proofs.Plan.OctetsRead.{octets_after, word_in_front}
use Rattle.asn_oer.proofs.plan_leaves.OerPlanLeaves.take_word.Goals as goal

pub returns-clause-at_unit : goal.returns-clause-at_unit
unfolding oer_coding oer_ruling
returns-clause-at_unit c =
    let w = c.take_bits.result in
    let whole : w.left % 8 ≡ 0 = c.take_bits.ensures.whole (omega arith) in
    octets_after w.left w.bits c.args.units.now c.take_bits.new.units whole c.take_bits.ensures.taken c.requires.at_unit

pub returns-clause-taken : goal.returns-clause-taken
unfolding oer_coding oer_ruling
returns-clause-taken c =
    let w = c.take_bits.result in
    let whole : w.left % 8 ≡ 0 = c.take_bits.ensures.whole (omega arith) in
    word_in_front w c.args.units.now c.take_bits.new.units whole c.take_bits.ensures.taken
