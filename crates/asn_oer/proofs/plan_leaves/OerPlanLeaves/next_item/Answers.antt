use Rattle.std.proofs.Common.{arith}
use Rattle.asn_oer.specs.Rules.{oer_ruling}
use Rattle.asn_oer.specs.Walk.{oer_coding}
use Rattle.asn_plan.specs.Words.{before}
use Rattle.asn_oer.proofs.Plan.OctetsRead.{octets_taken, item_held}
use Rattle.asn_oer.proofs.plan_leaves.OerPlanLeaves.next_item.Goals as goal

pub returns : goal.returns
unfolding oer_coding oer_ruling
returns c us =
    let row = c.requires.octets (omega (arith, c.if-items-eq0.false)) in
    item_held c.args.items.now c.in_ok-position.position c.in_ok-octet.octet (before oer_coding c.args.word.now us) (before oer_coding c.take.new.self us) c.requires row (omega (arith, c.if-position-last.false, c.from-last.ensures)) (omega (arith, c.in_ok-position.ensures)) (octets_taken c.args.word.now c.take.new.self 1 c.in_ok-octet.octet us c.in_ok-octet.ensures.some)
