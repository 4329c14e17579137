use Rattle.std.proofs.Common.{arith}
use Rattle.asn_per.specs.Rules.{per_ruling}
use Rattle.asn_per.specs.Walk.{per_coding}
use Rattle.asn_plan.specs.Words.{before}
use Rattle.asn_plan.proofs.NodeKinds.{if_some}
use Rattle.asn_per.proofs.Plan.WordsRead.{bits_taken, item_indexed}
use Rattle.asn_per.proofs.plan_leaves.PerPlanLeaves.next_item.Goals as goal

pub returns : goal.returns
unfolding per_coding per_ruling
returns c us =
    let n = c.in_ok-index.index in
    let e = c.args.items.now in
    let split = bits_taken c.args.word.now c.take_below.new.self e.bits n us c.in_ok-index.ensures.some in
    item_indexed e n n (before per_coding c.args.word.now us) (before per_coding c.take_below.new.self us) c.requires (c.requires.order.in_place n (omega (arith, c.if-index-from.false, c.from.ensures))) split

pub returns-then-index-from : goal.returns-then-index-from
unfolding per_coding per_ruling
returns-then-index-from c =
    let n = c.in_ok-index.index in
    let e = c.args.items.now in
    if_some c.sorted_position.result _ _ (λ p has us. (
    let split = bits_taken c.args.word.now c.take_below.new.self e.bits n us c.in_ok-index.ensures.some in
    item_indexed e p n (before per_coding c.args.word.now us) (before per_coding c.take_below.new.self us) c.requires has split)) c.sorted_position.ensures
