use Rattle.std.proofs.Common.{◌≡◌, ◌∙◌, arith}
use Rattle.std.proofs.lemmas.Int.{ints}
use Rattle.asn_plan.proofs.ItemNumbers.{one_numbered}
use Rattle.asn_plan.proofs.lean.numbered_items.Goals as goal

pub loop-place-preserved : goal.loop-place-preserved
loop-place-preserved c =
    rw c.in_ok-push.ensures.items (one_numbered c.loop-place.numbered.items c.args.items.now c.loop-place.place c.index-items-place.result _ c.loop-place-test.true c.index-items-place.is (c.in_ok-name.ensures.ok ∙ c.as_str.ensures.value) (omega (arith, ints, c.loop-place-test.true)) c.loop-place.invariant)
