use Rattle.std.proofs.Common.{inl, inr, refl, arith}
use Rattle.asn_oer.proofs.Read.ItemReading.{up_to}
use Rattle.asn_oer.proofs.enumerated.find_item.Goals as goal

pub loop-position-init : goal.loop-position-init
loop-position-init c p rest h b = absurd (omega (arith, h))

pub loop-position-preserved : goal.loop-position-preserved
loop-position-preserved c p rest h b =
    elim (up_to c.loop-position.position p h) [
      | inl l ↦ c.loop-position.invariant p rest l b
      | inr l ↦ c.in_default.ensures.none refl rest (rw l at b)
    ]

pub returns-2-clause-none : goal.returns-2-clause-none
returns-2-clause-none c _ p rest b = c.loop-position.invariant p rest (omega (arith, b.there, c.item_count-all.ensures, c.loop-position-test.false)) b
