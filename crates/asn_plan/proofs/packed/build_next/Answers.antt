use Rattle.asn_plan.proofs.NodeKinds.{if_some}
use Rattle.asn_plan.proofs.packed.build_next.Goals as goal

pub returns-in-Sequence-clause-some : goal.returns-in-Sequence-clause-some
returns-in-Sequence-clause-some g c =
    if_some c.build_row.result _ _ (λ p built t good plan. built t good (rw c.in-Sequence.is at plan)) c.build_row.ensures.some
