use Rattle.asn_plan.proofs.message.build_octets.Goals as goal

pub returns-clause-some : goal.returns-clause-some
returns-clause-some g c t good p = c.in_ok-part.ensures t good (rw c.as_slice.ensures.value p)
