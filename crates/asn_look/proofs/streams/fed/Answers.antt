use Rattle.asn_look.proofs.streams.fed.Goals as goal

pub returns-clause-end : goal.returns-clause-end
returns-clause-end g c = λ end. absurd (c.in_ok-used.ensures.some end)
