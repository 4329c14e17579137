use Rattle.asn_json.proofs.read.choice_read.Goals as goal

pub returns-in-Err-clause-refused : goal.returns-in-Err-clause-refused
returns-in-Err-clause-refused c = λ paths h. c.below_member.ensures paths (rw c.in-Err.is at h)
