use Rattle.asn_plan.proofs.NodeKinds.{sequence_is}
use Rattle.asn_plan.proofs.plan.ComponentRows.entries_if_nothing.Goals as goal

pub returns-then-single : goal.returns-then-single
returns-then-single c ns t p = rw c.if-single.true (sequence_is ns t c.args.self.now p).single

pub returns : goal.returns
returns c ns t p = rw c.if-single.false (sequence_is ns t c.args.self.now p).entries
