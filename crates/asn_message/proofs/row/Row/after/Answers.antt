use Rattle.std.proofs.Common.{suc, drop, sym, ap, ◌∙◌}
use Rattle.asn_message.proofs.RowSteps.{after_nested, rest_of}
use Rattle.asn_message.proofs.row.Row.after.Goals as goal

pub invariant_of-result : goal.invariant_of-result
invariant_of-result c =
    record { nested = after_nested c.args.self.now.octets.now c.args.self.now.slots.now c.in-Some.slot.now c.in-Some.others.now c.in-Some.ensures.cases.0 c.args.self.now.nested }

pub returns-clause-last : goal.returns-clause-last
returns-clause-last c =
    let n = c.in-Some.slot.now.inside in
    (suc n, rest_of n c.in-Some.others.now ∙ sym (ap (drop (suc n)) c.in-Some.ensures.cases.0))
