use Rattle.asn_plan.proofs.Counts.{element_counted}
use Rattle.asn_plan.proofs.counting.CountingBuild.element.Goals as goal

pub returns : goal.returns
returns c some s m ds d t q =
    element_counted c.args.row.now c.in_ok-row.field-0 c.args.part ds d c.in_ok-row.ensures.entries c.in_ok-row.ensures.octets t q
