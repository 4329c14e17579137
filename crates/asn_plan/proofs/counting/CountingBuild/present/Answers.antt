use Rattle.asn_plan.proofs.Counts.{present_counted}
use Rattle.asn_plan.proofs.counting.CountingBuild.present.Goals as goal

pub returns : goal.returns
returns c some s m es d t q =
    present_counted c.args.entries.now c.in_ok-entries.field-0 c.args.part es d c.in_ok-entries.ensures.entries c.in_ok-entries.ensures.octets t q
