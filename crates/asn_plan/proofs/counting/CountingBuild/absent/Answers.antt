use Rattle.std.proofs.Common.{arith}
use Rattle.asn_plan.proofs.Counts.{absent_counted}
use Rattle.asn_plan.proofs.counting.CountingBuild.absent.Goals as goal

pub returns : goal.returns
returns c some s es t =
    let n = c.in_ok-entries.ensures in
    let one = c.of_string.ensures in
    absent_counted c.args.entries.now c.in_ok-entries.field-0 es (omega (arith, n.entries, one.entries)) (omega (arith, n.octets, one.octets)) t
