use Rattle.asn_plan.proofs.Counts.{string_counted}
use Rattle.asn_plan.proofs.counting.CountingBuild.string.Goals as goal

pub returns : goal.returns
returns c d is =
    string_counted c.args.fixed.now c.args._number c.of_string.result d c.of_string.ensures.entries c.of_string.ensures.octets is
