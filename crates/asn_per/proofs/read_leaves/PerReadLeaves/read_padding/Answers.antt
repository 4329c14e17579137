use Rattle.std.proofs.Common.{arith}
use Rattle.std.proofs.lemmas.Grind.{common_steps}
use Rattle.asn_per.specs.Per.{per_fields}
use Rattle.asn_per.specs.Rules.{per_ruling}
use Rattle.asn_per.specs.Walk.{per_coding}
use Rattle.asn_per.proofs.read_leaves.PerReadLeaves.read_padding.Goals as goal

pub returns-clause-done : goal.returns-clause-done
unfolding per_coding per_ruling
returns-clause-done c =
    let h = c.read_padding.ensures.done per_fields in
    grind (arith, common_steps)

pub returns-clause-stop : goal.returns-clause-stop
unfolding per_coding per_ruling
returns-clause-stop c =
    let h = c.read_padding.ensures.stop per_fields in
    grind (arith, common_steps)
