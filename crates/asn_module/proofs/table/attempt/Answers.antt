use Rattle.std.proofs.Common.{refl, arith}
use Rattle.std.proofs.lemmas.Grind.{common_steps}
use Rattle.asn_module.proofs.table.attempt.Goals as goal

pub returns-in-Some-clause-attempted : goal.returns-in-Some-clause-attempted
returns-in-Some-clause-attempted c =
    let known = rw c.in-Some.is at c.in_ok-known.ensures.known in
    record {
      named = c.index_mut.result.now;
      known = c.in-Some.known;
      there = c.index_mut.ensures.value;
      before = grind (arith, common_steps);
      now = refl;
      is = rw c.deref.ensures.value at known.0;
      of_profile = known.1;
    }
