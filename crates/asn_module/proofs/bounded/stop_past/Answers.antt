use Rattle.std.proofs.Common.{refl}
use Rattle.asn_module.proofs.Tables.{larger_than}
use Rattle.asn_module.proofs.bounded.stop_past.Goals as goal

pub returns-clause-stopped : goal.returns-clause-stopped
returns-clause-stopped c =
    rw c.in-Some.is (larger_than c.args.assignments.now c.args.names.now c.in-Some.bound c.requires.sound (c.if-not-is_larger.ensures.larger refl))
