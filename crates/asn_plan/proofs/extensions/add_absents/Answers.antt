use Rattle.std.proofs.Common.{refl}
use Rattle.asn_plan.proofs.Building.{absent_further}
use Rattle.asn_plan.proofs.extensions.add_absents.Goals as goal

pub loop-preserved : goal.loop-preserved
loop-preserved g c s es l =
    absent_further (g.B.Build.listed s c.loop.room c.loop.entries) (g.B.Build.listed s c.absent.new.room c.absent.new.entries) es c.loop.index (λ gs p. c.in_ok-absent.ensures refl s gs p) (c.loop.invariant s es l)
